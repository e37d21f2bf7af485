use Rattle.std.proofs.Common.{◌≡◌, ℕ, List, [], ◌∷◌, ◌++◌, reverse, refl, sym, ap, ◌∙◌, subst, Ok, Err, arith}
use Rattle.std.proofs.lemmas.List.{append_assoc, reverse-append, reverse-reverse}
use Rattle.echo_nodelist.specs.{declared.line.Line.Line, declared.fault.NodeFault.NodeFault, Raw.node_lines, Nodelist.AreRead, Nodelist.NodelistFaultOf, Nodelist.NodelistOf, Nodelist.line_outcome}

same_read : (raws : List (List ℕ)) (some others : List Line) → AreRead raws some → AreRead raws others → some ≡ others
same_read [] [] [] s o = refl
same_read [] [] (line ∷ others) s o = absurd o
same_read [] (line ∷ some) others s o = absurd s
same_read (raw ∷ raws) [] others s o = absurd s
same_read (raw ∷ raws) (line ∷ some) [] s o = absurd o
same_read (raw ∷ raws) (line ∷ some) (other ∷ others) s o =
    let earlier = same_read raws some others s.1 o.1 in
    let both : Ok line ≡ Ok other = sym s.0 ∙ ap (λ ls. line_outcome ls raw) earlier ∙ o.0 in
    let here : line ≡ other = cc in
    ap (λ l. l ∷ some) here ∙ ap (λ ls. other ∷ ls) earlier

pub same_nodelist : (bytes : List ℕ) (some others : List Line) → NodelistOf bytes some → NodelistOf bytes others → some ≡ others
same_nodelist bytes some others s o =
    sym (reverse-reverse some) ∙ ap reverse (same_read (reverse (node_lines bytes)) (reverse some) (reverse others) s o) ∙ reverse-reverse others

record Before (raw : List ℕ) (raws : List (List ℕ)) : Type 0 where
  line : Line
  earlier : List Line
  said : line_outcome earlier raw ≡ Ok line
  read : AreRead raws earlier

before : (later : List (List ℕ)) (raw : List ℕ) (raws : List (List ℕ)) (lines : List Line) → AreRead (later ++ raw ∷ raws) lines → Before raw raws
before [] raw raws [] r = absurd r
before [] raw raws (line ∷ earlier) r = record { line = line; earlier = earlier; said = r.0; read = r.1 }
before (next ∷ later) raw raws [] r = absurd r
before (next ∷ later) raw raws (line ∷ earlier) r = before later raw raws earlier r.1

front_faulty : (front : List (List ℕ)) (raw : List ℕ) (later : List (List ℕ)) (lines earlier : List Line) (fault : NodeFault)
    → AreRead (reverse (front ++ raw ∷ later)) lines → AreRead (reverse front) earlier → line_outcome earlier raw ≡ Err fault → ⊥
front_faulty front raw later lines earlier fault read good faulty =
    let pieces : reverse (front ++ raw ∷ later) ≡ reverse later ++ raw ∷ reverse front =
    reverse-append front (raw ∷ later)
    ∙ ap (λ l. l ++ reverse front) (reverse-append (raw ∷ []) later)
    ∙ append_assoc (reverse later) (raw ∷ []) (reverse front)
    in
    let b = before (reverse later) raw (reverse front) lines (subst (λ rs. AreRead rs lines) pieces read) in
    let same : b.earlier ≡ earlier = same_read (reverse front) b.earlier earlier b.read good in
    let both : Ok b.line ≡ Err fault = sym b.said ∙ ap (λ ls. line_outcome ls raw) same ∙ faulty in
    absurd cc

pub none_faulty : (bytes : List ℕ) (lines : List Line) (fault : NodeFault) → NodelistOf bytes lines → NodelistFaultOf bytes fault → ⊥
none_faulty bytes lines fault read faulty = grind (arith, front_faulty)

data Places (first : List (List ℕ)) (a : List ℕ) (second : List (List ℕ)) (b : List ℕ) : Type 0 where
  together : first ≡ second → a ≡ b → Places first a second b
  earlier : (between : List (List ℕ)) → second ≡ first ++ a ∷ between → Places first a second b
  later : (between : List (List ℕ)) → first ≡ second ++ b ∷ between → Places first a second b

places : (first second : List (List ℕ)) (a b : List ℕ) (xs ys : List (List ℕ)) → first ++ a ∷ xs ≡ second ++ b ∷ ys → Places first a second b
places [] [] a b xs ys is = together refl cc
places [] (s ∷ second) a b xs ys is = let same : a ≡ s = cc in earlier second (ap (λ l. l ∷ second) (sym same))
places (f ∷ first) [] a b xs ys is = let same : f ≡ b = cc in later first (ap (λ l. l ∷ first) same)
places (f ∷ first) (s ∷ second) a b xs ys is =
    let head : f ≡ s = cc in
    let tail : first ++ a ∷ xs ≡ second ++ b ∷ ys = cc in
    onward head (places first second a b xs ys tail)
  where
    onward : f ≡ s → Places first a second b → Places (f ∷ first) a (s ∷ second) b
    onward head (together e h) = together (ap (λ l. l ∷ first) head ∙ ap (λ ls. s ∷ ls) e) h
    onward head (earlier m e) = earlier m (ap (λ l. l ∷ second) (sym head) ∙ ap (λ ls. f ∷ ls) e)
    onward head (later m e) = later m (ap (λ l. l ∷ first) head ∙ ap (λ ls. s ∷ ls) e)

pub same_fault : (bytes : List ℕ) (one other : NodeFault) → NodelistFaultOf bytes one → NodelistFaultOf bytes other → one ≡ other
same_fault bytes one other f g = grind (arith, places, same_read, front_faulty)
