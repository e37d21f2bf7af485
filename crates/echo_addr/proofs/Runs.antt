-- Runs of entries that fill a line: how to add one in front, and that a list has one cut into them.
use Rattle.std.proofs.Common.{◌≡◌, ℕ, ◌+◌, ◌<◌, ◌≤◌, List, [], ◌∷◌, ◌++◌, length, take, drop, refl, sym, ap, ◌∙◌, arith, Some, None, Option, inl, inr, subst}
use Rattle.std.proofs.lemmas.List.{append_assoc, length-append, take-append-drop, take-append-le, take_at, drop_at, take_more, drop_more, drop_all, length-take-le, append-nil, nil_from_length}
use Rattle.std.proofs.lemmas.Bool.{cases_lt}
use Rattle.std.specs.List.{flat_map}
use Rattle.echo_addr.specs.ShortLines.{line_room, entry_text, entries_text, line_front, line_of, IsFull, AddsLines, AreRuns, ShortLines}
use Rattle.echo_addr.specs.declared.address.NetNode.{NetNode}

abbrev nowhere : NetNode
nowhere = record { net = 0; node = 0 }

full_run : (prefix : List ℕ) (xs : List NetNode) (k : ℕ) → (k < length xs → line_room < length (line_front prefix (take (k + 1) xs)))
    → IsFull prefix (take k xs) (drop k xs)
full_run prefix xs k full = elim (cases_lt k (length xs)) [
  | inl more ↦
      let P : List NetNode → Type 0 = λ run. line_room < length (line_front prefix run) in
      subst (IsFull prefix (take k xs)) (sym (drop_more xs k nowhere more)) (subst P (take_more xs k nowhere more) (full more))
  | inr all ↦ subst (IsFull prefix (take k xs)) (sym (drop_all k xs all)) tt
]

pub ShortLines-cons : (prefix : List ℕ) (xs : List NetNode) (k : ℕ) (tail : List ℕ) → 0 < k → k ≤ length xs
    → length (line_front prefix (take k xs)) ≤ line_room
    → (k < length xs → line_room < length (line_front prefix (take (k + 1) xs)))
    → ShortLines prefix (drop k xs) tail
    → ShortLines prefix xs (line_of prefix (entries_text None (take k xs)) ++ tail)
ShortLines-cons prefix xs k tail some within room full later = record {
  runs = take k xs ∷ later.runs;
  cut = sym (take-append-drop k xs) ∙ ap (λ t. take k xs ++ t) later.cut;
  lines = ap (λ t. line_of prefix (entries_text None (take k xs)) ++ t) later.lines;
  each = (
    record {
      some = omega (arith, length-take-le k xs within);
      room = room;
      full = subst (IsFull prefix (take k xs)) later.cut (full_run prefix xs k full);
    },
    later.each,
  );
}

pub ShortLines-nil : (prefix : List ℕ) → ShortLines prefix [] []
ShortLines-nil prefix = record { runs = []; cut = refl; lines = refl; each = tt }

longer : (before : Option ℕ) (s t : List NetNode) → length (entries_text before s) ≤ length (entries_text before (s ++ t))
longer before [] t = omega arith
longer before (e ∷ s) t =
    omega (
      arith,
      longer (Some e.net) s t,
      length-append (entry_text before e) (entries_text (Some e.net) s),
      length-append (entry_text before e) (entries_text (Some e.net) (s ++ t)),
    )

no_longer : (prefix : List ℕ) (r x q y : List NetNode) → r ++ x ≡ q ++ y → IsFull prefix r x → length (line_front prefix q) ≤ line_room
    → length q ≤ length r
no_longer prefix r [] q y e full room =
    omega (arith, ap length e, length-append r [], length-append q y)
no_longer prefix r (n ∷ x) q y e full room = elim (cases_lt (length r) (length q)) [
  | inr le ↦ le
  | inl lt ↦
      let k = length r + 1 in
      let front : take k q ≡ r ++ n ∷ [] =
      sym (take-append-le k q y (omega arith)) ∙ ap (take k) (sym e) ∙ ap (take k) (sym (append_assoc r (n ∷ []) x))
      ∙ take_at (r ++ n ∷ []) x k (omega (arith, length-append r (n ∷ []))) in
      let whole : (r ++ n ∷ []) ++ drop k q ≡ q = ap (λ t. t ++ drop k q) (sym front) ∙ take-append-drop k q in
      let le : length (entries_text None (r ++ n ∷ [])) ≤ length (entries_text None q) =
      let P : List NetNode → Type 0 = λ l. length (entries_text None (r ++ n ∷ [])) ≤ length (entries_text None l) in
      subst P whole (longer None (r ++ n ∷ []) (drop k q)) in
      absurd (omega (arith, length-append prefix (entries_text None (r ++ n ∷ [])), length-append prefix (entries_text None q)))
]

-- two ways to cut a list are one
one_cut : (prefix : List ℕ) (rs qs : List (List NetNode)) → flat_map (λ r. r) rs ≡ flat_map (λ r. r) qs → AreRuns prefix rs → AreRuns prefix qs
    → rs ≡ qs
one_cut prefix [] [] e hr hq = refl
one_cut prefix [] (q ∷ qs) e hr hq = absurd (omega (arith, ap length e, length-append q (flat_map (λ r. r) qs), hq.0.some))
one_cut prefix (r ∷ rs) [] e hr hq = absurd (omega (arith, ap length e, length-append r (flat_map (λ r. r) rs), hr.0.some))
one_cut prefix (r ∷ rs) (q ∷ qs) e hr hq =
    let x = flat_map (λ r. r) rs in
    let y = flat_map (λ r. r) qs in
    let below = no_longer prefix r x q y e hr.0.full hq.0.room in
    let above = no_longer prefix q y r x (sym e) hq.0.full hr.0.room in
    let same : length r ≡ length q = omega arith in
    let first : r ≡ q = sym (take_at r x (length q) same) ∙ ap (take (length q)) e ∙ take_at q y (length q) refl in
    let later : x ≡ y = sym (drop_at r x (length q) same) ∙ ap (drop (length q)) e ∙ drop_at q y (length q) refl in
    ap (λ l. l ∷ rs) first ∙ ap (λ l. q ∷ l) (one_cut prefix rs qs later hr.1 hq.1)

pub one_spelling : (prefix : List ℕ) (list : List NetNode) (b c : List ℕ) → ShortLines prefix list b → ShortLines prefix list c → b ≡ c
one_spelling prefix list b c hb hc = grind (arith, one_cut)

pub nothing_written : (prefix b : List ℕ) → ShortLines prefix [] b → b ≡ []
nothing_written prefix b h = one_spelling prefix [] b [] h (ShortLines-nil prefix)

abbrev pub Completes : List ℕ → List NetNode → List NetNode → List ℕ → List ℕ → Type 0
Completes prefix xs rest before text = (tail : List ℕ) → ShortLines prefix rest tail → AddsLines prefix xs before (text ++ tail)

pub Completes-none : (prefix : List ℕ) (xs : List NetNode) (before : List ℕ) → Completes prefix xs xs before before
Completes-none prefix xs before tail lines = record { added = tail; lines = lines; whole = refl }

pub Completes-more : (prefix : List ℕ) (xs rest after : List NetNode) (before text more : List ℕ) (k : ℕ)
    → after ≡ drop k rest → 0 < k → k ≤ length rest
    → length prefix + length (entries_text None (take k rest)) ≤ line_room
    → (k < length rest → line_room < length prefix + length (entries_text None (take (k + 1) rest)))
    → more ≡ text ++ line_of prefix (entries_text None (take k rest))
    → Completes prefix xs rest before text → Completes prefix xs after before more
Completes-more prefix xs rest after before text more k after-is some within room full more-is completes = grind (arith, ShortLines-cons, length-append, append_assoc)

pub Completes-all : (prefix : List ℕ) (xs rest : List NetNode) (before text : List ℕ) → length rest ≡ 0 → Completes prefix xs rest before text
    → AddsLines prefix xs before text
Completes-all prefix xs rest before text empty completes =
    let P : List NetNode → Type 0 = λ l. ShortLines prefix l [] in
    let Q : List ℕ → Type 0 = λ b. AddsLines prefix xs before b in
    subst Q (append-nil text) (completes [] (subst P (sym (nil_from_length rest empty)) (ShortLines-nil prefix)))

-- Lines that were added to no bytes.
pub lines_alone : (prefix : List ℕ) (xs : List NetNode) (before text : List ℕ) → before ≡ [] → AddsLines prefix xs before text → ShortLines prefix xs text
lines_alone prefix xs before text none adds =
    let P : List ℕ → Type 0 = λ b. ShortLines prefix xs b in
    subst P (sym (adds.whole ∙ ap (λ b. b ++ adds.added) none)) adds.lines
