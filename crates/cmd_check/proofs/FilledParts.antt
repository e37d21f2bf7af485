-- The lines of a drawing with its parts.
use Rattle.std.proofs.Common.{◌≡◌, Bool, true, false, subst, ℕ, ◌+◌, ◌-◌, ◌%◌, ◌<◌, List, [], ◌∷◌, ◌++◌, codes, length, length-append, take, get_or, refl, sym, ap, ◌∙◌, arith, append_assoc, append-nil}
use Rattle.{std.{proofs.lemmas.List.{length-take-le, take_more}, specs.List.flat_map}, echo_addr.specs.declared.address.Address.Address}
use Rattle.{echo_links.specs.Links.LinkFile, echo_verdict.specs.{declared.{drawing.Drawing.Drawing, verdict.Verdict.Verdict}, Drawn.IsDrawing}}
use Rattle.{cmd_suppose.specs.Parts.AreCutOff, cmd_status.{specs.declared.status.Status.{Status, TheVariants.Good}, proofs.Lines.alone}}
use Rattle.cmd_print.specs.{Pushed.Pushes, Pictured.{head_lines, link_line, picture_lines, system_line}}
use Rattle.cmd_check.specs.{Checking.{IsCheckVerdict, verdict_status}, JudgedAreas.alone_line}
use Rattle.cmd_check.{specs.PicturingParts.{IsLeftDrawn, IsPartsDrawn, filled_line, filled_lines, picture_front}, proofs.Checks.{good_is_yes, yes_is_good}}

filled_last : (k n : ℕ) (parts : List (List Address)) (part : List Address) → n ≡ k + length parts
    → filled_lines k (parts ++ part ∷ []) ≡ filled_lines k parts ++ flat_map (filled_line (n % 9 + 1)) part
filled_last k n [] part is =
    append-nil (flat_map (filled_line (k % 9 + 1)) part) ∙ ap (λ m. flat_map (filled_line (m % 9 + 1)) part) (let e : k ≡ n = omega (arith, is) in e)
filled_last k n (first ∷ parts) part is =
    ap (λ t. flat_map (filled_line (k % 9 + 1)) first ++ t) (filled_last (k + 1) n parts part (omega (arith, is)))
    ∙ sym (append_assoc (flat_map (filled_line (k % 9 + 1)) first) (filled_lines (k + 1) parts) (flat_map (filled_line (n % 9 + 1)) part))

-- the lines of one more part
pub next_filled : (cut : List (List Address)) (k : ℕ) (part bytes : List Address) (colour : ℕ) (first old new : List ℕ) → k < length cut → part ≡ get_or cut k part
    → bytes ≡ part → colour ≡ k % 9 + 1 → old ≡ first ++ filled_lines 0 (take k cut) → new ≡ old ++ flat_map (filled_line colour) bytes
    → new ≡ first ++ filled_lines 0 (take (k + 1) cut)
next_filled cut k part bytes colour first old new inside is same at before pushed =
    let count : k ≡ 0 + length (take k cut) = (let e = length-take-le k cut (omega (arith, inside)) in omega (arith, e)) in
    pushed ∙ ap (λ l. l ++ flat_map (filled_line colour) bytes) before
    ∙ append_assoc first (filled_lines 0 (take k cut)) (flat_map (filled_line colour) bytes)
    ∙ ap (λ l. first ++ l)
    (ap (λ m. filled_lines 0 (take k cut) ++ flat_map (filled_line m) bytes) at
    ∙ sym (filled_last 0 k (take k cut) bytes count)
    ∙ ap (filled_lines 0) (ap (λ b. take k cut ++ b ∷ []) (same ∙ is) ∙ sym (take_more cut k part inside)))

-- the beginning of lines of known length
begun : (xs ys : List ℕ) → take (length xs) (xs ++ ys) ≡ xs
begun [] ys = refl
begun (x ∷ xs) ys = ap (λ t. x ∷ t) (begun xs ys)

-- all lines of a drawing but the last one
pub front_drawn : (tag : List ℕ) (verdict : Verdict) (drawing : Drawing) (none all front : List ℕ) (count : ℕ) → none ≡ [] → all ≡ none ++ picture_lines tag verdict drawing []
    → count ≡ length all - 2 → front ≡ take count all → front ≡ picture_front tag verdict drawing
front_drawn tag verdict drawing none all front count nothing whole is cut =
    let p : List ℕ = picture_front tag verdict drawing in
    let heads = head_lines tag verdict in
    let systems = flat_map system_line drawing.systems in
    let links = flat_map (link_line []) drawing.links in
    let same : all ≡ p ++ codes "}\n" =
    whole ∙ ap (λ n. n ++ picture_lines tag verdict drawing []) nothing
    ∙ sym (append_assoc heads (systems ++ links) (codes "}\n") ∙ ap (λ l. heads ++ l) (append_assoc systems links (codes "}\n"))) in
    let long : count ≡ length p = (let e = ap length same in let f = length-append p (codes "}\n") in omega (arith, e, f, is)) in
    cut ∙ ap (λ n. take n all) long ∙ ap (take (length p)) same ∙ begun p (codes "}\n")

-- lines after no other lines
pub pushed_alone : (AreLines : List ℕ → Type 0) (none lines : List ℕ) → none ≡ [] → Pushes AreLines none lines → AreLines lines
pushed_alone AreLines none lines nothing pushed = subst AreLines (sym (alone none lines pushed.lines nothing pushed.whole)) pushed.are

-- the drawing of an area that only left out systems have
pub alone_drawn : (lone : Bool) (left : List LinkFile) (tag old mid new : List ℕ) → lone ≡ true → mid ≡ old ++ codes "graph {\n}\n// " → new ≡ mid ++ alone_line tag
    → Pushes (λ all. IsLeftDrawn lone left tag all Good) old new
alone_drawn true left tag old mid new is first second = record {
  lines = codes "graph {\n}\n// " ++ alone_line tag;
  are = (refl, refl);
  whole = second ∙ ap (λ l. l ++ alone_line tag) first ∙ append_assoc old (codes "graph {\n}\n// ") (alone_line tag);
}
alone_drawn false left tag old mid new is first second = absurd cc

-- and of any other area
pub else_drawn : (lone : Bool) (left : List LinkFile) (tag old new : List ℕ) (status : Status) → lone ≡ false → Pushes (λ all. IsPartsDrawn left tag all status) old new
    → Pushes (λ all. IsLeftDrawn lone left tag all status) old new
else_drawn true left tag old new status is pushed = absurd cc
else_drawn false left tag old new status is pushed = pushed

pub parts_drawn : (left : List LinkFile) (tag : List ℕ) (verdict : Verdict) (drawing : Drawing) (cut : List (List Address)) (front old a b new : List ℕ) (status : Status)
    → IsCheckVerdict left tag verdict → IsDrawing left tag verdict drawing → AreCutOff left tag cut → front ≡ picture_front tag verdict drawing → a ≡ old ++ front
    → b ≡ a ++ filled_lines 0 cut → new ≡ b ++ codes "}\n" → status ≡ verdict_status verdict → Pushes (λ all. IsPartsDrawn left tag all status) old new
parts_drawn left tag verdict drawing cut front old a b new status judged drawn are same first second third ended = record {
  lines = front ++ (filled_lines 0 cut ++ codes "}\n");
  are = record {
    verdict = verdict;
    is_verdict = judged;
    drawing = drawing;
    is_drawing = drawn;
    cut = cut;
    are_cut = are;
    printed = ap (λ l. l ++ (filled_lines 0 cut ++ codes "}\n")) same;
    status_is = ended;
    tidy = (λ good. judged.tidy.0 (good_is_yes verdict (sym ended ∙ good)), λ tidy. ended ∙ yes_is_good verdict (judged.tidy.1 tidy));
  };
  whole = third ∙ ap (λ l. l ++ codes "}\n") (second ∙ ap (λ l. l ++ filled_lines 0 cut) first)
      ∙ append_assoc (old ++ front) (filled_lines 0 cut) (codes "}\n") ∙ append_assoc old front (filled_lines 0 cut ++ codes "}\n");
}
