-- Each list of entries has a spelling in short lines.
use Rattle.std.proofs.Common.{◌≡◌, ℕ, zero, suc, ◌+◌, ◌-◌, ◌<◌, ◌≤◌, List, [], ◌∷◌, ◌++◌, length, take, drop, arith, None, inl, inr}
use Rattle.std.proofs.lemmas.{Fmt.length-decimal-le, List.length-append, List.length-drop, List.Elements.All-head, List.Elements.All-drop, Bool.cases_lt}
use Rattle.std.specs.{Fmt.decimal, List.All}
use Rattle.echo_addr.specs.ShortLines.{line_room, entry_text, entries_text, line_of, IsNetNode, ShortLines}
use Rattle.echo_addr.specs.declared.address.NetNode.{NetNode}
use Rattle.echo_addr.proofs.Runs.{ShortLines-cons, ShortLines-nil}

abbrev width : List NetNode → ℕ → ℕ
width xs k = length (entries_text None (take k xs))

record Longest (room : ℕ) (xs : List NetNode) : Type 0 where
  count : ℕ
  some : 0 < count
  within : count ≤ length xs
  fits : width xs count ≤ room
  full : count < length xs → room < width xs (count + 1)

longest : (room : ℕ) (xs : List NetNode) (k left : ℕ) → k + left ≡ length xs → 0 < k → width xs k ≤ room → Longest room xs
longest room xs k zero all some fits =
    record { count = k; some = some; within = omega arith; fits = fits; full = λ lt. absurd (omega arith) }
longest room xs k (suc left) all some fits = elim (cases_lt room (width xs (k + 1))) [
  | inl full ↦ record { count = k; some = some; within = omega arith; fits = fits; full = λ lt. full }
  | inr more ↦ longest room xs (k + 1) left (omega arith) (omega arith) more
]

first_width : (e : NetNode) (es : List NetNode) → IsNetNode e → width (e ∷ es) 1 ≤ 12
first_width e es h =
    let net = length-decimal-le 5 e.net (omega arith) (omega (arith, h.net)) (omega (arith, h.net)) in
    let node = length-decimal-le 5 e.node (omega arith) (omega (arith, h.node)) (omega (arith, h.node)) in
    omega (arith, length-append (entry_text None e) [], length-append (decimal e.net) (47 ∷ decimal e.node))

spell : (n : ℕ) (prefix : List ℕ) (xs : List NetNode) → length xs ≤ n → length prefix ≤ 67 → All IsNetNode xs → (b : List ℕ) × ShortLines prefix xs b
spell n prefix [] size short all = ([], ShortLines-nil prefix)
spell zero prefix (e ∷ es) size short all = absurd (omega arith)
spell (suc n) prefix (e ∷ es) size short all =
    let xs = e ∷ es in
    let room = line_room - length prefix in
    let first = first_width e es (All-head IsNetNode e es all) in
    let l = longest room xs 1 (length es) (omega arith) (omega arith) (omega arith) in
    let rest = spell n prefix (drop l.count xs) (omega (arith, length-drop l.count xs, l.some)) short (All-drop IsNetNode l.count xs all) in (
      line_of prefix (entries_text None (take l.count xs)) ++ rest.0,
      ShortLines-cons prefix xs l.count rest.0 l.some l.within
          (omega (arith, l.fits, length-append prefix (entries_text None (take l.count xs))))
          (λ lt. omega (arith, l.full lt, length-append prefix (entries_text None (take (l.count + 1) xs)))) rest.1,
    )

pub every_list : (prefix : List ℕ) (xs : List NetNode) → length prefix ≤ 67 → All IsNetNode xs → (b : List ℕ) × ShortLines prefix xs b
every_list prefix xs short all = spell (length xs) prefix xs (omega arith) short all
