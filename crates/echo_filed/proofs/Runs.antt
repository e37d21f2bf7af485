-- Entries cut into lines one after the other are short lines.
use Rattle.std.proofs.Common.{◌≡◌, ℕ, ◌<◌, ◌≤◌, Bool, nat_le, List, [], ◌∷◌, ◌++◌, length, decimal, codes, refl, sym, ap, subst, None, arith, lit≤, lit<}
use Rattle.std.proofs.lemmas.{Bool.cond_both, Bool.leb-false, Bool.leb-true, List.append_assoc, List.length-append, Fmt.length-decimal-le}
use Rattle.std.specs.List.{AllByRecursion, flat_map}
use Rattle.echo_addr.specs.ShortLines.{AreRuns, IsFull, IsNetNode, ShortLines, entries_text, entry_token, line_front, line_room, path_prefix, seen_prefix}
use Rattle.echo_addr.specs.declared.address.NetNode.{NetNode}
use Rattle.echo_filed.specs.Written.{runs_after, runs_of, short_lines}

record AreCut (prefix : List ℕ) (list : List NetNode) (runs : List (List NetNode)) : Type 0 where
  joined : flat_map (λ run. run) runs ≡ list
  each : AreRuns prefix runs

abbrev HasRoom : List ℕ → NetNode → Type 0
HasRoom prefix e = length (line_front prefix (e ∷ [])) ≤ line_room

cut_after : (prefix : List ℕ) (run rest : List NetNode) → 0 < length run → length (line_front prefix run) ≤ line_room → AllByRecursion (HasRoom prefix) rest
    → AreCut prefix (run ++ rest) (runs_after prefix run rest)
cut_after prefix run [] some room all = record {
  joined = refl;
  each = (record { some = some; room = room; full = tt }, tt);
}
cut_after prefix run (next ∷ more) some room all =
    let Cut : List (List NetNode) → Type 0 = AreCut prefix (run ++ next ∷ more) in
    let longer : List (List NetNode) = runs_after prefix (run ++ next ∷ []) more in
    let begun : List (List NetNode) = run ∷ runs_after prefix (next ∷ []) more in
    let fits : Bool = nat_le (length (line_front prefix (run ++ next ∷ []))) line_room in
    cond_both fits longer begun Cut
    (λ within.
    let rec : AreCut prefix ((run ++ next ∷ []) ++ more) longer =
    cut_after prefix (run ++ next ∷ []) more (omega (arith, length-append run (next ∷ []))) (leb-true (length (line_front prefix (run ++ next ∷ []))) line_room within) all.1 in
    subst (λ (l : List NetNode). AreCut prefix l longer) (append_assoc run (next ∷ []) more) rec)
    (λ past.
    let rec : AreCut prefix (next ∷ more) (runs_after prefix (next ∷ []) more) = cut_after prefix (next ∷ []) more (lit< tt) all.0 all.1 in
    let full : IsFull prefix run (next ∷ more) = leb-false (length (line_front prefix (run ++ next ∷ []))) line_room past in
    record {
      joined = ap (λ l. run ++ l) rec.joined;
      each = (record { some = some; room = room; full = subst (λ (l : List NetNode). IsFull prefix run l) (sym rec.joined) full }, rec.each);
    })

cut_of : (prefix : List ℕ) (list : List NetNode) → AllByRecursion (HasRoom prefix) list → AreCut prefix list (runs_of prefix list)
cut_of prefix [] all = record { joined = refl; each = tt }
cut_of prefix (first ∷ more) all = cut_after prefix (first ∷ []) more (lit< tt) all.0 all.1

written_short : (prefix : List ℕ) (list : List NetNode) → AllByRecursion (HasRoom prefix) list → ShortLines prefix list (short_lines prefix list)
unfolding short_lines
written_short prefix list all = grind (arith, cut_of)

one_has_room : (prefix : List ℕ) (e : NetNode) → length prefix ≤ 8 → IsNetNode e → HasRoom prefix e
one_has_room prefix e short h =
    let net : length (decimal e.net) ≤ 5 = length-decimal-le 5 e.net (lit< tt) (omega (arith, h.net)) (omega (arith, h.net)) in
    let node : length (decimal e.node) ≤ 5 = length-decimal-le 5 e.node (lit< tt) (omega (arith, h.node)) (omega (arith, h.node)) in
    omega (
      arith,
      length-append prefix (entries_text None (e ∷ [])),
      length-append (entry_token None e) [],
      length-append (decimal e.net) (codes "/" ++ decimal e.node),
    )

each_has_room : (prefix : List ℕ) → length prefix ≤ 8 → (list : List NetNode) → AllByRecursion IsNetNode list → AllByRecursion (HasRoom prefix) list
each_has_room prefix short [] all = tt
each_has_room prefix short (e ∷ more) all = (one_has_room prefix e short all.0, each_has_room prefix short more all.1)

pub seen_short : (list : List NetNode) → AllByRecursion IsNetNode list → ShortLines seen_prefix list (short_lines seen_prefix list)
seen_short list all = written_short seen_prefix list (each_has_room seen_prefix (lit≤ tt) list all)

pub path_short : (list : List NetNode) → AllByRecursion IsNetNode list → ShortLines path_prefix list (short_lines path_prefix list)
path_short list all = written_short path_prefix list (each_has_room path_prefix (lit≤ tt) list all)
