use Rattle.std.proofs.Common.{◌≡◌, ◌≤◌, ◌+◌, ⊎_elim, ℕ, zero, suc, ◌<◌, ◌++◌, List, [], ◌∷◌, Option, Some, ◌∙◌, refl, subst, arith, slice_get, length}
use Rattle.{std.proofs.lemmas.Bool.cases_lt, base_folder.specs.Source.SourceState, echo_addr.specs.declared.address.Address.Address}
use Rattle.{echo_filed.specs.Filed.Filed, echo_links.specs.Links.LinkFile, echo_packet.specs.Message.Message, echo_steps.specs.Exports.IsResentAt}
use Rattle.cmd_numbered.specs.Resending.{AreLegibleFrom, copies_at}

found_at : {X : Type 0} (xs : List X) (i : ℕ) → i < length xs → (x : X) × (slice_get xs i ≡ Some x)
found_at [] i within = absurd (omega (arith, within))
found_at (x ∷ xs) zero within = (x, refl)
found_at (x ∷ xs) (suc i) within = found_at xs i (omega (arith, within))

pub added_at : (file : LinkFile) (area : List ℕ) (to : Address) (messages : List Filed) (i : ℕ) (hand : Option Filed) (old new : List Message)
    → i < length messages → hand ≡ slice_get messages i → new ≡ old ++ copies_at file area to hand → IsResentAt file area to messages i old new
added_at file area to messages i hand old new within here grown =
    let found = found_at messages i within in
    (found.0, found.1, subst (λ (o : Option Filed). new ≡ old ++ copies_at file area to o) (here ∙ found.1) grown)

pub read_from : (a b c : SourceState) (first i : ℕ) → ((j : ℕ) → b.legible j → a.legible j) → (c.is_honest → b.is_honest) → (b.is_honest → AreLegibleFrom a first i) → (c.is_honest → b.legible i) → c.is_honest → AreLegibleFrom a first (i + 1)
read_from a b c first i since honest before now is j from less =
    ⊎_elim (λ (e : j < i). before (honest is) j from e)
    (λ (e : i ≤ j).
    let same : i ≡ j = omega (arith, e, less) in
    subst (λ (n : ℕ). a.legible n) same (since i (now is)))
    (cases_lt j i)
