-- The messages to send again, one by one.
use Rattle.std.proofs.Common.{◌≡◌, ℕ, zero, suc, ◌+◌, ◌<◌, List, [], ◌∷◌, ◌++◌, length, get_or, take, drop, map, refl, sym, ap, ◌∙◌, append_assoc, arith, add-one}
use Rattle.std.{proofs.lemmas.Option.{get_or_from_slice_get, slice_get_within}, specs.Prelude.{Bool, true, cond, filter, min, ◌&&◌}}
use Rattle.echo_addr.specs.declared.address.Address.{Address}
use Rattle.echo_packet.specs.Message.{Message}
use Rattle.echo_links.specs.Links.{LinkFile}
use Rattle.echo_filed.specs.Filed.{Filed}
use Rattle.model_steps.specs.{Resending.is_resent, Resending.is_whole_in, Scanning.copy_to, Scanning.goes_to}
use Rattle.echo_steps.{specs.Exports.{IsResentAt, OutgoingMessage, copy_out, goes_out, outgoing_of}, proofs.Exports.same_copies}

abbrev pub copies_of : LinkFile → List ℕ → Address → List Filed → List Message
copies_of file area to ms = map (copy_to file to) (filter (is_resent file area to) ms)

front_at : {X : Type 0} (c i : ℕ) (xs : List X) (d : X) → i < c → i < length xs → drop i (take c xs) ≡ get_or xs i d ∷ drop (suc i) (take c xs)
front_at zero i xs d h w = absurd (omega arith)
front_at (suc c) i [] d h w = absurd (omega arith)
front_at (suc c) zero (x ∷ xs) d h w = refl
front_at (suc c) (suc i) (x ∷ xs) d h w = front_at c i xs d (omega arith) (omega arith)

pub next_resent : (file : LinkFile) (area : List ℕ) (to : Address) (messages : List Filed) (cursor i end : ℕ) (old new all : List Message)
    → end ≡ min cursor (length messages) → i < end → IsResentAt file area to messages i old new
    → old ++ copies_of file area to (drop i (take cursor messages)) ≡ all
    → new ++ copies_of file area to (drop (i + 1) (take cursor messages)) ≡ all
next_resent file area to messages cursor i end old new all bound within (m, here, grown) so_far =
    let rest = drop (suc i) (take cursor messages) in
    let front : drop i (take cursor messages) ≡ m ∷ rest =
    front_at cursor i messages m (omega (arith, bound, within)) (slice_get_within messages i m here)
    ∙ ap (λ (x : Filed). x ∷ rest) (get_or_from_slice_get messages i m m here) in
    rw add-one
    (grind (arith, append_assoc))

pub whole : (file : LinkFile) (area : List ℕ) (to : Address) (m : Filed) (one : OutgoingMessage) (old new : List Message) → is_whole_in area m ≡ true
    → one ≡ outgoing_of file m → new ≡ old ++ map (copy_out to) (filter (goes_out to) (one ∷ []))
    → new ≡ old ++ copies_of file area to (m ∷ [])
whole file area to m one old new asked is out =
    out
    ∙ (ap (λ (o : OutgoingMessage). old ++ map (copy_out to) (filter (goes_out to) (o ∷ []))) is
    ∙ (ap (λ (l : List Message). old ++ l) (same_copies file to (m ∷ []))
    ∙ ap (λ (b : Bool). old ++ map (copy_to file to) (cond (b && goes_to file to m) (m ∷ []) [])) (sym asked)))
