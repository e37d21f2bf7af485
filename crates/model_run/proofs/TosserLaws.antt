-- The laws of one tosser, proved.
use Rattle.std.{proofs.{Common.{◌≡◌, inl, inr, refl, sym, ap, ◌∙◌, ℕ, arith, List, [], ◌∷◌, ◌++◌, length, codes, Option}, Math.Seq.take-append_seam, lemmas.List.length-append}, specs.{Prelude.{Bool, true}, List.AllByRecursion}}
use Rattle.echo_addr.{specs.{declared.address.Address.Address, Address.{IsAddress, address_text, address_in}}, proofs.Outcomes.{AddressOf-address_text, address_in-written}}
use Rattle.model_graph.{specs.Walk.{Among, Different}, proofs.Members.{Contains-from_Among, Among-from_Contains}}
use Rattle.echo_filed.{specs.{declared.key.Key.TheVariants.ById, Sets.{address_before, address_set, entry_set, set_of}, Filed.{key_of, key_with}}, proofs.{Sets.{IsOrder, Ascending, set_ascending, set_only, set_keeps}, Choices.{contained_in, in_contained}, Orders.{address_order, entry_set_is_set, same_entry_decides}, Keys.{same_key_decides, stub_keeps_key, stub_of_stub}, Texts.{written_accepted, written_back}}}
use Rattle.model_steps.{specs.{declared.{draft.Draft.Draft, stamp.Stamp.Stamp}, Posting.posted}, proofs.{Posted.{posted_id, posted_is_echo}, Copies.exported_is_echo}}
use Rattle.echo_links.{specs.Links.{IsFile, LinkFile, upper}, proofs.Addresses.same_address_decides}
use Rattle.echo_text.specs.Ids.{id_of, serial_text}
use Rattle.model_run.{proofs.{Lists.not_both, TosserPremises.Laws}, specs.{AreaNets.IsTidyNet, Tidy.Tidy}}
use Rattle.model_run.proofs.Areas as areas

ids-differ : (a b : Address) (serial other : ℕ) → IsAddress a → IsAddress b → id_of a serial ≡ id_of b other → a ≡ b
unfolding id_of
ids-differ a b serial other at_a at_b e =
    let tail_a = codes " " ++ serial_text serial in
    let tail_b = codes " " ++ serial_text other in
    let whole : length (address_text a ++ tail_a) ≡ length (address_text b ++ tail_b) = ap (λ (bytes : List ℕ). length bytes) e in
    let long_a : length tail_a ≡ 9 = refl in
    let long_b : length tail_b ≡ 9 = refl in
    let same : length (address_text a) ≡ length (address_text b) =
    omega (arith, whole, long_a, long_b, length-append (address_text a) tail_a, length-append (address_text b) tail_b) in
    let texts : address_text a ≡ address_text b =
    sym (take-append_seam (address_text a) tail_a)
    ∙ (grind (arith, take-append_seam)) in
    sym (address_in-written (address_text a) a (AddressOf-address_text a at_a))
    ∙ (ap (λ (bytes : List ℕ). address_in bytes) texts ∙ address_in-written (address_text b) b (AddressOf-address_text b at_b))

posted-key : (file : LinkFile) (tag : List ℕ) (draft : Draft) (serial : ℕ) (stamp : Stamp) → IsFile file →
    key_of (posted file tag draft serial stamp) ≡ ById (upper tag) (id_of file.system serial)
unfolding key_of posted
posted-key file tag draft serial stamp fits =
    ap (λ (o : Option (List ℕ)). key_with (posted file tag draft serial stamp) o) (posted_id file fits tag draft serial stamp)

ascending-differ : {X : Type 0} (before : X → X → Bool) → IsOrder before → (xs : List X) → Ascending before xs → Different xs
ascending-differ before order [] up = tt
ascending-differ {X} before order (x ∷ xs) up = (later xs up.0, ascending-differ before order xs up.1)
  where
    later : (ys : List X) → AllByRecursion (λ y. before x y ≡ true) ys → ¬ Among x ys
    later [] all h = h
    later (y ∷ ys) all h =
        elim h [
          | inl e ↦ not_both (before x x) (ap (λ (z : X). before x z) e ∙ all.0) (order.apart x)
          | inr t ↦ later ys all.1 t
        ]

addresses-only : (a : Address) (all : List Address) → Among a (address_set all) → Among a all
unfolding address_set
addresses-only a all h = grind (arith, contained_in, Contains-from_Among, Among-from_Contains, in_contained, set_only)

addresses-all : (a : Address) (all : List Address) → Among a all → Among a (address_set all)
unfolding address_set
addresses-all a all h = grind (arith, set_keeps, address_order, contained_in, Contains-from_Among, Among-from_Contains, in_contained)

addresses-once : (all : List Address) → Different (address_set all)
unfolding address_set
addresses-once all = ascending-differ address_before address_order (set_of address_before all) (set_ascending address_before address_order all)

pub the_laws : Laws
the_laws = record {
  addresses = record { sound = λ a b. (same_address_decides a b).0; full = λ a b. (same_address_decides a b).1 };
  entries = record { sound = λ a b. (same_entry_decides a b).0; full = λ a b. (same_entry_decides a b).1 };
  keys = record { sound = λ a b. (same_key_decides a b).0; full = λ a b. (same_key_decides a b).1 };
  stub_key = stub_keeps_key;
  stub_again = stub_of_stub;
  posted_key = posted-key;
  posted_text = λ file base tag draft serial stamp fits allowed. posted_is_echo file base tag draft serial stamp fits allowed;
  exported_text = λ file e fits echo. exported_is_echo file fits e echo;
  read_back = λ e echo. (written_accepted e echo, written_back e echo);
  ids = ids-differ;
  set_only = λ n all h. Among-from_Contains n all (((entry_set_is_set all).members n).0 (Contains-from_Among n (entry_set all) h));
  set_all = λ n all h. Among-from_Contains n (entry_set all) (((entry_set_is_set all).members n).1 (Contains-from_Among n all h));
  addresses_only = addresses-only;
  addresses_all = addresses-all;
  addresses_once = addresses-once;
}

-- The net of tidy link files is tidy.

pub tidy_net : (files : List LinkFile) (tag : List ℕ) → Tidy files tag → IsTidyNet files tag
tidy_net files tag tidy = record { joined = areas.joined-net the_laws files tag tidy.joined; cycles = tidy.cycles }
