-- The harm that a world shows is the harm of its run.
use Rattle.std.proofs.Common.{◌≡◌, ◌≢◌, ◌∙◌, ◌⊎◌, inl, inr, refl, sym, subst, ap, ℕ, zero, suc, ◌+◌, ◌<◌, ◌≤◌, arith, Bool, true, false, cond, List, [], ◌∷◌, length, Option, Some, None}
use Rattle.std.{proofs.lemmas.List.Sums.sum_by-cons, specs.{Prelude.{◌&&◌, bytes_eq, option_map, slice_get, unwrap_or}, Cmp.Lexicographic.bytes_decides}}
use Rattle.{echo_addr.specs.declared.address.Address.Address, model_graph.specs.Walk.Among, echo_text.specs.Echo.msgid_of, echo_links.specs.Links.same_address}
use Rattle.{echo_links.proofs.Addresses.same_address_decides, echo_filed.specs.{declared.key.Key.TheVariants.ById, Filed.{Filed, key_of}}}
use Rattle.{echo_filed.proofs.Keys.same_key_decides, model_steps.specs.declared.packet.Packet.Packet}
use Rattle.model_run.specs.{Orderly.{IsPosting, Settled, copies, count, sent_count}, Run.{Run, System, destination, nth}, World.{area_count, filed_at}}
use Rattle.{model_run.proofs.Lists.and-parts as and-both, echo_net.specs.Worlds.message_at}
use Rattle.cmd_why.{specs.Found.{CarriesAt, GoesToNobody, HasPosted, IsCarrierAt, IsNeverGot, IsSentAgain, IsSentOwn, PostedAt}, proofs.Counting.has_key}

pub is_posted : (m : Filed) (tag id of : List ℕ) (found : Option (List ℕ)) → m.sender ≡ None → of ≡ m.echo.tag → found ≡ msgid_of m.echo.kept →
    bytes_eq of tag && unwrap_or (option_map (λ (f : List ℕ). bytes_eq f id) found) false ≡ true →
    IsPosting tag m × (key_of m ≡ ById tag id)
is_posted m tag id of found own is_of is_found h =
    let test = λ (t : List ℕ) (o : Option (List ℕ)). bytes_eq t tag && unwrap_or (option_map (λ (f : List ℕ). bytes_eq f id) o) false in
    let here : test m.echo.tag (msgid_of m.echo.kept) ≡ true = (λ i. test (sym is_of i) (sym is_found i)) ∙ h in
    let parts = and-both (bytes_eq m.echo.tag tag) (unwrap_or (option_map (λ (f : List ℕ). bytes_eq f id) (msgid_of m.echo.kept)) false) here in (
      record { own = own; area = (bytes_decides m.echo.tag tag).0 parts.0 },
      (same_key_decides (key_of m) (ById tag id)).0 (has_key m tag id ∙ here),
    )

slice-nth : {X : Type 0} (i : ℕ) (xs : List X) (x : X) → slice_get xs i ≡ Some x → Among x xs
slice-nth i [] x h = absurd (cc)
slice-nth zero (y ∷ xs) x h = let same : y ≡ x = cc in inl (sym same)
slice-nth (suc i) (y ∷ xs) x h = inr (slice-nth i xs x h)

pub nth-in : {X : Type 0} (i : ℕ) (xs : List X) (x : X) → nth i xs ≡ Some x → Among x xs
nth-in i [] x h = absurd (cc)
nth-in zero (y ∷ xs) x h = let same : y ≡ x = cc in inl (sym same)
nth-in (suc i) (y ∷ xs) x h = inr (nth-in i xs x h)

pub in-nth : {X : Type 0} (xs : List X) (x : X) → Among x xs → (i : ℕ) × (nth i xs ≡ Some x) × (i < length xs)
in-nth [] x h = absurd h
in-nth (y ∷ xs) x h =
    elim h [
      | inl e ↦ (zero, ap (λ z. Some z) (sym e), omega arith)
      | inr t ↦ (let (i, at, within) = in-nth xs x t in (suc i, at, omega (arith, within)))
    ]

pub posted-at : (run : Run) (i : ℕ) (tag id : List ℕ) (a : Address) (m : Filed) → CarriesAt run i tag a → Some m ≡ message_at run i 0 →
    IsPosting tag m × (key_of m ≡ ById tag id) → PostedAt run i tag id a
posted-at run i tag id a m carrier found is =
    let P : Option System → Type 0 = λ o. Some m ≡ unwrap_or (option_map (λ (s : System). slice_get s.base 0) o) None in
    record {
      carrier = carrier;
      message = m;
      filed = slice-nth 0 carrier.system.base m (sym (subst P carrier.at found));
      posting = is.0;
      key = is.1;
    }

abbrev one_if : Bool → ℕ
one_if b = cond b 1 0

neither : (b c : Bool) → one_if b ≡ 0 → one_if (b && c) ≡ 0
neither true c e = absurd (omega (arith, e))
neither false c e = refl

none_of-area : (tag id : List ℕ) (ms : List Filed) → area_count tag ms ≡ 0 → count (ById tag id) ms ≡ 0
none_of-area tag id [] h = refl
none_of-area tag id (m ∷ ms) h =
    let whole = sum_by-cons (λ (x : Filed). one_if (bytes_eq x.echo.tag tag)) m ms in
    let here : one_if (bytes_eq m.echo.tag tag) ≡ 0 = omega (arith, h, whole) in
    let later : area_count tag ms ≡ 0 = omega (arith, h, whole) in
    omega (
      arith,
      none_of-area tag id ms later,
      neither (bytes_eq m.echo.tag tag) (unwrap_or (option_map (λ (f : List ℕ). bytes_eq f id) (msgid_of m.echo.kept)) false) here,
      ap one_if (has_key m tag id),
    )

abbrev carrier-there : (run : Run) (i : ℕ) (tag : List ℕ) (a : Address) → CarriesAt run i tag a → IsCarrierAt run tag a
carrier-there run i tag a carrier = record {
  system = carrier.system;
  there = nth-in i run.systems carrier.system carrier.at;
  carries = carrier.carries;
  address = carrier.address;
}

abbrev poster-there : (run : Run) (i : ℕ) (tag id : List ℕ) (a : Address) → PostedAt run i tag id a → HasPosted run tag id
poster-there run i tag id a posted = record {
  system = posted.carrier.system;
  there = nth-in i run.systems posted.carrier.system posted.carrier.at;
  carries = posted.carrier.carries;
  message = posted.message;
  filed = posted.filed;
  posting = posted.posting;
  key = posted.key;
}

pub again-at : (run : Run) (i : ℕ) (tag id : List ℕ) (a : Address) (times : ℕ) → CarriesAt run i tag a →
    sent_count a (ById tag id) run.packets ≡ times → 2 ≤ times → IsSentAgain run tag id a times
again-at run i tag id a times carrier sent again = record { carrier = carrier-there run i tag a carrier; sent = sent; again = again }

pub own-at : (run : Run) (i : ℕ) (tag id : List ℕ) (a : Address) → PostedAt run i tag id a → 1 ≤ sent_count a (ById tag id) run.packets → IsSentOwn run tag id a
own-at run i tag id a posted sent = record { poster = poster-there run i tag id a posted; address = posted.carrier.address; sent = sent }

pub lacking-at : (run : Run) (i : ℕ) (tag id : List ℕ) (a p : Address) (poster : ℕ) → Settled run tag → PostedAt run poster tag id p → CarriesAt run i tag a →
    filed_at run i tag ≡ 0 → IsNeverGot run tag id a
lacking-at run i tag id a p poster settled posted carrier none =
    let P : Option System → Type 0 = λ o. unwrap_or (option_map (λ (s : System). area_count tag s.base) o) 0 ≡ 0 in
    record {
      settled = settled;
      poster = poster-there run poster tag id p posted;
      carrier = carrier-there run i tag a carrier;
      lacks = none_of-area tag id carrier.system.base (subst P carrier.at none);
    }

abbrev pub NoneBefore : Run → ℕ → Address → Type 0
NoneBefore run n to = (j : ℕ) → j < n → (s : System) → nth j run.systems ≡ Some s → s.file.system ≢ to

pub none-more : (run : Run) (n next : ℕ) (to : Address) → next ≡ n + 1 → NoneBefore run n to →
    ((s : System) → nth n run.systems ≡ Some s → same_address s.file.system to ≡ false) → NoneBefore run next to
none-more run n next to e before here j less s at same =
    elim (or_at j n (omega (arith, e, less))) [
      | inl earlier ↦ before j earlier s at same
      | inr now ↦ (let P : ℕ → Type 0 = λ k. nth k run.systems ≡ Some s in
          let other = here s (subst P now at) in
          let yes = (same_address_decides s.file.system to).1 same in
          absurd (cc (other, yes)))
    ]
  where
    or_at : (j n : ℕ) → j < n + 1 → (j < n) ⊎ (j ≡ n)
    or_at zero zero h = inr refl
    or_at zero (suc n) h = inl (omega arith)
    or_at (suc j) zero h = absurd (omega arith)
    or_at (suc j) (suc n) h = elim (or_at j n (omega arith)) [ inl l ↦ inl (omega arith) | inr e ↦ inr (ap suc e) ]

pub none-all : (run : Run) (n : ℕ) (to : Address) → length run.systems ≤ n → NoneBefore run n to → (s : System) → Among s run.systems → s.file.system ≢ to
none-all run n to all before s h = grind (arith, in-nth)

abbrev Holding : Address → List ℕ → List ℕ → List Packet → Type 0
Holding to tag id ps = (p : Packet) × Among p ps × (destination p ≡ to) × (1 ≤ count (ById tag id) (copies p))

later_holds : (to : Address) (tag id : List ℕ) (p : Packet) (ps : List Packet) → Holding to tag id ps → Holding to tag id (p ∷ ps)
later_holds to tag id p ps (q, there, is, holds) = (q, inr there, is, holds)

holding : (to : Address) (tag id : List ℕ) (ps : List Packet) → 1 ≤ sent_count to (ById tag id) ps → Holding to tag id ps
holding to tag id [] h = absurd (omega arith)
holding to tag id (p ∷ ps) h = by (same_address (destination p) to) refl h (λ l. later_holds to tag id p ps (holding to tag id ps l))
  where
    here : (n : ℕ) → destination p ≡ to → count (ById tag id) (copies p) ≡ n → 1 ≤ (n + sent_count to (ById tag id) ps) →
        (1 ≤ sent_count to (ById tag id) ps → Holding to tag id (p ∷ ps)) → Holding to tag id (p ∷ ps)
    here zero at is l rest = rest (omega arith)
    here (suc n) at is l rest = (p, inl refl, at, omega (arith, is))

    by : (b : Bool) → same_address (destination p) to ≡ b → 1 ≤ (cond b (count (ById tag id) (copies p)) 0 + sent_count to (ById tag id) ps) →
        (1 ≤ sent_count to (ById tag id) ps → Holding to tag id (p ∷ ps)) → Holding to tag id (p ∷ ps)
    by false e l rest = rest (omega arith)
    by true e l rest = here (count (ById tag id) (copies p)) ((same_address_decides (destination p) to).0 e) refl l rest

pub to_nobody : (run : Run) (tag id : List ℕ) (to : Address) → ((s : System) → Among s run.systems → s.file.system ≢ to) →
    1 ≤ sent_count to (ById tag id) run.packets → GoesToNobody run tag id
to_nobody run tag id to nobody sent =
    let (p, there, is, holds) = holding to tag id run.packets sent in
    record {
      packet = p;
      there = there;
      holds = holds;
      nobody = λ s h e. nobody s h (e ∙ is);
    }
