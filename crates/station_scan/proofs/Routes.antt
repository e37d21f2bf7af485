-- Packets for links: which there are, and where they go.
use Rattle.std.proofs.Common.{◌≡◌, ◌≢◌, inl, inr, ⊎_elim, ◌∙◌, ◌<◌, ◌&&◌, ℕ, Bool, true, false, true≢false, List, [], ◌∷◌, ◌++◌, get_or, length, filter, refl, sym, subst, ap, append_assoc, arith}
use Rattle.std.proofs.lemmas.{Bool.{cases_Bool, lt-ltb}, List.{append-nil, append_cancel_left, length-map, Elements.{All-contains, All-map, Contains-get_or}}}
use Rattle.{std.{proofs.lemmas.List.Kept.AllPairs-filter, specs.Prelude.{All, AllPairs, Contains, nat_lt, not}}, disk_io.specs.Disk.IsIn}
use Rattle.disk_atomic.specs.{ListStaged.IsNameByte, Outgoing.{IsAtStaging, IsOfOne}, StagingPaths.staging_path, declared.outgoing.Outgoing.Outgoing}
use Rattle.{disk_atomic.proofs.Packets.nobody, echo_addr.specs.declared.address.Address.Address, echo_packet.specs.Message.Message}
use Rattle.{cmd_store.specs.PacketLines.packet_name, echo_steps.specs.{Counts.{copies_out, link_set}, Exports.OutgoingMessage as Sent}}
use Rattle.{echo_steps.proofs.Counts.{copies_append, has_later}, base_store.specs.Store.StoreState, station.proofs.StagingPaths.staging_other}
use Rattle.station_scan.specs.{Passing.{AreFor, Fits, IsRouted, IsStagingFor, is_begun, is_made, links_to, path_to, staging_to}, Left.IsOfNameOff}
use Rattle.station_scan.specs.{Publishing.AreGoing, Sending.{AreRoutes, IsSized, route_to}, declared.sending.{Route.Route, Sending.Sending}}
use Rattle.station_scan.proofs.Lists.{all_narrow, all_of_map, contains_map, contains_of_map, kept_passes, kept_wider, pairs_of_map}
use Rattle.station_scan.proofs.Names.{AreFourApart, four_apart, links_differ, name_in, name_other, name_plain, name_some, name_staging_in, ending, not_staging, trial_in, trial_no_path, trial_not_staging}

-- ---- which packets there are

no_message : (all : List Message) → nat_lt 0 (length all) ≡ false → all ≡ []
no_message [] is = refl
no_message (m ∷ all) is = absurd (true≢false (sym (lt-ltb 0 (length (m ∷ all)) (omega arith)) ∙ is))

-- a packet that is not made has no copies
pub no_copies : (sent : List Sent) (a : Address) → is_made sent a ≡ false → copies_out a sent ≡ []
no_copies sent a is = no_message (copies_out a sent) is

-- messages that are not for an address change nothing of its packet
pub same_copies : (sent more : List Sent) (a : Address) → is_made more a ≡ false → copies_out a (sent ++ more) ≡ copies_out a sent
same_copies sent more a none = copies_append a sent more ∙ ap (λ (l : List Message). copies_out a sent ++ l) (no_copies more a none) ∙ append-nil (copies_out a sent)

pub made_before : (sent more : List Sent) (a : Address) → is_made (sent ++ more) a ≡ true → is_made more a ≡ false → is_made sent a ≡ true
made_before sent more a made none = sym (ap (λ (l : List Message). nat_lt 0 (length l)) (same_copies sent more a none)) ∙ made

pub begun_is : (sent more : List Sent) (a : Address) → is_begun sent more a ≡ true → (is_made sent a ≡ false) × (is_made (sent ++ more) a ≡ true)
begun_is sent more a is = grind (arith, cases_Bool)

pub begun_more : (sent more : List Sent) (a : Address) → is_begun sent more a ≡ true → is_made more a ≡ true
begun_more sent more a is = grind (arith, begun_is, cases_Bool, made_before)

pub begun_if : (sent more : List Sent) (a : Address) → is_made sent a ≡ false → is_made (sent ++ more) a ≡ true → is_begun sent more a ≡ true
begun_if sent more a none made = ap (λ (b : Bool). not b && is_made (sent ++ more) a) none ∙ made

pub more_made : (sent more : List Sent) (a : Address) → is_made more a ≡ true → is_made (sent ++ more) a ≡ true
more_made sent more a made = grind (arith, cases_Bool, no_copies, copies_append, append_nothing)
  where
    append_nothing : (one other : List Message) → one ++ other ≡ [] → other ≡ []
    append_nothing [] other e = e
    append_nothing (m ∷ one) other e = absurd (cc e)

module _ (to : Sending) where
  abbrev links : List Address
  links = link_set to.source.links.now

  none_made : (all : List Address) → All (λ a. ⊥) (filter (is_made []) all)
  none_made [] k d lt = omega (arith, lt)
  none_made (a ∷ all) k d lt = none_made all k d lt

  -- no packet is made of no message
  pub made_none : (P : Address → Type 0) → All P (links_to to (is_made []))
  made_none P k d lt = absurd (none_made links k d lt)

  -- of the first messages
  module _ (few rest all : List Sent) (is : few ++ rest ≡ all) where
    later : (a : Address) → is_made few a ≡ true → is_made all a ≡ true
    later a made = subst (λ (l : List Sent). is_made l a ≡ true) is (has_later few rest a made)

    pub made_wider : (a : Address) → Contains (links_to to (is_made few)) a → Contains (links_to to (is_made all)) a
    made_wider a has = kept_wider (is_made few) (is_made all) later links a has

    pub made_narrow : (P : Address → Type 0) → All P (links_to to (is_made all)) → All P (links_to to (is_made few))
    made_narrow P each = all_narrow P (is_made few) (is_made all) later links each

  pub begun_narrow : (sent more : List Sent) (P : Address → Type 0) → All P (links_to to (is_made (sent ++ more))) → All P (links_to to (is_begun sent more))
  begun_narrow sent more P each = all_narrow P (is_begun sent more) (is_made (sent ++ more)) (λ a is. (begun_is sent more a is).1) links each

  pub copied_narrow : (sent more : List Sent) (P : Address → Type 0) → All P (links_to to (is_made (sent ++ more))) → All P (links_to to (is_made more))
  copied_narrow sent more P each = all_narrow P (is_made more) (is_made (sent ++ more)) (more_made sent more) links each

  pub staging_wider : (p q : Address → Bool) → ((a : Address) → p a ≡ true → q a ≡ true) → (m : List ℕ) → IsStagingFor to p m → IsStagingFor to q m
  staging_wider p q wider m (a, has, at) = (a, kept_wider p q wider links a has, at)

-- ---- their paths

module _ (to : Sending) (planned : AreRoutes to) where
  abbrev all_links : List Address
  all_links = link_set to.source.links.now

  abbrev name : Address → List ℕ
  name a = packet_name a to.source.from

  sized : (a : Address) → Contains all_links a → IsSized a
  sized a has = All-contains IsSized all_links a planned.sized has

  pub plain_name : (a : Address) → Contains all_links a → All IsNameByte (name a)
  plain_name a has = name_plain a to.source.from (sized a has) planned.numbered

  pub two_apart : (a b : Address) → Contains all_links a → Contains all_links b → a ≢ b → AreFourApart to.outbound.now to.own.now (name a) (name b)
  two_apart a b one two other =
      four_apart to.outbound.now to.own.now (name a) (name b) (plain_name a one) (plain_name b two)
      (λ e. other (name_other a b to.source.from (sized a one) (sized b two) (append_cancel_left to.outbound.now (name a) (name b) e)))

  pub off_trial : (a : Address) → Contains all_links a → (path_to to a ≢ to.trial.now) × (staging_to to a ≢ to.trial.now)
  off_trial a has =
      (λ e. trial_no_path to.outbound.now to.own.now (name a) (plain_name a has) (sym planned.tried ∙ sym e), λ e. trial_not_staging to.outbound.now to.own.now (name a) (name_some a to.source.from) (sym planned.tried ∙ sym e))

  module _ (q : Address → Bool) (a : Address) (has : Contains all_links a) where
    -- the staging path of one packet belongs to no other
    pub staging_off : q a ≡ false → IsStagingFor to q (staging_to to a) → ⊥
    staging_off none (b, among, at) =
        let kept = kept_passes q all_links b among in
        ⊎_elim (λ e. (two_apart a b has kept.0 (λ same. true≢false (sym kept.1 ∙ ap q (sym same) ∙ none))).stagings e) (λ e. (off_trial a has).1 e) at

    -- its path is no staging path
    pub path_off : IsStagingFor to q (path_to to a) → ⊥
    path_off (b, among, at) = grind (arith, kept_passes, not_path, off_trial)
      where
        not_path : path_to to a ≡ staging_to to b → ⊥
        not_path e = not_staging to.own.now (name a) (name b) (plain_name a has) (append_cancel_left to.outbound.now (name a) (name b ++ ending to.own.now) (e ∙ append_assoc to.outbound.now (name b) (ending to.own.now)))

-- each route is that of its address
pub routes_same : (to : Sending) → AreRoutes to → All (λ r. r ≡ route_to to.outbound.now to.own.now to.source.from r.to) to.routes.now
routes_same to planned =
    let route = route_to to.outbound.now to.own.now to.source.from in
    let P = λ (r : Route). r ≡ route r.to in
    subst (λ (l : List Route). All P l) (sym planned.routed) (All-map P route (link_set to.source.links.now) (λ k z lt. refl))

-- ---- packets with these paths

module _ (to : Sending) (q : Address → Bool) (packets : List Outgoing) (for : AreFor to q packets) where
  -- what holds of each address holds of each packet, and back
  pub all_for : (P : Address → Type 0) (Q : Outgoing → Type 0) → ((p : Outgoing) → IsRouted to p → P p.to → Q p) → All P (links_to to q) → All Q packets
  all_for P Q gives each k z lt = gives (get_or packets k z) (for.routed k z lt) (all_of_map (λ (p : Outgoing). p.to) nobody packets P (subst (λ (l : List Address). All P l) (sym for.addresses) each) k z lt)

  pub for_all : (P : Address → Type 0) → All (λ p. P p.to) packets → All P (links_to to q)
  for_all P each = subst (λ (l : List Address). All P l) for.addresses (All-map P (λ (p : Outgoing). p.to) packets each)

  pub address_for : (p : Outgoing) → Contains packets p → Contains (links_to to q) p.to
  address_for p has = subst (λ (l : List Address). Contains l p.to) for.addresses (contains_map (λ (p : Outgoing). p.to) nobody packets p has)

  pub some_for : 0 < length (links_to to q) → 0 < length packets
  some_for some = let many = sym (ap length for.addresses) ∙ length-map packets (λ (p : Outgoing). p.to) in omega (arith, some, many)

  routed : (p : Outgoing) → Contains packets p → IsRouted to p
  routed p has = All-contains (IsRouted to) packets p for.routed has

  pub staging_at : 0 < length packets → (m : List ℕ) → IsAtStaging packets to.trial.now m → IsStagingFor to q m
  staging_at some m (inl (p, has, at)) = (p.to, address_for p has, inl (at ∙ (routed p has).staging))
  staging_at some m (inr at) = let first = get_or packets 0 nobody in (first.to, address_for first (Contains-get_or packets 0 nobody some), inr at)

  pub staging_of : (m : List ℕ) → IsStagingFor to q m → IsAtStaging packets to.trial.now m
  staging_of m (a, has, inl at) =
      let (p, among, is) = contains_of_map (λ (p : Outgoing). p.to) nobody packets a (subst (λ (l : List Address). Contains l a) (sym for.addresses) has) in
      inl (p, among, at ∙ ap (staging_to to) (sym is) ∙ sym (routed p among).staging)
  staging_of m (a, has, inr at) = inr at

  pub trial_off : (Own : List ℕ → Type 0) → All (Fits Own to) (links_to to q) → 0 < length packets → Own to.trial.now → ⊥
  trial_off Own fit some = all_for (Fits Own to) (λ (p : Outgoing). Own to.trial.now → ⊥) (λ p r f. f.trial) fit 0 nobody some

  -- they may go there
  module _ (Own : List ℕ → Type 0) (planned : AreRoutes to) (s : StoreState) (inside : (m : List ℕ) → s.is_own m → Own m) (fit : All (Fits Own to) (links_to to q)) (off : s.is_own to.trial.now → ⊥) where
    fits : All (λ (p : Outgoing). Fits Own to p.to) packets
    fits = all_for (Fits Own to) (λ (p : Outgoing). Fits Own to p.to) (λ p r f. f) fit

    linked : (k : ℕ) (z : Outgoing) → k < length packets → Contains (link_set to.source.links.now) (get_or packets k z).to
    linked k z lt = (kept_passes q (link_set to.source.links.now) (get_or packets k z).to (address_for (get_or packets k z) (Contains-get_or packets k z lt))).0

    differ : AllPairs (λ (p r : Outgoing). p.to ≢ r.to) packets
    differ =
        pairs_of_map (λ (p : Outgoing). p.to) nobody packets (λ a b. a ≢ b)
        (subst (λ (l : List Address). AllPairs (λ a b. a ≢ b) l) (sym for.addresses) (AllPairs-filter (λ a b. a ≢ b) q (link_set to.source.links.now) (links_differ to.source.links.now)))

    of_trial : IsOfOne packets to.trial.now → ⊥
    of_trial (p, has, at) =
        let off = off_trial to planned p.to (kept_passes q (link_set to.source.links.now) p.to (address_for p has)).0 in
        let is = routed p has in
        ⊎_elim (λ e. off.1 (sym is.staging ∙ sym e)) (λ e. off.0 (sym is.path ∙ sym e)) at

    pub going : AreGoing s.is_own to.outbound.now to.trial.now packets
    going = record {
      placed = record {
        each = λ k z lt.
            let is = for.routed k z lt in
            let plain = plain_name to planned (get_or packets k z).to (linked k z lt) in
            let n = packet_name (get_or packets k z).to to.source.from in
            grind (arith, name_in, name_staging_in, staging_other);
        apart = grind (arith, two_apart, get_or, linked, differ);
      };
      apart = λ k z lt. let is = for.routed k z lt in let f = fits k z lt in record { path = λ o. f.path (subst Own is.path (inside _ o)); staging = λ o. f.staging (subst Own is.staging (inside _ o)) };
      is_trial = record { inside = subst (IsIn to.outbound.now) (sym planned.tried) (trial_in to.outbound.now to.own.now planned.plain); off = of_trial };
      off = off;
    }

-- a staging path is that of a name, and not the station's own
pub staging_named : (Own : List ℕ → Type 0) (to : Sending) → AreRoutes to → (q : Address → Bool) → All (Fits Own to) (links_to to q) → (m : List ℕ) → IsStagingFor to q m → IsOfNameOff Own to.outbound.now to.own.now m
staging_named Own to planned q fit m (a, has, at) =
    let f : Fits Own to a = All-contains (Fits Own to) (links_to to q) a fit has in
    let plain = plain_name to planned a (kept_passes q (link_set to.source.links.now) a has).0 in
    ⊎_elim (λ (e : m ≡ staging_to to a). ((packet_name a to.source.from, plain, inl e), λ o. f.staging (subst Own e o)))
    (λ (e : m ≡ to.trial.now). (([], (λ k d lt. absurd (omega (arith, lt))), inl (e ∙ planned.tried ∙ ap (λ (l : List ℕ). staging_path l to.own.now) (sym (append-nil to.outbound.now)))), λ o. f.trial (subst Own e o))) at
