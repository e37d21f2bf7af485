-- Staging files of packets grow by the copies of messages.
use Rattle.std.proofs.Common.{◌≡◌, inl, inr, ◌∙◌, ◌<◌, ℕ, true, false, true≢false, Bool, List, [], ◌++◌, get_or, length, sym, subst, ap, append_assoc, arith}
use Rattle.std.{proofs.lemmas.{Bool.{cases_Bool, false_from_ne_true}, List.{append-nil, Elements.Contains-get_or}}, specs.Prelude.{All, Contains}}
use Rattle.{disk_io.specs.{Disk.{DiskState, Honestly, IsIn, bytes_in}, Fixed.AreBytes}, disk_atomic.specs.Changes.{CanGrow, ChangesOnly}}
use Rattle.disk_atomic.{specs.{Outgoing.{IsAtStaging, IsLonger}, declared.outgoing.Outgoing.Outgoing}, proofs.Packets.nobody}
use Rattle.{echo_addr.specs.declared.address.Address.Address, echo_packet.specs.Message.messages_bytes, echo_steps.specs.Counts.{copies_out, link_set}}
use Rattle.echo_steps.{specs.Exports.OutgoingMessage as Sent, proofs.Counts.{copies_append, messages_append}}
use Rattle.station_scan.specs.Passing.{AreFor, AreGrowing, IsAppending, IsGrowingTo, IsRouted, IsStagingFor, header_for, is_begun, is_made, links_to, path_to, staging_to}
use Rattle.station_scan.{specs.{Publishing.{AreOpen, IsWritten}, declared.sending.Sending.Sending}, proofs.Lists.{of_each, to_each}}
use Rattle.station_scan.proofs.Routes.{all_for, begun_if, begun_is, begun_more, for_all, made_before, more_made, no_copies, off_trial, path_off, same_copies, some_for, staging_at, staging_of, staging_off, staging_wider}

module _ (to : Sending) (sent : List Sent) where
  -- those that grow are open
  pub open_growing : (q : Address → Bool) (packets : List Outgoing) → AreFor to q packets → (disk : DiskState) → 0 < length packets → All (IsGrowingTo to sent disk) (links_to to q) → AreOpen to.outbound.now packets disk
  open_growing q packets for disk some grows =
      let each = all_for to q packets for (IsGrowingTo to sent disk) (λ p. IsRouted to p × IsGrowingTo to sent disk p.to) (λ p is g. (is, g)) grows in
      record {
        grow = λ k z lt. let (is, one) = each k z lt in subst (λ (m : List ℕ). CanGrow disk m) (sym is.staging) one.grow;
        named = (each 0 nobody some).1.named;
        free = λ honest k z lt. let (is, one) = each k z lt in ap disk.seen is.path ∙ one.free honest;
        bytes = λ honest k z lt. let (is, one) = each k z lt in subst (λ (m : List ℕ). AreBytes (bytes_in (disk.seen m))) (sym is.staging) (one.bytes honest);
      }

  -- one still grows after a run at other paths
  pub growing_still : (paths : List ℕ → Type 0) (d0 d1 : DiskState) → ChangesOnly paths d0 d1 → ((m : List ℕ) → IsIn to.outbound.now m → d0.is_named m → d1.is_named m) → (a : Address) → (paths (staging_to to a) → ⊥)
      → (paths (path_to to a) → ⊥) → IsGrowingTo to sent d0 a → IsGrowingTo to sent d1 a
  growing_still paths d0 d1 run names a off_staging off_path was = grind arith

  -- new ones have their header, and no copies so far
  pub growing_new : (q : Address → Bool) (packets : List Outgoing) → AreFor to q packets → (disk : DiskState) → AreOpen to.outbound.now packets disk → Honestly disk (All (IsWritten (λ p. header_for to p.to) disk.seen) packets)
      → All (λ a. copies_out a sent ≡ []) (links_to to q) → All (IsGrowingTo to sent disk) (links_to to q)
  growing_new q packets for disk opened headed none =
      let each = all_for to q packets for (λ a. copies_out a sent ≡ []) (λ p. copies_out p.to sent ≡ []) (λ p is n. n) none in
      for_all to q packets for (IsGrowingTo to sent disk) (grind (arith, get_or, append-nil))

  -- with more copies
  pub growing_more : (more : List Sent) (q : Address → Bool) (packets : List Outgoing) → AreFor to q packets → (d0 d1 : DiskState) → (d1.is_honest → d0.is_honest) → All (IsGrowingTo to sent d0) (links_to to q) → AreOpen to.outbound.now packets d1
      → Honestly d1 (All (IsLonger (λ x. messages_bytes (copies_out x more)) d0 d1) packets) → All (IsGrowingTo to (sent ++ more) d1) (links_to to q)
  growing_more more q packets for d0 d1 honest_run was opened longer =
      let each = all_for to q packets for (IsGrowingTo to sent d0) (λ p. IsGrowingTo to sent d0 p.to) (λ p is g. g) was in
      for_all to q packets for (IsGrowingTo to (sent ++ more) d1) (grind (arith, get_or, copies_append, messages_append, append_assoc))

  -- messages for other addresses change nothing
  pub growing_same : (more : List Sent) (d : DiskState) (a : Address) → is_made more a ≡ false → IsGrowingTo to sent d a → IsGrowingTo to (sent ++ more) d a
  growing_same more d a none was = grind (arith, same_copies)

-- ---- a group is appended

some_of : (packets : List Outgoing) (p : Outgoing) → Contains packets p → 0 < length packets
some_of packets p (k, lt, e) = omega (arith, lt)

module _ (to : Sending) (sent more : List Sent) (d0 : DiskState) (copied begun : List Outgoing) (is : IsAppending to sent more d0 copied begun) where
  abbrev links : List Address
  links = link_set to.source.links.now

  -- the staging paths of packets that begin are among those with copies
  pub first_staging : (m : List ℕ) → IsAtStaging begun to.trial.now m → IsAtStaging copied to.trial.now m
  first_staging m (inl (p, has, at)) =
      staging_of to (is_made more) copied is.copied_for m
      (staging_wider to (is_begun sent more) (is_made more) (begun_more sent more) m (staging_at to (is_begun sent more) begun is.begun_for (some_of begun p has) m (inl (p, has, at))))
  first_staging m (inr at) = inr at

  -- those that grow so far go on where a batch has no copies for them
  still_at : (q : Address → Bool) (packets : List Outgoing) → AreFor to q packets → (d1 d2 : DiskState) → ChangesOnly (IsAtStaging packets to.trial.now) d1 d2 → ((m : List ℕ) → IsIn to.outbound.now m → d1.is_named m → d2.is_named m)
      → (a : Address) → Contains links a → q a ≡ false → IsGrowingTo to sent d1 a → IsGrowingTo to sent d2 a
  still_at q packets for d1 d2 run names a has none was =
      growing_still to sent (λ m. IsAtStaging packets to.trial.now m) d1 d2 run names a
      (λ at. off (staging_to to a) at (staging_off to is.routes q a has none) (λ e. (off_trial to is.routes a has).1 e)) (λ at. off (path_to to a) at (path_off to is.routes q a has) (λ e. (off_trial to is.routes a has).0 e)) was
    where
      off : (m : List ℕ) → IsAtStaging packets to.trial.now m → (IsStagingFor to q m → ⊥) → (m ≡ to.trial.now → ⊥) → ⊥
      off m (inl (p, among, at)) not trial = not (staging_at to q packets for (some_of packets p among) m (inl (p, among, at)))
      off m (inr at) not trial = trial at

  module _ (d1 : DiskState) (run : ChangesOnly (IsAtStaging begun to.trial.now) d0 d1) (names : (m : List ℕ) → IsIn to.outbound.now m → d0.is_named m → d1.is_named m) where
    not_begun : (a : Address) → is_made sent a ≡ true → is_begun sent more a ≡ false
    not_begun a made = false_from_ne_true (is_begun sent more a) (λ b. true≢false (sym made ∙ (begun_is sent more a b).0))

    -- the earlier ones
    pub earlier_grow : AreGrowing to sent d1
    earlier_grow = of_each (IsGrowingTo to sent d1) (is_made sent) links (λ k d lt made.
        let a = get_or links k d in
        still_at (is_begun sent more) begun is.begun_for d0 d1 run names a (Contains-get_or links k d lt) (not_begun a made) (to_each (IsGrowingTo to sent d0) (is_made sent) links is.grows k d lt made))

    -- those with copies grow once the first ones were begun
    pub copied_grow : (0 < length begun → AreOpen to.outbound.now begun d1) → Honestly d1 (All (IsWritten (λ p. header_for to p.to) d1.seen) begun) → All (IsGrowingTo to sent d1) (links_to to (is_made more))
    copied_grow opened headed =
        let old = to_each (IsGrowingTo to sent d1) (is_made sent) links earlier_grow in
        let none : All (λ a. copies_out a sent ≡ []) (links_to to (is_begun sent more)) =
        of_each (λ a. copies_out a sent ≡ []) (is_begun sent more) links (λ k d lt b. no_copies sent (get_or links k d) (begun_is sent more (get_or links k d) b).0) in
        let new = to_each (IsGrowingTo to sent d1) (is_begun sent more) links (new_grow none) in
        of_each (IsGrowingTo to sent d1) (is_made more) links (grind (arith, get_or, cases_Bool, begun_if, more_made))
      where
        new_grow : All (λ a. copies_out a sent ≡ []) (links_to to (is_begun sent more)) → All (IsGrowingTo to sent d1) (links_to to (is_begun sent more))
        new_grow none k d lt =
            let some : 0 < length begun = some_for to (is_begun sent more) begun is.begun_for (omega (arith, lt)) in
            growing_new to sent (is_begun sent more) begun is.begun_for d1 (opened some) headed none k d lt

    -- all grow, with the copies of the group
    pub all_appended : (d2 : DiskState) → ChangesOnly (IsAtStaging copied to.trial.now) d1 d2 → All (IsGrowingTo to sent d1) (links_to to (is_made more)) → AreOpen to.outbound.now copied d2 → Honestly d2 (All (IsLonger (λ x. messages_bytes (copies_out x more)) d1 d2) copied)
        → AreGrowing to (sent ++ more) d2
    all_appended d2 run2 grows opened longer =
        let old = to_each (IsGrowingTo to sent d1) (is_made sent) links earlier_grow in
        let new = to_each (IsGrowingTo to (sent ++ more) d2) (is_made more) links (growing_more to sent more (is_made more) copied is.copied_for d1 d2 run2.honest grows opened longer) in
        of_each (IsGrowingTo to (sent ++ more) d2) (is_made (sent ++ more)) links (λ k d lt made.
        let a = get_or links k d in
        elim (cases_Bool (is_made more a)) [
          | inl copies ↦ new k d lt copies
          | inr none ↦ growing_same to sent more d2 a none (still_at (is_made more) copied is.copied_for d1 d2 run2 (λ m inside was. opened.named m inside) a (Contains-get_or links k d lt) none (old k d lt (made_before sent more a made none)))
        ])
