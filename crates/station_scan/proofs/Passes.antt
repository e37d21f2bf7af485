-- A pass over the messages of a store, group by group.
use Rattle.std.proofs.Common.{◌≡◌, ◌≢◌, ◌⊎◌, inl, inr, ⊎_elim, ◌∙◌, ◌<◌, ◌≤◌, ◌==◌, ◌&&◌, ◌+◌, ℕ, Bool, not, List, [], ◌∷◌, ◌++◌, get_or, length, length-append, drop, map, filter, refl, sym, subst, ap, append_assoc, arith}
use Rattle.std.proofs.lemmas.{Bool.{cases_Bool, eqb-true, false_from_ne_true, le-ltb, ltb-false, ltb-true, lt-ltb}, List.{append-nil, drop_all, map-id}}
use Rattle.std.proofs.lemmas.List.Elements.{All-contains, All-filter, All-head, All-map, All-tail, Contains-get_or}
use Rattle.{std.specs.Prelude.{All, None, Ok, OnOk, Result, nat_lt}, base_file.specs.Base.Base, disk_io.specs.{Disk.{DiskState, Honestly}, Runs.ChangesNothing}}
use Rattle.{disk_io.specs.declared.disk_error.DiskError.DiskError, disk_atomic.specs.Outgoing.{IsAtStaging, IsFree, IsStagingGone}}
use Rattle.disk_atomic.{specs.{declared.outgoing.Outgoing.Outgoing, StagingPaths.staging_path}, proofs.Changes.{only_nothing, then_only, wider}}
use Rattle.{cmd_store.specs.PacketLines.packet_name, echo_addr.specs.declared.address.Address.Address}
use Rattle.echo_steps.specs.Counts.{Group, IsGroupFrom, copies_out, counted_to, counted_with, has_messages, link_set}
use Rattle.echo_steps.{specs.{declared.counting.CountedPacket.CountedPacket, Exports.{OutgoingMessage as Sent, sent_of}}, proofs.Counts.{copies_append, more_in}}
use Rattle.{base_store.{specs.Store.{LooksOn, StoreState}, proofs.Runs.same_twice}, station.specs.Beneath.IsUsedAt}
use Rattle.station_scan.specs.Passing.{AreCounted, AreDropped, AreFor, AreGoneOrSame, AreGrowing, AreTakenTo, CanSend, Fits, FitTo, HasPassed, HasStaged, IsAppending, IsBetween, IsCounted, IsFront, IsGrowingTo, IsMaking, IsPartOf, IsRouted, IsStagingFor, IsStagingTo, IsTakenFor, StopsPassing, all_sent, begun_in, copied_in, counts_in, is_begun, is_filled, is_first, is_longer, is_made, links_to, made_in, path_to, staging_to, with_group}
use Rattle.station_scan.specs.{Fitting.IsOff, Publishing.{AreGoing, AreGone, IsGoingAt, KeepsStoreBut}, Scanning.IsTouched, Sending.AreRoutes}
use Rattle.station_scan.specs.declared.{counting.LinkPacket.LinkPacket, publish_error.PublishError.PublishError, sending.Sending.Sending}
use Rattle.station_scan.proofs.{Lists.{among, kept_passes, map_filter, map_twice, of_each, to_each}, Written.{used_none, used_settled, used_twice}}
use Rattle.station_scan.proofs.Routes.{address_for, all_for, begun_if, begun_narrow, copied_narrow, for_all, going, made_before, made_narrow, made_none, made_wider, more_made, path_off, plain_name, some_for, staging_at, staging_named, staging_of, staging_wider, trial_off}
use Rattle.station_scan.proofs.{Grown.{growing_same, growing_still}, Published.{holds_still, keeps_only, keeps_wider}}

-- ---- a store that is used at more paths, or looked at

pub used_wider : (few many : List ℕ → Type 0) (s0 s1 : StoreState) → ((m : List ℕ) → few m → many m) → IsUsedAt few s0 s1 → IsUsedAt many s0 s1
used_wider few many s0 s1 more used = record { settled = used.settled; same = used.same; holds = used.holds; changes = wider few many s0.disk s1.disk more used.changes }

pub used_looked : (paths : List ℕ → Type 0) (s0 s1 s2 : StoreState) → IsUsedAt paths s0 s1 → LooksOn s1 s2 → IsUsedAt paths s0 s2
used_looked paths s0 s1 s2 used looks = grind (arith, same_twice, holds_still, then_only, only_nothing)

-- it can go on sending
pub can_still : (Own paths : List ℕ → Type 0) (to : Sending) (s0 s1 : StoreState) → IsUsedAt paths s0 s1 → CanSend Own to s0 → CanSend Own to s1
can_still Own paths to s0 s1 used can = record { ready = used.holds.ready; settled = used_settled paths s0 s1 used; own = λ m o. can.own m ((used.same.own m).0 o); routes = can.routes; stamp = can.stamp }

-- ---- counts

abbrev pub copies : List Sent → Address → ℕ
copies sent a = length (copies_out a sent)

module _ (to : Sending) (sent : List Sent) (all : List LinkPacket) (are : AreCounted to sent all) where
  -- those that pass a test are the packets for links
  pub chosen_for : (t : LinkPacket → Bool) (q : Address → Bool) → All (λ l. t l ≡ q l.packet.to) all → AreFor to q (map (λ l. l.packet) (filter t all))
  chosen_for t q same = record {
    addresses = map_twice (λ (p : Outgoing). p.to) (λ (l : LinkPacket). l.packet) (filter t all) ∙ map_filter (λ (l : LinkPacket). l.packet.to) t q all same ∙ ap (filter q) are.addresses;
    routed = All-map (IsRouted to) (λ (l : LinkPacket). l.packet) (filter t all) (λ k z lt. (All-filter t (IsCounted to sent) all are.each k z lt).routed);
  }

  pub made_for : AreFor to (is_made sent) (made_in all)
  made_for = chosen_for is_filled (is_made sent) (λ k z lt. ap has_messages (are.each k z lt).counted)

  counts_same : map (λ (l : LinkPacket). l.counted) all ≡ map (counted_to sent) (link_set to.source.links.now)
  counts_same = counts all are.each ∙ ap (map (counted_to sent)) are.addresses
    where
      counts : (ls : List LinkPacket) → All (IsCounted to sent) ls → map (λ (l : LinkPacket). l.counted) ls ≡ map (counted_to sent) (map (λ (l : LinkPacket). l.packet.to) ls)
      counts [] each = refl
      counts (l ∷ ls) each = let here = (All-head (IsCounted to sent) l ls each).counted in let rest = counts ls (All-tail (IsCounted to sent) l ls each) in λ i. here i ∷ rest i

  -- their counts
  pub counts_are : counts_in all ≡ filter has_messages (map (counted_to sent) (link_set to.source.links.now))
  counts_are = map_filter (λ (l : LinkPacket). l.counted) is_filled has_messages all (λ k z lt. refl) ∙ ap (filter has_messages) counts_same

-- with the copies of a group
module _ (to : Sending) (sent more : List Sent) (all : List LinkPacket) (are : AreCounted to sent all) where
  abbrev next : List LinkPacket
  next = map (with_group more) all

  grown : (a : Address) → copies (sent ++ more) a ≡ copies sent a + copies more a
  grown a = ap length (copies_append a sent more) ∙ length-append (copies_out a sent) (copies_out a more)

  pub next_counted : AreCounted to (sent ++ more) next
  next_counted = record {
    addresses = map_twice (λ (l : LinkPacket). l.packet.to) (with_group more) all ∙ are.addresses;
    each = All-map (IsCounted to (sent ++ more)) (with_group more) all (λ k z lt. let is = are.each k z lt in record { routed = is.routed; counted = ap (counted_with more) is.counted ∙ more_in sent more (get_or all k z).packet.to });
  }

  before : All (λ l. l.before ≡ copies sent l.packet.to) next
  before = All-map (λ l. l.before ≡ copies sent l.packet.to) (with_group more) all (λ k z lt. ap (λ (c : CountedPacket). c.messages) (are.each k z lt).counted)

  next_for : (t : LinkPacket → Bool) (q : Address → Bool) → ((l : LinkPacket) → l.before ≡ copies sent l.packet.to → l.counted.messages ≡ copies (sent ++ more) l.packet.to → t l ≡ q l.packet.to) → AreFor to q (map (λ l. l.packet) (filter t next))
  next_for t q same = chosen_for to (sent ++ more) next next_counted t q (λ k z lt. same (get_or next k z) (before k z lt) (ap (λ (c : CountedPacket). c.messages) (next_counted.each k z lt).counted))

  pub begun_for : AreFor to (is_begun sent more) (begun_in next)
  begun_for = next_for is_first (is_begun sent more) (λ l was now. ap (λ (n : ℕ). (n == 0) && nat_lt 0 l.counted.messages) was ∙ ap (λ (n : ℕ). (copies sent l.packet.to == 0) && nat_lt 0 n) now ∙ ap (λ (b : Bool). b && nat_lt 0 (copies (sent ++ more) l.packet.to)) (none_is (copies sent l.packet.to)))
    where
      none_is : (n : ℕ) → (n == 0) ≡ not (nat_lt 0 n)
      none_is n = grind (arith, cases_Bool, false_from_ne_true, eqb-true, ltb-true, ltb-false)

  pub copied_for : AreFor to (is_made more) (copied_in next)
  copied_for = next_for is_longer (is_made more) (λ l was now. ap (λ (n : ℕ). nat_lt n l.counted.messages) was ∙ ap (λ (n : ℕ). nat_lt (copies sent l.packet.to) n) (now ∙ grown l.packet.to) ∙ longer_is (copies sent l.packet.to) (copies more l.packet.to))
    where
      longer_is : (m n : ℕ) → nat_lt m (m + n) ≡ nat_lt 0 n
      longer_is m n = grind (arith, cases_Bool, ltb-true, lt-ltb, ltb-false, le-ltb)

-- ---- nothing has changed

growing_quiet : (to : Sending) (sent : List Sent) (d e : DiskState) → ChangesNothing d e → (a : Address) → IsGrowingTo to sent d a → IsGrowingTo to sent e a
growing_quiet to sent d e quiet a was = growing_still to sent (λ m. ⊥) d e (only_nothing (λ m. ⊥) d e quiet) (λ m inside named. quiet.named m (λ h. h) named) a (λ h. h) (λ h. h) was

-- ---- group after group

module _ (Own : List ℕ → Type 0) (to : Sending) where
  pub making_new : (d : DiskState) (all : List LinkPacket) → AreCounted to [] all → IsMaking Own to [] d all
  making_new d all are = record { counted = are; fit = made_none to (Fits Own to); grows = made_none to (IsGrowingTo to [] d) }

  -- packets that begin fit where their paths are off the station's own
  pub begun_fit : (sent more : List Sent) (packets : List Outgoing) → AreFor to (is_begun sent more) packets → FitTo Own to sent → All (IsOff Own to.trial.now) packets → FitTo Own to (sent ++ more)
  begun_fit sent more packets for fit off =
      let links = link_set to.source.links.now in
      let old = to_each (Fits Own to) (is_made sent) links fit in
      let new = to_each (Fits Own to) (is_begun sent more) links (for_all to (is_begun sent more) packets for (Fits Own to) (λ k z lt.
      let o = off k z lt in
      let is = for.routed k z lt in
      record { path = λ own. o.path (subst Own (sym is.path) own); staging = λ own. o.staging (subst Own (sym is.staging) own); trial = o.off_trial })) in
      of_each (Fits Own to) (is_made (sent ++ more)) links (grind (arith, get_or, cases_Bool, begun_if))

  -- the paths of those that begin are in use, or not off
  pub begun_taken : (sent more : List Sent) (packets : List Outgoing) → AreFor to (is_begun sent more) packets → (d : DiskState) → (All (IsFree d) packets → ⊥) → AreTakenTo Own to (sent ++ more) d.seen
  begun_taken sent more packets for d taken = inl (λ free.
      taken (all_for to (is_begun sent more) packets for (λ a. d.seen (path_to to a) ≡ None) (IsFree d) (λ p is none. ap d.seen is.path ∙ none) (begun_narrow to sent more (λ a. d.seen (path_to to a) ≡ None) free)))

  pub begun_unfit : (sent more : List Sent) (packets : List Outgoing) → AreFor to (is_begun sent more) packets → (seen : _) → (All (IsOff Own to.trial.now) packets → ⊥) → AreTakenTo Own to (sent ++ more) seen
  begun_unfit sent more packets for seen off = inr (λ fit.
      off (all_for to (is_begun sent more) packets for (Fits Own to) (IsOff Own to.trial.now)
      (λ p is f. record { path = λ own. f.path (subst Own is.path own); staging = λ own. f.staging (subst Own is.staging own); off_trial = f.trial })
      (begun_narrow to sent more (Fits Own to) fit)))

  -- ---- a group was counted

  module _ (s : StoreState) (can : CanSend Own to s) (sent more : List Sent) (all : List LinkPacket) (is : IsMaking Own to sent s.disk all) (counted : List LinkPacket) (counted_is : counted ≡ map (with_group more) all) where
    group_counted : AreCounted to (sent ++ more) counted
    group_counted = subst (λ (l : List LinkPacket). AreCounted to (sent ++ more) l) (sym counted_is) (next_counted to sent more all is.counted)

    -- nothing was staged
    pub staged_none : HasStaged Own to (IsBetween sent (sent ++ more)) s s all
    staged_none = grind (arith, append-nil, used_none)

    -- the packets that begin do not fit
    pub group_unfit : (All (IsOff Own to.trial.now) (begun_in counted) → ⊥) → AreTakenTo Own to (sent ++ more) s.disk.seen
    group_unfit off = begun_unfit sent more (begun_in counted) (subst (λ (l : List LinkPacket). AreFor to (is_begun sent more) (begun_in l)) (sym counted_is) (begun_for to sent more all is.counted)) s.disk.seen off

    module _ (begun copied : List Outgoing) (begun_are : begun ≡ begun_in counted) (copied_are : copied ≡ copied_in counted) (off : All (IsOff Own to.trial.now) begun) where
      for_begun : AreFor to (is_begun sent more) begun
      for_begun = subst (λ (l : List Outgoing). AreFor to (is_begun sent more) l) (sym (begun_are ∙ ap begun_in counted_is)) (begun_for to sent more all is.counted)

      for_copied : AreFor to (is_made more) copied
      for_copied = subst (λ (l : List Outgoing). AreFor to (is_made more) l) (sym (copied_are ∙ ap copied_in counted_is)) (copied_for to sent more all is.counted)

      group_fit : FitTo Own to (sent ++ more)
      group_fit = begun_fit sent more begun for_begun is.fit off

      copied_fit : All (Fits Own to) (links_to to (is_made more))
      copied_fit = copied_narrow to sent more (Fits Own to) group_fit

      pub group_appending : IsAppending to sent more s.disk copied begun
      group_appending = record { routes = can.routes; copied_for = for_copied; begun_for = for_begun; grows = is.grows }

      free_trial : 0 < length copied → s.is_own to.trial.now → ⊥
      free_trial some o = trial_off to (is_made more) copied for_copied Own copied_fit some (can.own _ o)

      pub copied_going : 0 < length copied → AreGoing s.is_own to.outbound.now to.trial.now copied
      copied_going some = going to (is_made more) copied for_copied Own can.routes s can.own copied_fit (free_trial some)

      pub begun_going : 0 < length copied → AreGoing s.is_own to.outbound.now to.trial.now begun
      begun_going some = going to (is_begun sent more) begun for_begun Own can.routes s can.own (begun_narrow to sent more (Fits Own to) group_fit) (free_trial some)

      staged_now : (e : StoreState) → IsUsedAt (IsStagingTo to (sent ++ more)) s e → HasStaged Own to (IsBetween sent (sent ++ more)) s e counted
      staged_now e used = record { sent = sent ++ more; part = record { part = (more, refl); rest = ([], append-nil (sent ++ more)) }; counted = group_counted; fit = group_fit; used = used }

      -- it was written
      pub group_staged : 0 < length copied → (e : StoreState) → IsUsedAt (IsAtStaging copied to.trial.now) s e → HasStaged Own to (IsBetween sent (sent ++ more)) s e counted
      group_staged some e used =
          staged_now e (used_wider (IsAtStaging copied to.trial.now) (IsStagingTo to (sent ++ more)) s e
          (λ m at. staging_wider to (is_made more) (is_made (sent ++ more)) (more_made sent more) m (staging_at to (is_made more) copied for_copied some m at)) used)

      pub group_making : (d : DiskState) → AreGrowing to (sent ++ more) d → IsMaking Own to (sent ++ more) d counted
      group_making d grows = record { counted = group_counted; fit = group_fit; grows = grows }

      pub group_taken : (All (IsFree s.disk) begun → ⊥) → AreTakenTo Own to (sent ++ more) s.disk.seen
      group_taken taken = begun_taken sent more begun for_begun s.disk taken

      -- it has no copies
      pub none_staged : HasStaged Own to (IsBetween sent (sent ++ more)) s s counted
      none_staged = staged_now s (used_none (IsStagingTo to (sent ++ more)) s can.settled can.ready)

      pub none_making : length copied ≡ 0 → IsMaking Own to (sent ++ more) s.disk counted
      none_making none =
          let links = link_set to.source.links.now in
          let old = to_each (IsGrowingTo to sent s.disk) (is_made sent) links is.grows in
          let nobody_in : All (λ a. ⊥) (links_to to (is_made more)) = λ k d lt. absurd (omega (arith, none, some_for to (is_made more) copied for_copied (omega (arith, lt)))) in
          let no = to_each (λ (a : Address). ⊥) (is_made more) links nobody_in in
          group_making s.disk (of_each (IsGrowingTo to (sent ++ more) s.disk) (is_made (sent ++ more)) links (grind (arith, get_or, false_from_ne_true, growing_same, made_before)))

  -- a part was staged, and then more of it
  pub staged_more : (P Q : List Sent → Type 0) (s0 s1 s2 : StoreState) (all : List LinkPacket) (was : HasStaged Own to P s0 s1 all) → (P was.sent → Q was.sent) → IsUsedAt (IsStagingTo to was.sent) s1 s2 → HasStaged Own to Q s0 s2 all
  staged_more P Q s0 s1 s2 all was gives more = record {
    sent = was.sent;
    part = gives was.part;
    counted = was.counted;
    fit = was.fit;
    used = used_twice (IsStagingTo to was.sent) s0 s1 s2 was.used more;
  }

  staging_front : (few all : List Sent) → IsFront all few → (m : List ℕ) → IsStagingTo to few m → IsStagingTo to all m
  staging_front few all front m (a, has, at) = (a, made_wider to few front.0 all front.1 a has, at)

  -- a path in use of some packets is one of all packets
  taken_all : AreRoutes to → (sent now : List Sent) (base : Base) (s0 s1 : StoreState) → IsFront (all_sent to base) now → IsUsedAt (IsStagingTo to sent) s0 s1 → AreTakenTo Own to now s1.disk.seen → IsTakenFor Own to base s0.disk.seen
  taken_all planned sent now base s0 s1 front used (inl taken) = inl (λ free.
      taken (λ k d lt.
      let a = get_or (links_to to (is_made now)) k d in
      let linked = (kept_passes (is_made now) (link_set to.source.links.now) a (Contains-get_or (links_to to (is_made now)) k d lt)).0 in
      used.changes.seen (path_to to a) (path_off to planned (is_made sent) a linked) ∙ made_narrow to now front.0 (all_sent to base) front.1 (λ x. s0.disk.seen (path_to to x) ≡ None) free k d lt))
  taken_all planned sent now base s0 s1 front used (inr unfit) = inr (λ fit. unfit (made_narrow to now front.0 (all_sent to base) front.1 (Fits Own to) fit))

  -- where a path is that of a staging file or not
  staging_or_not : (q : Address → Bool) (m : List ℕ) → IsStagingFor to q m ⊎ (IsStagingFor to q m → ⊥)
  staging_or_not q m = elim (among (staging_to to) m (links_to to q)) [
    | inl found ↦ inl (found.0, found.1, inl found.2)
    | inr none ↦ elim (among (λ (a : Address). to.trial.now) m (links_to to q)) [
      | inl found ↦ inl (found.0, found.1, inr found.2)
      | inr off ↦ inr (λ at. ⊎_elim (λ (e : m ≡ staging_to to at.0). All-contains (λ a. m ≢ staging_to to a) (links_to to q) at.0 none at.1 e) (λ (e : m ≡ to.trial.now). All-contains (λ a. m ≢ to.trial.now) (links_to to q) at.0 off at.1 e) at.2)
    ]
  ]

  -- the staging files are removed
  pub gone_or_same : (P : List Sent → Type 0) (s0 s1 s2 : StoreState) (all : List LinkPacket) (was : HasStaged Own to P s0 s1 all) → IsUsedAt (IsStagingTo to was.sent) s1 s2 → ((m : List ℕ) → IsStagingTo to was.sent m → s2.disk.seen m ≡ None)
      → AreGoneOrSame s0.disk.seen s2.disk.seen
  gone_or_same P s0 s1 s2 all was drop gone m = grind (arith, used_twice, ⊎_elim, staging_or_not)

  pub passed_part : (s0 s1 s2 : StoreState) (all : List LinkPacket) (was : HasPassed Own to s0 s1 all) → (s2.disk.is_honest → s1.disk.is_honest) → IsPartOf to s0 s2 was.sent
  passed_part s0 s1 s2 all was run = λ honest base kept. ([], append-nil was.sent ∙ was.part.whole (run honest) base kept)

-- ---- the pass so far

pub record IsAt (to : Sending) (s0 s : StoreState) (at : ℕ) (sent : List Sent) : Type 0 where
  pub grows : AreGrowing to sent s.disk
  pub rest : Honestly s.disk ((base : Base) → s0.keeps base → sent ++ sent_of to.source.links.now (drop at base.messages) ≡ all_sent to base)

abbrev pub IsPassing : (List ℕ → Type 0) → Sending → StoreState → StoreState → List LinkPacket → ℕ → Type 0
IsPassing Own to s0 s all at = HasStaged Own to (IsAt to s0 s at) s0 s all

module _ (Own : List ℕ → Type 0) (to : Sending) (s0 : StoreState) (can : CanSend Own to s0) where
  pub passing_starts : (all : List LinkPacket) → IsMaking Own to [] s0.disk all → IsPassing Own to s0 s0 all to.source.from
  passing_starts all is = grind (arith, used_none)

  module _ (s : StoreState) (all : List LinkPacket) (at : ℕ) (was : IsPassing Own to s0 s all at) where
    part_now : (e : StoreState) → (e.disk.is_honest → s.disk.is_honest) → IsPartOf to s0 e was.sent
    part_now e run honest base kept = (sent_of to.source.links.now (drop at base.messages), was.part.rest (run honest) base kept)

    pub passing_staged : HasStaged Own to (IsPartOf to s0 s) s0 s all
    passing_staged = record { sent = was.sent; part = part_now s (λ h. h); counted = was.counted; fit = was.fit; used = was.used }

    pub passing_over : Honestly s.disk ((base : Base) → s0.keeps base → length base.messages ≤ at) → HasPassed Own to s0 s all
    passing_over past = grind (arith, drop_all, append-nil)

    -- a group was read
    module _ (r : StoreState) (looks : LooksOn s r) where
      pub used_read : IsUsedAt (IsStagingTo to was.sent) s0 r
      used_read = used_looked (IsStagingTo to was.sent) s0 s r was.used looks

      pub read_staged : HasStaged Own to (IsPartOf to s0 r) s0 r all
      read_staged = record { sent = was.sent; part = part_now r looks.quiet.honest; counted = was.counted; fit = was.fit; used = used_read }

      pub read_can : CanSend Own to r
      read_can = can_still Own (IsStagingTo to was.sent) to s0 r used_read can

      pub read_making : IsMaking Own to was.sent r.disk all
      read_making = grind (arith, growing_quiet, get_or)

      module _ (group : Group) (from : Honestly r.disk ((base : Base) → s.keeps base → IsGroupFrom to.source.links.now base.messages at group)) (e : StoreState) (now : List LinkPacket)
          (stages : HasStaged Own to (IsBetween was.sent (was.sent ++ group.sent)) r e now) where
        rest_next : e.disk.is_honest → (base : Base) → s0.keeps base → (was.sent ++ group.sent) ++ sent_of to.source.links.now (drop group.next base.messages) ≡ all_sent to base
        rest_next honest base kept = grind (arith, append_assoc)

        used_next : IsUsedAt (IsStagingTo to stages.sent) s0 e
        used_next = used_twice (IsStagingTo to stages.sent) s0 r e (used_wider (IsStagingTo to was.sent) (IsStagingTo to stages.sent) s0 r (staging_front Own to was.sent stages.sent stages.part.part) used_read) stages.used

        -- and written or not
        pub written_staged : HasStaged Own to (IsPartOf to s0 e) s0 e now
        written_staged = grind (arith, append_assoc, rest_next, used_next)

        -- the pass goes on
        pub passing_next : IsMaking Own to (was.sent ++ group.sent) e.disk now → IsPassing Own to s0 e now group.next
        passing_next making = record {
          sent = was.sent ++ group.sent;
          part = record { grows = making.grows; rest = rest_next };
          counted = making.counted;
          fit = making.fit;
          used = used_wider (IsStagingTo to stages.sent) (IsStagingTo to (was.sent ++ group.sent)) s0 e (staging_front Own to stages.sent (was.sent ++ group.sent) stages.part.rest) used_next;
        }

        -- a path was in use
        pub written_taken : e.disk.is_honest → AreTakenTo Own to (was.sent ++ group.sent) r.disk.seen → (base : Base) → s0.keeps base → IsTakenFor Own to base s0.disk.seen
        written_taken honest taken base kept =
            taken_all Own to can.routes was.sent (was.sent ++ group.sent) base s0 r (sent_of to.source.links.now (drop group.next base.messages), rest_next honest base kept) used_read taken

-- ---- the packets with messages

module _ (to : Sending) (planned : AreRoutes to) (sent : List Sent) (links : List LinkPacket) (are : AreCounted to sent links) (made : List Outgoing) (made_are : made ≡ made_in links) where
  pub for_made : AreFor to (is_made sent) made
  for_made = subst (λ (l : List Outgoing). AreFor to (is_made sent) l) (sym made_are) (made_for to sent links are)

  pub made_going : (Own : List ℕ → Type 0) (s : StoreState) → CanSend Own to s → FitTo Own to sent → 0 < length made → AreGoing s.is_own to.outbound.now to.trial.now made
  made_going Own s can fit some = going to (is_made sent) made for_made Own planned s can.own fit (λ o. trial_off to (is_made sent) made for_made Own fit some (can.own _ o))

  pub made_used : (s e : StoreState) → 0 < length made → IsUsedAt (IsAtStaging made to.trial.now) s e → IsUsedAt (IsStagingTo to sent) s e
  made_used s e some used = used_wider (IsAtStaging made to.trial.now) (IsStagingTo to sent) s e (staging_at to (is_made sent) made for_made some) used

  pub made_gone : (e : DiskState) → AreGone made to.trial.now e → (m : List ℕ) → IsStagingTo to sent m → e.seen m ≡ None
  made_gone e gone m at = ⊎_elim (λ b. ap e.seen b.2 ∙ All-contains (IsStagingGone e) made b.0 gone.0 b.1) (λ t. ap e.seen t ∙ gone.1) (staging_of to (is_made sent) made for_made m at)

  pub made_nowhere : length made ≡ 0 → (m : List ℕ) → IsStagingTo to sent m → ⊥
  made_nowhere none m (a, (k, lt, is), at) = omega (arith, none, some_for to (is_made sent) made for_made (omega (arith, lt)))

  -- the paths of packets are those of names
  pub made_touched : (Other : List ℕ → Type 0) (m : List ℕ) → IsGoingAt made to.trial.now m → IsTouched Other to.outbound.now m
  made_touched Other m (inl (p, has, at)) =
      let is = All-contains (IsRouted to) made p for_made.routed has in
      let linked = (kept_passes (is_made sent) (link_set to.source.links.now) p.to (address_for to (is_made sent) made for_made p has)).0 in
      inr (to.own.now, (packet_name p.to to.source.from, plain_name to planned p.to linked, ⊎_elim (λ e. inl (e ∙ is.staging)) (λ e. inr (e ∙ is.path)) at))
  made_touched Other m (inr at) =
      inr (to.own.now, ([], λ k d lt. absurd (omega (arith, lt)), inl (at ∙ planned.tried ∙ ap (λ (l : List ℕ). staging_path l to.own.now) (sym (append-nil to.outbound.now)))))

-- a run at staging paths keeps all else
pub staged_keeps : (Own : List ℕ → Type 0) (to : Sending) → AreRoutes to → (sent : List Sent) → FitTo Own to sent → (s0 s1 : StoreState) → IsUsedAt (IsStagingTo to sent) s0 s1 → KeepsStoreBut (IsTouched s0.is_own to.outbound.now) s0 s1
staged_keeps Own to planned sent fit s0 s1 used = record {
  same = used.same;
  keeps =
      keeps_wider (IsStagingTo to sent) (IsTouched s0.is_own to.outbound.now) s0.disk s1.disk (λ m at. inr (to.own.now, (staging_named Own to planned (is_made sent) fit m at).0))
      (keeps_only (IsStagingTo to sent) s0.disk s1.disk used.changes);
}

-- ---- the pass stopped

-- the packets for all links, without messages
abbrev none_for : Sending → Address → LinkPacket
none_for to a = record {
  packet = record { path = record { ref_ptr = (0, 0); now = path_to to a }; staging = record { ref_ptr = (0, 0); now = staging_to to a }; to = a };
  before = 0;
  counted = counted_to [] a;
}

none_counted : (to : Sending) → AreCounted to [] (map (none_for to) (link_set to.source.links.now))
none_counted to =
    let links = link_set to.source.links.now in
    record { addresses = map_twice (λ (l : LinkPacket). l.packet.to) (none_for to) links ∙ map-id links; each = All-map (IsCounted to []) (none_for to) links (λ k z lt. record { routed = record { path = refl; staging = refl }; counted = refl }) }

pub stops_none : (Own : List ℕ → Type 0) (to : Sending) (s : StoreState) (why : PublishError) → CanSend Own to s → StopsPassing Own to s s why
stops_none Own to s why can = record {
  all = map (none_for to) (link_set to.source.links.now);
  staged = record { sent = []; part = λ honest base kept. (all_sent to base, refl); counted = none_counted to; fit = made_none to (Fits Own to); used = used_none (IsStagingTo to []) s can.settled can.ready };
  gone = λ honest dropped m. inr refl;
}

pub stops_dropped : (Own : List ℕ → Type 0) (to : Sending) (s0 s1 s2 : StoreState) (all : List LinkPacket) (why : PublishError) (done : Result (Unit {0}) DiskError) → HasStaged Own to (IsPartOf to s0 s1) s0 s1 all
    → ((sent : List Sent) → AreCounted to sent all → IsUsedAt (IsStagingTo to sent) s1 s2) → Honestly s2.disk (OnOk done ((sent : List Sent) → AreCounted to sent all → (m : List ℕ) → IsStagingTo to sent m → s2.disk.seen m ≡ None))
    → (AreDropped why → done ≡ Ok tt) → StopsPassing Own to s0 s2 why
stops_dropped Own to s0 s1 s2 all why done staged used gone ends =
    let drop = used staged.sent staged.counted in
    record {
      all = all;
      staged = staged_more Own to (IsPartOf to s0 s1) (IsPartOf to s0 s2) s0 s1 s2 all staged (λ part honest base kept. part (drop.changes.honest honest) base kept) drop;
      gone = λ honest is.
          gone_or_same Own to (IsPartOf to s0 s1) s0 s1 s2 all staged drop
          (subst (λ (r : Result (Unit {0}) DiskError). OnOk r ((sent : List Sent) → AreCounted to sent all → (m : List ℕ) → IsStagingTo to sent m → s2.disk.seen m ≡ None)) (ends is) (gone honest) staged.sent staged.counted);
    }
