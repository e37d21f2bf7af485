-- The packets of a pass as the files of a scan.
use Rattle.std.proofs.Common.{◌≡◌, inl, inr, ⊎_elim, ◌∙◌, ℕ, List, [], ◌∷◌, map, refl, sym, subst, ap, append_assoc, arith}
use Rattle.{std.{proofs.lemmas.List.Elements.{All-contains, All-map}, specs.Prelude.{All, Contains, None}}, base_file.specs.Base.Base}
use Rattle.{disk_io.specs.Disk.{DiskState, Files}, disk_atomic.specs.{ListStaged.IsNameByte, Naming.{HasItsPath, IsWholeAtEither}}}
use Rattle.disk_atomic.{specs.{Outgoing.{IsAtStaging, IsFilled, IsFree, SendsBytes}, declared.outgoing.Outgoing.Outgoing}, proofs.Packets.nobody}
use Rattle.{echo_addr.specs.declared.address.Address.Address, model_steps.specs.{PacketFiles.PacketFile, Scanning.header_to}}
use Rattle.{cmd_store.specs.PacketLines.{file_sent, packet_name}, echo_steps.specs.Counts.{bytes_for, link_set}}
use Rattle.echo_steps.{specs.Exports.{OutgoingMessage as Sent, nowhere, packet_out}, proofs.Counts.scanned_to}
use Rattle.station_scan.specs.Sending.{AreRoutes, HasBytes, IsAtItsPath, IsFreeAt, IsOfPacket, IsOffOwn, IsStagingGone, IsStagingOfPacket, IsStagingOn, IsWhole, IsWholeAlone, file_paths, for_address}
use Rattle.station_scan.specs.Passing.{AreFor, FitTo, IsFront, IsGrowingTo, IsRouted, IsStagingTo, IsTakenFor, all_sent, is_made, links_to}
use Rattle.station_scan.specs.{Fitting.{AreFit, AreTaken}, Publishing.{IsFreeIn, IsGoingAt, IsOnDisk, IsStagingOnDisk, ended_in, no_files}, Scanning.packets_in}
use Rattle.station_scan.{specs.declared.sending.Sending.Sending, proofs.Lists.{all_of_map, contains_map, kept_passes, map_twice}}
use Rattle.station_scan.proofs.Routes.{address_for, all_for, made_wider, plain_name}

-- the bytes of each packet
abbrev pub content_of : Sending → Base → Address → List ℕ
content_of to base = bytes_for to.source.links.now to.source.stamp to.source.from base.messages

-- the packet for an address as a file
abbrev pub file_to : Sending → Base → Address → PacketFile
file_to to base a = record { name = packet_name a to.source.from; bytes = content_of to base a }

-- the packets of all messages as files
abbrev pub files_to : Sending → Base → List PacketFile
files_to to base = map (file_to to base) (links_to to (is_made (all_sent to base)))

outs_filed : (to : Sending) (base : Base) (all : List Address) → map (file_sent to.source.from) (map (packet_out to.source.links.now to.source.stamp (all_sent to base)) all) ≡ map (file_to to base) all
unfolding header_to
outs_filed to base [] = refl
outs_filed to base (a ∷ all) = ap (λ (l : List PacketFile). file_to to base a ∷ l) (outs_filed to base all)

-- they are those of a scan
pub files_are : (to : Sending) (base : Base) → to.source.from ≡ base.cursor → packets_in to.source.stamp to.source.links.now base ≡ files_to to base
files_are to base at = grind (arith, scanned_to, outs_filed)

-- ---- at which paths

module _ (to : Sending) (planned : AreRoutes to) (base : Base) where
  abbrev linked : List Address
  linked = link_set to.source.links.now

  -- the staging paths of some packets are those of files
  pub staging_files : (sent : List Sent) → IsFront (all_sent to base) sent → (m : List ℕ) → IsStagingTo to sent m → IsStagingOfPacket to.outbound.now to.own.now (files_to to base) m
  staging_files sent front m (a, has, inl at) =
      let wide = made_wider to sent front.0 (all_sent to base) front.1 a has in
      inl (file_to to base a, contains_map (file_to to base) nowhere (links_to to (is_made (all_sent to base))) a wide, plain_name to planned a (kept_passes (is_made sent) linked a has).0, at)
  staging_files sent front m (a, has, inr at) = inr (at ∙ planned.tried)

  -- where the files fit, so do the packets
  pub fit_of_files : (Own : List ℕ → Type 0) → AreFit Own to.outbound.now to.own.now (files_to to base) → FitTo Own to (all_sent to base)
  fit_of_files Own fit k z lt =
      let all = links_to to (is_made (all_sent to base)) in
      let off = all_of_map (file_to to base) nowhere all (λ (f : PacketFile). IsOffOwn Own (file_paths to.outbound.now to.own.now f)) (all_of_map (file_paths to.outbound.now to.own.now) (file_to to base nowhere) (files_to to base) (IsOffOwn Own) fit.off) k z lt in
      record { path = off.path; staging = off.staging; trial = λ o. fit.trial (subst Own planned.tried o) }

  pub taken_files : (Own : List ℕ → Type 0) (seen : Files) → IsTakenFor Own to base seen → AreTaken Own to.outbound.now to.own.now (files_to to base) seen
  taken_files Own seen (inl taken) = inl (λ free. taken (all_of_map (file_to to base) nowhere (links_to to (is_made (all_sent to base))) (IsFreeAt to.outbound.now seen) free))
  taken_files Own seen (inr unfit) = inr (λ fit. unfit (fit_of_files Own fit))

-- ---- packets of all messages

module _ (to : Sending) (planned : AreRoutes to) (base : Base) (packets : List Outgoing) (for : AreFor to (is_made (all_sent to base)) packets) where
  abbrev sends : Outgoing → PacketFile
  sends p = file_to to base p.to

  pub same_files : map sends packets ≡ files_to to base
  same_files = sym (map_twice (file_to to base) (λ (p : Outgoing). p.to) packets) ∙ ap (map (file_to to base)) for.addresses

  -- what holds of each packet holds of each file
  pub all_files : (P : PacketFile → Type 0) → All (λ p. P (sends p)) packets → All P (files_to to base)
  all_files P each = subst (λ (l : List PacketFile). All P l) same_files (All-map P sends packets each)

  is_file : (p : Outgoing) → Contains packets p → Contains (files_to to base) (sends p) × All IsNameByte (sends p).name × IsRouted to p
  is_file p has = (
    subst (λ (l : List PacketFile). Contains l (sends p)) same_files (contains_map sends nobody packets p has),
    plain_name to planned p.to (kept_passes (is_made (all_sent to base)) (link_set to.source.links.now) p.to (address_for to (is_made (all_sent to base)) packets for p has)).0,
    All-contains (IsRouted to) packets p for.routed has,
  )

  pub of_packet : (m : List ℕ) → IsGoingAt packets to.trial.now m → IsOfPacket to.outbound.now to.own.now (files_to to base) m
  of_packet m h2 = grind (arith, is_file)

  pub staging_packet : (m : List ℕ) → IsAtStaging packets to.trial.now m → IsStagingOfPacket to.outbound.now to.own.now (files_to to base) m
  staging_packet m h2 = grind (arith, is_file)

  -- the packets at their paths
  module _ (disk : DiskState) (all : All (HasItsPath (for_address (content_of to base)) disk) packets) where
    pub at_its_path : All (IsAtItsPath to.outbound.now disk) (files_to to base)
    at_its_path = all_files (IsAtItsPath to.outbound.now disk) (grind arith)

    pub none_staging : All (IsStagingGone to.outbound.now to.own.now disk.seen) (files_to to base)
    none_staging = all_files (IsStagingGone to.outbound.now to.own.now disk.seen) (λ k z lt. ap disk.seen (sym (for.routed k z lt).staging) ∙ (all k z lt).gone)

  pub staging_on : (disk : DiskState) → All (IsStagingOnDisk disk) packets → All (IsStagingOn to.outbound.now to.own.now disk) (files_to to base)
  staging_on disk all = all_files (IsStagingOn to.outbound.now to.own.now disk) (λ k z lt. subst (IsOnDisk disk) (for.routed k z lt).staging (all k z lt))

  pub files_bytes : All (SendsBytes (for_address (content_of to base))) packets → All HasBytes (files_to to base)
  files_bytes all = all_files HasBytes all

  -- packets that a crash leaves
  pub are_whole : (c : Files) → All (IsWholeAtEither (for_address (content_of to base)) no_files c) packets → All (IsWholeAlone to.outbound.now to.own.now c) (files_to to base)
  are_whole c all = all_files (IsWholeAlone to.outbound.now to.own.now c) (λ k z lt.
      let path = ap c (sym (for.routed k z lt).path) in
      let staging = ap c (sym (for.routed k z lt).staging) in
      ⊎_elim (λ at. inl (path ∙ at.0, ⊎_elim (λ e. inl (staging ∙ e)) (λ e. inr (staging ∙ e)) at.1)) (λ at. inr (staging ∙ at.0, path ∙ at.1)) (all k z lt))

  pub are_filled : (disk : DiskState) → All (IsFilled (for_address (content_of to base)) disk) packets → All (IsWhole to.outbound.now to.own.now disk.seen) (files_to to base)
  are_filled disk all = all_files (IsWhole to.outbound.now to.own.now disk.seen) (λ k z lt. inr (ap disk.seen (sym (for.routed k z lt).staging) ∙ (all k z lt).seen))

  pub have_none : (c : Files) → All (IsFreeIn c) packets → All (IsFreeAt to.outbound.now c) (files_to to base)
  have_none c all = all_files (IsFreeAt to.outbound.now c) (λ k z lt. ap c (sym (for.routed k z lt).path) ∙ all k z lt)

  pub none_left : (c : Files) → All (λ p. c p.staging.now ≡ None) packets → All (IsStagingGone to.outbound.now to.own.now c) (files_to to base)
  none_left c all = all_files (IsStagingGone to.outbound.now to.own.now c) (λ k z lt. ap c (sym (for.routed k z lt).staging) ∙ all k z lt)

  -- the bytes of ended packets
  module _ (disk : DiskState) (honest : disk.is_honest) (grows : All (IsGrowingTo to (all_sent to base) disk) (links_to to (is_made (all_sent to base)))) where
    pub ended_has : All (λ p. ended_in disk.seen p ≡ for_address (content_of to base) p) packets
    ended_has =
        all_for to (is_made (all_sent to base)) packets for (IsGrowingTo to (all_sent to base) disk) (λ p. ended_in disk.seen p ≡ for_address (content_of to base) p)
        (grind (arith, append_assoc)) grows

    pub growing_free : All (IsFree disk) packets
    growing_free = all_for to (is_made (all_sent to base)) packets for (IsGrowingTo to (all_sent to base) disk) (IsFree disk) (λ p is one. ap disk.seen is.path ∙ one.free honest) grows
