-- The packets of a scan while their staging files grow, during the pass over the messages.
use Rattle.std.specs.Prelude.{◌≡◌, ◌⊎◌, ◌==◌, ℕ, Bool, true, not, nat_lt, ◌&&◌, List, ◌++◌, map, filter, drop, All, Contains, None}
use Rattle.{disk_io.specs.{Disk.{DiskState, Files, Honestly, IsIn, bytes_in}, Fixed.AreBytes}, disk_atomic.specs.{Changes.CanGrow, StagingPaths.staging_path}}
use Rattle.{disk_atomic.specs.declared.outgoing.Outgoing.Outgoing, echo_addr.specs.declared.address.Address.Address, echo_packet.specs.Header.header_bytes}
use Rattle.{echo_packet.specs.Message.messages_bytes, model_steps.specs.{Scanning.header_to, Stamps.is_stamp}, base_file.specs.Base.Base}
use Rattle.echo_steps.specs.{Counts.{copies_out, counted_to, counted_with, has_messages, link_set}, Exports.{OutgoingMessage as Sent, sent_of}}
use Rattle.{echo_steps.specs.declared.counting.CountedPacket.CountedPacket, cmd_store.specs.PacketLines.packet_name, base_store.specs.Store.StoreState}
use Rattle.{station.specs.Beneath.{AreSettledByOwn, IsUsedAt}, station_scan.specs.{Sending.AreRoutes, declared.counting.LinkPacket.LinkPacket}}
use Rattle.station_scan.specs.declared.{publish_error.PublishError.PublishError, sending.Sending.Sending}
use Rattle.station_scan.specs.declared.publish_error.PublishError.TheVariants.{Base as OfBase, Packets, Reading, Staging}

-- The store can be used, and the packets go to planned paths. The stamp is right, and the station owns the paths of the store.
pub record CanSend (Own : List ℕ → Type 0) (to : Sending) (s : StoreState) : Type 0 where
  pub ready : s.is_ready
  pub settled : AreSettledByOwn s
  pub own : (m : List ℕ) → s.is_own m → Own m
  pub routes : AreRoutes to
  pub stamp : is_stamp to.source.stamp ≡ true

-- ---- which packets there are

-- Whether the packet for an address has a copy of these messages.
abbrev pub is_made : List Sent → Address → Bool
is_made sent a = has_messages (counted_to sent a)

-- Whether its first copy is among the later ones.
abbrev pub is_begun : List Sent → List Sent → Address → Bool
is_begun sent more a = not (is_made sent a) && is_made (sent ++ more) a

-- The links that pass a test.
abbrev pub links_to : Sending → (Address → Bool) → List Address
links_to to q = filter q (link_set to.source.links.now)

-- The path of the packet for an address, and its staging path.
abbrev pub path_to : Sending → Address → List ℕ
path_to to a = to.outbound.now ++ packet_name a to.source.from

abbrev pub staging_to : Sending → Address → List ℕ
staging_to to a = staging_path (path_to to a) to.own.now

-- It has the paths for its address.
pub record IsRouted (to : Sending) (p : Outgoing) : Type 0 where
  pub path : p.path.now ≡ path_to to p.to
  pub staging : p.staging.now ≡ staging_to to p.to

-- The packets for the links that pass a test.
pub record AreFor (to : Sending) (q : Address → Bool) (packets : List Outgoing) : Type 0 where
  pub addresses : map (λ p. p.to) packets ≡ links_to to q
  pub routed : All (IsRouted to) packets

-- Neither path of the packet for an address belongs to the station's files. The trial path does not either.
pub record Fits (Own : List ℕ → Type 0) (to : Sending) (a : Address) : Type 0 where
  pub path : Own (path_to to a) → ⊥
  pub staging : Own (staging_to to a) → ⊥
  pub trial : Own to.trial.now → ⊥

-- The packets of these messages fit.
abbrev pub FitTo : (List ℕ → Type 0) → Sending → List Sent → Type 0
FitTo Own to sent = All (Fits Own to) (links_to to (is_made sent))

-- The staging path of one of the packets, or the trial path if there is one.
abbrev pub IsStagingFor : Sending → (Address → Bool) → List ℕ → Type 0
IsStagingFor to q m = (a : Address) × Contains (links_to to q) a × ((m ≡ staging_to to a) ⊎ (m ≡ to.trial.now))

-- The same of the packets of these messages.
abbrev pub IsStagingTo : Sending → List Sent → List ℕ → Type 0
IsStagingTo to sent m = IsStagingFor to (is_made sent) m

-- ---- counts

-- A packet with more copies.
abbrev pub with_group : List Sent → LinkPacket → LinkPacket
with_group more l = record { packet = l.packet; before = l.counted.messages; counted = counted_with more l.counted }

-- The packets that have messages, that got their first ones, and that got some.
abbrev pub is_filled : LinkPacket → Bool
is_filled l = nat_lt 0 l.counted.messages

abbrev pub is_first : LinkPacket → Bool
is_first l = (l.before == 0) && nat_lt 0 l.counted.messages

abbrev pub is_longer : LinkPacket → Bool
is_longer l = nat_lt l.before l.counted.messages

abbrev pub made_in : List LinkPacket → List Outgoing
made_in all = map (λ l. l.packet) (filter is_filled all)

abbrev pub begun_in : List LinkPacket → List Outgoing
begun_in all = map (λ l. l.packet) (filter is_first all)

abbrev pub copied_in : List LinkPacket → List Outgoing
copied_in all = map (λ l. l.packet) (filter is_longer all)

-- The counts of those that have messages.
abbrev pub counts_in : List LinkPacket → List CountedPacket
counts_in all = map (λ l. l.counted) (filter is_filled all)

-- The packet for a link has the copies of these messages.
pub record IsCounted (to : Sending) (sent : List Sent) (l : LinkPacket) : Type 0 where
  pub routed : IsRouted to l.packet
  pub counted : l.counted ≡ counted_to sent l.packet.to

-- The same for the packets for all links.
pub record AreCounted (to : Sending) (sent : List Sent) (all : List LinkPacket) : Type 0 where
  pub addresses : map (λ l. l.packet.to) all ≡ link_set to.source.links.now
  pub each : All (IsCounted to sent) all

-- ---- staging files

-- The header of the packet for an address.
abbrev pub header_for : Sending → Address → List ℕ
header_for to a = header_bytes (header_to to.source.links.now to.source.stamp a)

-- Its staging file has the header and the copies of these messages, and can grow. No file has its path.
pub record IsGrowingTo (to : Sending) (sent : List Sent) (disk : DiskState) (a : Address) : Type 0 where
  pub grow : CanGrow disk (staging_to to a)
  pub named : (m : List ℕ) → IsIn to.outbound.now m → disk.is_named m
  pub free : Honestly disk (disk.seen (path_to to a) ≡ None)
  pub written : Honestly disk (bytes_in (disk.seen (staging_to to a)) ≡ header_for to a ++ messages_bytes (copies_out a sent))
  pub bytes : Honestly disk (AreBytes (bytes_in (disk.seen (staging_to to a))))

-- All packets of these messages grow so.
abbrev pub AreGrowing : Sending → List Sent → DiskState → Type 0
AreGrowing to sent disk = All (IsGrowingTo to sent disk) (links_to to (is_made sent))

-- The packets with copies of the later messages, and those that begin with them. The staging files of the earlier ones grow.
pub record IsAppending (to : Sending) (sent more : List Sent) (disk : DiskState) (copied begun : List Outgoing) : Type 0 where
  pub routes : AreRoutes to
  pub copied_for : AreFor to (is_made more) copied
  pub begun_for : AreFor to (is_begun sent more) begun
  pub grows : AreGrowing to sent disk

-- Nothing has the path of any packet of these messages.
abbrev pub AreFreeTo : Sending → List Sent → Files → Type 0
AreFreeTo to sent seen = All (λ a. seen (path_to to a) ≡ None) (links_to to (is_made sent))

-- They do not fit, or something has the path of one.
abbrev pub AreTakenTo : (List ℕ → Type 0) → Sending → List Sent → Files → Type 0
AreTakenTo Own to sent seen = (AreFreeTo to sent seen → ⊥) ⊎ (FitTo Own to sent → ⊥)

-- These packets have the copies of these messages. They fit, and their staging files grow.
pub record IsMaking (Own : List ℕ → Type 0) (to : Sending) (sent : List Sent) (disk : DiskState) (all : List LinkPacket) : Type 0 where
  pub counted : AreCounted to sent all
  pub fit : FitTo Own to sent
  pub grows : AreGrowing to sent disk

-- Staging files of packets of some messages may have changed, and nothing else has.
pub record HasStaged (Own : List ℕ → Type 0) (to : Sending) (IsPart : List Sent → Type 0) (old new : StoreState) (all : List LinkPacket) : Type 0 where
  pub sent : List Sent
  pub part : IsPart sent
  pub counted : AreCounted to sent all
  pub fit : FitTo Own to sent
  pub used : IsUsedAt (IsStagingTo to sent) old new

-- The first messages of these.
abbrev pub IsFront : List Sent → List Sent → Type 0
IsFront all sent = (rest : List Sent) × (sent ++ rest ≡ all)

-- At least these first messages, and at most all.
pub record IsBetween (few all sent : List Sent) : Type 0 where
  pub part : IsFront sent few
  pub rest : IsFront all sent

-- The outgoing messages of a store from the number on.
abbrev pub all_sent : Sending → Base → List Sent
all_sent to base = sent_of to.source.links.now (drop to.source.from base.messages)

-- The first messages of the store.
abbrev pub IsPartOf : Sending → StoreState → StoreState → List Sent → Type 0
IsPartOf to old new sent = Honestly new.disk ((base : Base) → old.keeps base → IsFront (all_sent to base) sent)

-- The pass went over all messages of the store, and the packets grow by them.
pub record IsAllOf (to : Sending) (old new : StoreState) (sent : List Sent) : Type 0 where
  pub grows : AreGrowing to sent new.disk
  pub whole : Honestly new.disk ((base : Base) → old.keeps base → sent ≡ all_sent to base)

abbrev pub HasPassed : (List ℕ → Type 0) → Sending → StoreState → StoreState → List LinkPacket → Type 0
HasPassed Own to old new all = HasStaged Own to (IsAllOf to old new) old new all

-- A path of the packets of all messages is in use, or they do not fit.
abbrev pub IsTakenFor : (List ℕ → Type 0) → Sending → Base → Files → Type 0
IsTakenFor Own to base seen = AreTakenTo Own to (all_sent to base) seen

-- The staging files were removed.
abbrev pub AreDropped : PublishError → Type 0
AreDropped (Packets cause) = Unit {0}
AreDropped (Reading cause) = Unit {0}
AreDropped (Staging cause) = ⊥
AreDropped (OfBase cause) = Unit {0}

-- The file at each path is gone, or as before.
abbrev pub AreGoneOrSame : Files → Files → Type 0
AreGoneOrSame before after = (m : List ℕ) → (after m ≡ None) ⊎ (after m ≡ before m)

-- The pass stopped.
pub record StopsPassing (Own : List ℕ → Type 0) (to : Sending) (old new : StoreState) (why : PublishError) : Type 0 where
  pub all : List LinkPacket
  pub staged : HasStaged Own to (IsPartOf to old new) old new all
  pub gone : Honestly new.disk (AreDropped why → AreGoneOrSame old.disk.seen new.disk.seen)
