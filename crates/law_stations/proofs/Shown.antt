-- The contents of nets without crashes are those of the disks over crashes.
use Rattle.std.{proofs.Common.{◌≡◌, inl, inr, refl, sym, subst, ap, ◌∙◌, ℕ, ◌+◌, ◌≤◌, arith, List, [], ◌∷◌, map, Some}, specs.Prelude.if◌then◌else◌}
use Rattle.{echo_addr.specs.declared.address.Address.Address, model_graph.specs.Walk.{Among, Different}, echo_links.specs.Links.{LinkFile, same_address}}
use Rattle.{base_file.specs.declared.range.PurgeRange.PurgeRange, echo_filed.specs.{declared.key.Key.Key, Filed.Filed}, model_steps.specs.declared.packet.Packet.Packet}
use Rattle.model_run.{specs.{Orderly.{copies, count, sent_count}, Run.{destination, nth}}, proofs.{Lists.nth-among, HarmLists.{among-nth, nth-map}}}
use Rattle.law_stations.specs.{Commands.{Command, CommandEvent, Purge}, OverCrashes.{HasNet, IsLike, IsLikeEvent, SoundOverCrashes}}
use Rattle.law_stations.{specs.{Nets.{Net, Paired, Station, first_net}, Disks.{Disks, first_disks}}, proofs.EachCommand.{crashes-from, first-tracks}}
use Rattle.law_stations.{specs.InOrder.{IsSound, IsUnchanged, ReadsAs, StationHolds, WasPurged}, proofs.Headline.reads-once}
use Rattle.law_stations.proofs.{Pairs.{paired-among, paired-back, paired-nth}, Sound.nets-are-sound, Counting.{IsItem, picked-total, total}}

pub like-purge : (range : PurgeRange) (command : Command) → IsLike command (Purge range) → command ≡ Purge range
like-purge range command like = grind arith

purged-too : (commands plain : List CommandEvent) (i : ℕ) → Paired IsLikeEvent commands plain → WasPurged plain i → WasPurged commands i
purged-too commands plain i like (range, h) =
    let purge : CommandEvent = record { station = i; command = Purge range } in
    let (k, at) = among-nth purge plain h in
    let (c, there, is) = paired-back IsLikeEvent k purge commands plain like at in
    let P : CommandEvent → Type 0 = λ x. Among x commands in
    (range, subst P (λ j. record { station = sym is.station j; command = like-purge range c.command is.command j }) (nth-among k c commands there))

pub unchanged-too : (commands plain : List CommandEvent) (i : ℕ) (messages : List Filed) (cursor : ℕ) (m posting : Filed) → Paired IsLikeEvent commands plain
    → IsUnchanged plain i messages cursor m posting → IsUnchanged commands i messages cursor m posting
unchanged-too commands plain i messages cursor m posting like (inl same) = inl same
unchanged-too commands plain i messages cursor m posting like (inr left) = inr (record {
  purged = purged-too commands plain i like left.purged;
  scanned_before = left.scanned_before;
  filed = left.filed;
  stub = left.stub;
  same = left.same;
})

-- the number of a packet's messages for an address
abbrev weight : Address → Key → Packet → ℕ
weight address key p = if same_address (destination p) address then count key (copies p) else 0

sent-total : (address : Address) (key : Key) (ps : List Packet) → sent_count address key ps ≡ total (map (weight address key) ps)
sent-total address key [] = refl
sent-total address key (p ∷ ps) = ap (λ (n : ℕ). weight address key p + n) (sent-total address key ps)

picked-weights : (w : Packet → ℕ) (files some : List (List ℕ)) (places : List ℕ) (ps qs : List Packet) → Paired (IsItem files) some places → Paired ReadsAs files ps
    → Paired ReadsAs some qs → Paired (IsItem (map w ps)) (map w qs) places
picked-weights w files [] [] ps [] picked read other = tt
picked-weights w files [] [] ps (q ∷ qs) picked read other = absurd other
picked-weights w files [] (k ∷ places) ps qs picked read other = absurd picked
picked-weights w files (bytes ∷ some) [] ps qs picked read other = absurd picked
picked-weights w files (bytes ∷ some) (k ∷ places) ps [] picked read other = absurd other
picked-weights w files (bytes ∷ some) (k ∷ places) ps (q ∷ qs) picked read other =
    let (p, there, is) = paired-nth ReadsAs k bytes files ps read picked.0 in
    let same = reads-once bytes q p other.0 is in
    (nth-map w k p ps there ∙ ap (λ (x : Packet). Some (w x)) same, picked-weights w files some places ps qs picked.1 read other.1)

-- packets at different indexes hold a message no more often than all packets
pub sent-less : (address : Address) (key : Key) (files some : List (List ℕ)) (places : List ℕ) (ps qs : List Packet) → Paired (IsItem files) some places → Different places
    → Paired ReadsAs files ps → Paired ReadsAs some qs → sent_count address key qs ≤ sent_count address key ps
sent-less address key files some places ps qs picked apart read other =
    let w = weight address key in
    let less = picked-total (map w ps) (map w qs) places (picked-weights w files some places ps qs picked read other) apart in
    omega (arith, less, sent-total address key ps, sent-total address key qs)

pub holds-too : (net other : Net) (i : ℕ) (file : LinkFile) (messages : List Filed) (cursor : ℕ) → net.stations ≡ other.stations → StationHolds net i file messages cursor
    → StationHolds other i file messages cursor
holds-too net other i file messages cursor same holds = record {
  station = holds.station;
  there = subst (λ (ss : List Station). nth i ss ≡ Some holds.station) same holds.there;
  says = holds.says;
}

module _ (commands plain : List CommandEvent) (d : Disks) (net : Net) (like : Paired IsLikeEvent commands plain) (has : HasNet d net) where
  held : (i : ℕ) (file : LinkFile) (messages : List Filed) (cursor : ℕ) → StationHolds d.net i file messages cursor → StationHolds net i file messages cursor
  held i file messages cursor = holds-too d.net net i file messages cursor has.stations

  pub sound-too : IsSound plain net → IsSound commands d.net
  sound-too sound = record {
    packets = λ bytes among.
        let (k, there, at) = paired-among (IsItem net.packets) bytes d.net.packets has.places has.named among in
        sound.packets bytes (nth-among k bytes net.packets at);
    bases = λ station among. let P : List Station → Type 0 = λ ss. Among station ss in sound.bases station (subst P has.stations among);
    filed_once = λ i file messages cursor holds key. sound.filed_once i file messages cursor (held i file messages cursor holds) key;
    only_posted = λ i file messages cursor holds m h.
        let (posting, there, tag, unchanged) = sound.only_posted i file messages cursor (held i file messages cursor holds) m h in
        let P : List Filed → Type 0 = λ ms. Among posting ms in
        (posting, subst P (sym has.postings) there, tag, unchanged-too commands plain i messages cursor m posting like unchanged);
  }

pub sound-over-crashes : SoundOverCrashes
sound-over-crashes links files are apart commands d happen =
    let (plain, net, like, plainly, has) = crashes-from commands (first_disks links) d (first_net links) (first-tracks links) happen in
    sound-too commands plain d net like has (nets-are-sound links files are apart plain net plainly)
