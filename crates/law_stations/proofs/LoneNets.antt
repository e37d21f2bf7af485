-- The commands of a net of one station are those of a station alone.
use Rattle.std.proofs.Common.{◌≡◌, ◌⊎◌, inl, inr, refl, sym, subst, ap, ◌∙◌, ℕ, zero, suc, ◌≤◌, append-nil, Bool, true, false, List, [], ◌∷◌, ◌++◌, drop, length, length-append, map, take, Option, Some, None, arith}
use Rattle.{std.proofs.lemmas.List.{drop-append-le, drop_all, take_all}, disk_io.specs.Disk.DiskState, model_graph.{specs.Walk.Among, proofs.Members.{Among-append_cases, Among-append_left, Among-append_right}}}
use Rattle.{base_file.specs.Base.Base, base_file.specs.declared.range.PurgeRange.PurgeRange, base_store.specs.Store.{all_scanned, purged}, cmd_store.specs.{Coming.{Coming, Fails, Holds, Unknown}, declared.drafting.NewMessage.NewMessage}}
use Rattle.{echo_steps.specs.PacketsIn.state_in, model_run.{specs.Run.{change, nth}, proofs.{Lists.{nth-among, nth-append}, Targets.{none_some, some_same}}}, model_steps.specs.{PacketFiles.PacketFile, SystemState.SystemState, declared.stamp.Stamp.Stamp}}
use Rattle.law_stations.specs.{AnyDisks.disks_at, Commands.{Command, CommandEvent, IsPacketAt, Post, Purge, Purges, Posts, Scan, Toss, Tosses, TossesAll, whole_of}}
use Rattle.law_stations.specs.{Disks.{Disks, naming}, LoneDisks.{LoneDisks, MayHappenAlone, MayHappenAllAlone, lone_disks_at_first}}
use Rattle.law_stations.specs.LoneNets.{AreAtFirst, IsDoneAlone, LoneSequencesAreInOrder, NetOfOneIsInOrder, disks_without, net_without}
use Rattle.law_stations.specs.LoneStations.{AreAnyFiles, LoneCommand, PostAlone, PurgeAlone, ScanAlone, TossAny, TossesAny, held_in, tossed_whole}
use Rattle.law_stations.specs.{Nets.{Net, Paired, Station, bytes_of, new_station, with_base, with_left}}
use Rattle.law_stations.specs.Stopping.{EndsOne, EndsSome, MayHappen, MayHappenAll, Moves, PartialEffect, ScansFar, Writes, staging_of}
use Rattle.law_stations.proofs.{Elsewhere.{elsewhere, scan-news}, FileRuns.{TossedFiles, tossed-all, wholes}, Grown.{Grows, grows-on, led-grows, one-grows, same-grows, some-grow}, OfToss.whole-first as indexes-first}
use Rattle.{station.specs.Place.Place, law_stations.specs.{Seats.{AreNeighbours, Seat}, Steps.{Crashes, Ends, GoesBy, GoesOn, Happening, IsCut, OthersChange, Step, after, commands_by, commands_of, with_command}}}
use Rattle.law_stations.proofs.{Others.all-from, OverCrashes.alone-in-order-over, Sequence.{always, sequences-are-among}, Tosses.whole-first as files-first, Tracking.paired-so}

-- ---- lists

one-left : (stations : List Station) (station : Station) → nth 0 stations ≡ Some station → nth 1 stations ≡ None → stations ≡ station ∷ []
one-left [] station there none = absurd (none_some there)
one-left (s ∷ []) station there none = ap (λ (x : Station). x ∷ []) (some_same there)
one-left (s ∷ (t ∷ stations)) station there none = absurd (none_some (sym none))

later-packet : (old new : List (List ℕ)) (k : ℕ) (file : Coming) → Grows old new → IsPacketAt old k file → IsPacketAt new k file
later-packet old new k (Holds bytes) (since, is) at = ap (nth k) is ∙ nth-append k bytes old since at
later-packet old new k (Fails path) grows at = tt
later-packet old new k Unknown grows at = absurd at

later-command : (old new : List (List ℕ)) (command : Command) (lone : LoneCommand) → Grows old new → IsDoneAlone old command lone → IsDoneAlone new command lone
later-command old new (Post words body) lone grows is = is
later-command old new (Scan stamp) lone grows is = is
later-command old new (Purge range) lone grows is = is
later-command old new (Toss indexes) lone grows (n, files, are, is) = (n, files, paired-so (IsPacketAt old) (IsPacketAt new) (take n indexes) files (λ k f among at. later-packet old new k f grows at) are, is)

any-files : (packets : List (List ℕ)) (indexes : List ℕ) (files : List Coming) → Paired (IsPacketAt packets) indexes files → AreAnyFiles files
any-files packets indexes [] are = tt
any-files packets [] (file ∷ files) are = absurd are
any-files packets (k ∷ indexes) (Holds bytes ∷ files) are = any-files packets indexes files are.1
any-files packets (k ∷ indexes) (Fails path ∷ files) are = any-files packets indexes files are.1
any-files packets (k ∷ indexes) (Unknown ∷ files) are = absurd are.0

held-among : (packets : List (List ℕ)) (indexes : List ℕ) (files : List Coming) (bytes : List ℕ) → Paired (IsPacketAt packets) indexes files → Among bytes (held_in files) → Among bytes packets
held-among packets indexes [] bytes are h = absurd h
held-among packets [] (file ∷ files) bytes are h = absurd are
held-among packets (k ∷ indexes) (Holds held ∷ files) bytes are (inl is) = subst (λ (b : List ℕ). Among b packets) (sym is) (nth-among k held packets are.0)
held-among packets (k ∷ indexes) (Holds held ∷ files) bytes are (inr later) = held-among packets indexes files bytes are.1 later
held-among packets (k ∷ indexes) (Fails path ∷ files) bytes are h = held-among packets indexes files bytes are.1 h
held-among packets (k ∷ indexes) (Unknown ∷ files) bytes are h = absurd are.0

-- the packet of an index that was tossed whole
abbrev HasAmong : List (List ℕ) → ℕ → List (List ℕ) → Type 0
HasAmong packets k whole = (bytes : List ℕ) × (nth k packets ≡ Some bytes) × Among bytes whole

whole-held : (n : ℕ) (packets : List (List ℕ)) (indexes : List ℕ) (files : List Coming) (old new : SystemState) → Paired (IsPacketAt packets) indexes files → TossedFiles n files old new
    → (k : ℕ) → Among k (take n indexes) → HasAmong packets k (held_in (take n files))
whole-held zero packets indexes files old new are tossed k h = absurd h
whole-held (suc n) packets indexes [] old new are tossed k h = absurd tossed
whole-held (suc n) packets [] (file ∷ files) old new are tossed k h = absurd are
whole-held (suc n) packets (j ∷ indexes) (Holds held ∷ files) old new are (mid, whole, more) k (inl is) = (held, ap (λ (i : ℕ). nth i packets) is ∙ are.0, inl refl)
whole-held (suc n) packets (j ∷ indexes) (Holds held ∷ files) old new are (mid, whole, more) k (inr later) =
    let (bytes, at, among) = whole-held n packets indexes files mid new are.1 more k later in
    (bytes, at, inr among)
whole-held (suc n) packets (j ∷ indexes) (Fails path ∷ files) old new are tossed k h = absurd tossed.1
whole-held (suc n) packets (j ∷ indexes) (Unknown ∷ files) old new are tossed k h = absurd are.0

-- ---- effects without the first packet files

abbrev bare : ℕ → Disks → Disks
bare n d = record { net = net_without n d.net; staging = d.staging }

bare-left : (n i : ℕ) (net : Net) (packets : List PacketFile) (base : Base) → n ≤ length net.packets → net_without n (with_left net i packets base) ≡ with_left (net_without n net) i packets base
bare-left n i net packets base le = λ j. record { stations = (with_left net i packets base).stations; packets = drop-append-le n net.packets (map bytes_of packets) le j; delivered = []; postings = net.postings }

bare-naming : (n : ℕ) (net : Net) (bytes : List ℕ) (named : Bool) → n ≤ length net.packets → net_without n (naming net bytes named) ≡ naming (net_without n net) bytes named
bare-naming n net bytes true le = refl
bare-naming n net bytes false le = λ j. record { stations = net.stations; packets = drop-append-le n net.packets (bytes ∷ []) le j; delivered = []; postings = net.postings }

grown : (n : ℕ) (old new : List (List ℕ)) → n ≤ length old → Grows old new → n ≤ length new
grown n old new le (since, is) = omega (arith, le, ap (λ (l : List (List ℕ)). length l) is, length-append old since)

bare-one : (n i : ℕ) (d new : Disks) → n ≤ length d.net.packets → EndsOne i d new → EndsOne i (bare n d) (bare n new)
bare-one n i d new le e = record {
  before = e.before;
  file = e.file;
  after = e.after;
  stood = e.stood;
  own = e.own;
  cursor = e.cursor;
  is_cursor = e.is_cursor;
  left = e.left;
  ends = elim e.ends [
    | inl named ↦ inl (named.0, ap (net_without n) named.1 ∙ bare-naming n d.net e.file.bytes e.file.named le, named.2)
    | inr gone ↦ inr (gone.0, ap (net_without n) gone.1, gone.2)
  ];
  staging = e.staging;
}

bare-some : (n m i : ℕ) (d new : Disks) → n ≤ length d.net.packets → EndsSome m i d new → EndsSome m i (bare n d) (bare n new)
bare-some n zero i d new le same = ap (bare n) same
bare-some n (suc m) i d new le (next, first, later) = (bare n next, bare-one n i d next le first, bare-some n m i next new (grown n d.net.packets next.net.packets le (one-grows i d next first)) later)

bare-writes : (n i : ℕ) (d new : Disks) → Writes i d new → Writes i (bare n d) (bare n new)
bare-writes n i d new w = record { none = w.none; cursor = w.cursor; is_cursor = w.is_cursor; files = w.files; are = w.are; becomes = ap (bare n) w.becomes }

bare-moves : (n : ℕ) (stamp : Stamp) (i : ℕ) (d new : Disks) → n ≤ length d.net.packets → Moves stamp i d new → Moves stamp i (bare n d) (bare n new)
bare-moves n stamp i d new le m =
    let base = all_scanned m.scans.station.base in
    let staging = d.staging ++ map (staging_of i m.cursor) m.scans.packets in
    record {
      none = m.none;
      cursor = m.cursor;
      is_cursor = m.is_cursor;
      scanned = with_left (net_without n d.net) i m.scans.packets base;
      scans = record { station = m.scans.station; file = m.scans.file; at = record { there = m.scans.at.there; links = m.scans.at.links }; packets = m.scans.packets; made = m.scans.made; becomes = refl };
      becomes = ap (bare n) m.becomes ∙ ap (λ (x : Net). record { net = x; staging = staging }) (bare-left n i d.net [] base le);
    }

bare-scan : (n : ℕ) (stamp : Stamp) (i : ℕ) (d new : Disks) → n ≤ length d.net.packets → ScansFar stamp i d new → ScansFar stamp i (bare n d) (bare n new)
bare-scan n stamp i d new le (m, ended, ends, rest) = (m, bare n ended, bare-some n m i d ended le ends, by rest)
  where
    more : n ≤ length ended.net.packets
    more = grown n d.net.packets ended.net.packets le (some-grow m i d ended ends)

    by : (new ≡ ended) ⊎ (Writes i ended new ⊎ ((k : ℕ) × (moved : Disks) × Moves stamp i ended moved × EndsSome k i moved new))
        → (bare n new ≡ bare n ended) ⊎ (Writes i (bare n ended) (bare n new) ⊎ ((k : ℕ) × (moved : Disks) × Moves stamp i (bare n ended) moved × EndsSome k i moved (bare n new)))
    by (inl same) = inl (ap (bare n) same)
    by (inr (inl writes)) = inr (inl (bare-writes n i ended new writes))
    by (inr (inr (k, moved, moves, names))) =
        let le_moved = grown n ended.net.packets moved.net.packets more ([], ap (λ (x : Disks). x.net.packets) moves.becomes) in
        inr (inr (k, bare n moved, bare-moves n stamp i ended moved more moves, bare-some n k i moved new le_moved names))

bare-post : (n : ℕ) (words : NewMessage) (body : List ℕ) (i : ℕ) (net new : Net) → Posts words body net i new → Posts words body (net_without n net) i (net_without n new)
bare-post n words body i net new p = record { station = p.station; file = p.file; at = record { there = p.at.there; links = p.at.links }; next = p.next; makes = p.makes; becomes = ap (net_without n) p.becomes }

bare-purge : (n : ℕ) (range : PurgeRange) (i : ℕ) (net new : Net) → n ≤ length net.packets → Purges range net i new → Purges range (net_without n net) i (net_without n new)
bare-purge n range i net new le p = record { station = p.station; there = p.there; becomes = ap (net_without n) p.becomes ∙ bare-left n i net [] (purged range p.station.base) le }

-- ---- one command

-- the state of the station alone after a command, and what came and was tossed whole by then
record DoneAlone (n : ℕ) (command : Command) (d next : Disks) (came whole : List (List ℕ)) : Type 0 where
  lone : LoneCommand
  is : IsDoneAlone next.net.packets command lone
  came_now : List (List ℕ)
  whole_now : List (List ℕ)
  happens : MayHappenAlone lone (disks_without n d came whole) (disks_without n next came_now whole_now)
  among : (bytes : List ℕ) → Among bytes came_now → Among bytes came ⊎ Among bytes next.net.packets
  stays : (bytes : List ℕ) → Among bytes whole → Among bytes whole_now
  tossed : (k : ℕ) → Among k next.net.delivered → Among k d.net.delivered ⊎ HasAmong next.net.packets k whole_now

-- the command has no input
quiet : (n : ℕ) (command : Command) (d next : Disks) (came whole : List (List ℕ)) (lone : LoneCommand) → IsDoneAlone next.net.packets command lone → MayHappenAlone lone (disks_without n d came whole) (disks_without n next came whole)
    → next.net.delivered ≡ d.net.delivered → DoneAlone n command d next came whole
quiet n command d next came whole lone is happens delivered = record {
  lone = lone;
  is = is;
  came_now = came;
  whole_now = whole;
  happens = happens;
  among = λ bytes h. inl h;
  stays = λ bytes h. h;
  tossed = λ k h. inl (subst (λ (l : List ℕ). Among k l) delivered h);
}

-- it had no effect
idle : (command : Command) → (packets : List (List ℕ)) → (lone : LoneCommand) × IsDoneAlone packets command lone
idle (Post words body) packets = (PostAlone words body, refl)
idle (Scan stamp) packets = (ScanAlone stamp, refl)
idle (Purge range) packets = (PurgeAlone range, refl)
idle (Toss indexes) packets = (TossAny [], (0, [], tt, refl))

module _ (n : ℕ) (indexes : List ℕ) (d next : Disks) (came whole : List (List ℕ)) (one : nth 1 d.net.stations ≡ None) (p : Tosses indexes d.net 0 next.net) (staging : next.staging ≡ d.staging) where
  abbrev t : TossesAll p.files p.file p.station.base p.next
  t = p.tosses

  abbrev came_next : List (List ℕ)
  came_next = came ++ held_in p.files

  abbrev whole_next : List (List ℕ)
  whole_next = whole ++ held_in (tossed_whole p.files t.stopped t.left)

  packets-stay : next.net.packets ≡ d.net.packets
  packets-stay = ap (λ (x : Net). x.packets) p.becomes

  becomes : net_without n next.net ≡ with_left (net_without n d.net) 0 [] p.next
  becomes = ap (net_without n) p.becomes
      ∙ ap (λ (l : List (List ℕ)). record { stations = change 0 (with_base p.next) d.net.stations; packets = l; delivered = []; postings = d.net.postings }) (sym (append-nil (drop n d.net.packets)))

  tosses-any : TossesAny p.files (record { net = net_without n d.net; came = came; whole = whole }) (record { net = net_without n next.net; came = came_next; whole = whole_next })
  tosses-any = record {
    any = any-files d.net.packets indexes p.files p.are;
    station = p.station;
    there = one-left d.net.stations p.station p.at.there one;
    file = p.file;
    links = p.at.links;
    next = p.next;
    tosses = t;
    becomes = ap (λ (x : Net). record { net = x; came = came_next; whole = whole_next }) becomes;
  }

  now-whole : (k : ℕ) → Among k (whole_of indexes t.stopped t.left) → HasAmong d.net.packets k (held_in (tossed_whole p.files t.stopped t.left))
  now-whole k h =
      let w = wholes (length p.files) t.stopped t.left in
      let first = subst (λ (l : List ℕ). Among k l) (sym (indexes-first d.net.packets indexes p.files t.stopped t.left p.are)) h in
      subst (λ (l : List Coming). HasAmong d.net.packets k (held_in l)) (files-first p.files t.stopped t.left)
      (whole-held w d.net.packets indexes p.files (state_in p.file p.station.base) (state_in p.file p.next) p.are (tossed-all p.files p.file p.station.base p.next t) k first)

  tossed-alone : (m : ℕ) (all : List ℕ) → take m all ≡ indexes → DoneAlone n (Toss all) d next came whole
  tossed-alone m all first = record {
    lone = TossAny p.files;
    is = (m, p.files, subst (λ (l : List ℕ). Paired (IsPacketAt next.net.packets) l p.files) (sym first) (subst (λ (l : List (List ℕ)). Paired (IsPacketAt l) indexes p.files) (sym packets-stay) p.are), refl);
    came_now = came_next;
    whole_now = whole_next;
    happens = inr (
      length p.files,
      subst (λ (l : List Coming). TossesAny l (record { net = net_without n d.net; came = came; whole = whole }) (record { net = net_without n next.net; came = came_next; whole = whole_next }))
          (sym (take_all (length p.files) p.files (omega arith))) tosses-any,
      staging,
    );
    among = λ bytes h. elim (Among-append_cases bytes came (held_in p.files) h) [
      | inl old ↦ inl old
      | inr now ↦ inr (subst (λ (l : List (List ℕ)). Among bytes l) (sym packets-stay) (held-among d.net.packets indexes p.files bytes p.are now))
    ];
    stays = λ bytes h. Among-append_left bytes whole (held_in (tossed_whole p.files t.stopped t.left)) h;
    tossed = λ k h. elim (all-from (whole_of indexes t.stopped t.left) k d.net.delivered (subst (λ (x : Net). Among k x.delivered) p.becomes h)) [
      | inl now ↦ (let (bytes, at, among) = now-whole k now in
          inr (bytes, ap (nth k) packets-stay ∙ at, Among-append_right bytes whole (held_in (tossed_whole p.files t.stopped t.left)) among))
      | inr old ↦ inl old
    ];
  }

led-alone : (n : ℕ) (command : Command) (d next : Disks) (came whole : List (List ℕ)) → n ≤ length d.net.packets → nth 1 d.net.stations ≡ None → PartialEffect command d 0 next → DoneAlone n command d next came whole
led-alone n (Post words body) d next came whole le one (posts, staging) =
    quiet n (Post words body) d next came whole (PostAlone words body) refl (inr ((bare-post n words body 0 d.net next.net posts, staging), (refl, refl))) (ap (λ (x : Net). x.delivered) posts.becomes)
led-alone n (Scan stamp) d next came whole le one scan =
    quiet n (Scan stamp) d next came whole (ScanAlone stamp) refl (inr (bare-scan n stamp 0 d next le scan, (refl, refl))) (scan-news stamp 0 d next scan).0
led-alone n (Purge range) d next came whole le one (purges, staging) =
    quiet n (Purge range) d next came whole (PurgeAlone range) refl (inr ((bare-purge n range 0 d.net next.net le purges, staging), (refl, refl))) (ap (λ (x : Net). x.delivered) purges.becomes)
led-alone n (Toss indexes) d next came whole le one (m, tosses, staging) = tossed-alone n (take m indexes) d next came whole one tosses staging m indexes refl

done-alone : (n : ℕ) (event : CommandEvent) (d next : Disks) (came whole : List (List ℕ)) → event.station ≡ 0 → n ≤ length d.net.packets → nth 1 d.net.stations ≡ None → MayHappen event d next → DoneAlone n event.command d next came whole
done-alone n event d next came whole at le one (inl same) =
    let (lone, is) = idle event.command next.net.packets in
    quiet n event.command d next came whole lone is (inl (ap (λ (x : Disks). disks_without n x came whole) same)) (ap (λ (x : Disks). x.net.delivered) same)
done-alone n event d next came whole at le one (inr leads) = led-alone n event.command d next came whole le one (subst (λ (i : ℕ). PartialEffect event.command d i next) at leads)

happen-grows : (event : CommandEvent) (d next : Disks) → MayHappen event d next → Grows d.net.packets next.net.packets
happen-grows event d next (inl same) = same-grows d.net.packets next.net.packets (ap (λ (x : Disks). x.net.packets) same)
happen-grows event d next (inr leads) = led-grows event.command event.station d next leads

-- ---- all commands

record AllAlone (foreign : List (List ℕ)) (commands : List CommandEvent) (d last : Disks) (came whole : List (List ℕ)) : Type 0 where
  alone : List LoneCommand
  are : Paired (λ (event : CommandEvent) (lone : LoneCommand). IsDoneAlone last.net.packets event.command lone) commands alone
  came_now : List (List ℕ)
  whole_now : List (List ℕ)
  happen : MayHappenAllAlone alone (disks_without (length foreign) d came whole) (disks_without (length foreign) last came_now whole_now)
  grows : Grows d.net.packets last.net.packets
  among : (bytes : List ℕ) → Among bytes came_now → Among bytes came ⊎ Among bytes last.net.packets
  stays : (bytes : List ℕ) → Among bytes whole → Among bytes whole_now
  tossed : (k : ℕ) → Among k last.net.delivered → Among k d.net.delivered ⊎ HasAmong last.net.packets k whole_now

grown-among : (bytes : List ℕ) (old new : List (List ℕ)) → Grows old new → Among bytes old → Among bytes new
grown-among bytes old new (since, is) h = subst (λ (l : List (List ℕ)). Among bytes l) (sym is) (Among-append_left bytes old since h)

grown-there : (k : ℕ) (bytes : List ℕ) (old new : List (List ℕ)) → Grows old new → nth k old ≡ Some bytes → nth k new ≡ Some bytes
grown-there k bytes old new (since, is) at = ap (nth k) is ∙ nth-append k bytes old since at

all-alone : (foreign : List (List ℕ)) (commands : List CommandEvent) (d last : Disks) (came whole : List (List ℕ)) → AreAtFirst commands → length foreign ≤ length d.net.packets → nth 1 d.net.stations ≡ None → MayHappenAll commands d last
    → AllAlone foreign commands d last came whole
all-alone foreign [] d last came whole at le one same = record {
  alone = [];
  are = tt;
  came_now = came;
  whole_now = whole;
  happen = ap (λ (x : Disks). disks_without (length foreign) x came whole) same;
  grows = same-grows d.net.packets last.net.packets (ap (λ (x : Disks). x.net.packets) same);
  among = λ bytes h. inl h;
  stays = λ bytes h. h;
  tossed = λ k h. inl (subst (λ (x : Disks). Among k x.net.delivered) same h);
}
all-alone foreign (event ∷ commands) d last came whole at le one (next, first, rest) =
    let n = length foreign in
    let is = done-alone n event d next came whole (at event (inl refl)) le one first in
    let grows = happen-grows event d next first in
    let one_next = elsewhere event 1 d next (λ e. absurd (omega (arith, e, at event (inl refl)))) first ∙ one in
    let more = all-alone foreign commands next last is.came_now is.whole_now (λ e h. at e (inr h)) (grown n d.net.packets next.net.packets le grows) one_next rest in
    record {
      alone = is.lone ∷ more.alone;
      are = (later-command next.net.packets last.net.packets event.command is.lone more.grows is.is, more.are);
      came_now = more.came_now;
      whole_now = more.whole_now;
      happen = (disks_without n next is.came_now is.whole_now, is.happens, more.happen);
      grows = grows-on d.net.packets next.net.packets last.net.packets grows more.grows;
      among = λ bytes h. elim (more.among bytes h) [
        | inl then ↦ elim (is.among bytes then) [ inl old ↦ inl old | inr now ↦ inr (grown-among bytes next.net.packets last.net.packets more.grows now) ]
        | inr now ↦ inr now
      ];
      stays = λ bytes h. more.stays bytes (is.stays bytes h);
      tossed = λ k h. elim (more.tossed k h) [
        | inl then ↦ elim (is.tossed k then) [
          | inl old ↦ inl old
          | inr now ↦ (let (bytes, there, among) = now in inr (bytes, grown-there k bytes next.net.packets last.net.packets more.grows there, more.stays bytes among))
        ]
        | inr now ↦ inr now
      ];
    }

pub net-of-one : NetOfOneIsInOrder
net-of-one links file of_links foreign commands at d happen =
    let first = disks_at (new_station links ∷ []) foreign [] in
    let all = all-alone foreign commands first d [] [] at (omega arith) refl happen in
    let begins : disks_without (length foreign) first [] [] ≡ lone_disks_at_first links = λ j. record { disks = record { net = record { stations = new_station links ∷ []; packets = drop_all (length foreign) foreign (omega arith) j; delivered = []; postings = [] }; staging = [] }; came = []; whole = [] } in
    let alone = subst (λ (x : LoneDisks). MayHappenAllAlone all.alone x (disks_without (length foreign) d all.came_now all.whole_now)) begins all.happen in
    record {
      own = all.grows;
      alone = all.alone;
      are = all.are;
      came = all.came_now;
      among = λ bytes h. elim (all.among bytes h) [ inl none ↦ absurd none | inr there ↦ there ];
      whole = all.whole_now;
      tossed = λ k h. elim (all.tossed k h) [ inl none ↦ absurd none | inr there ↦ there ];
      happen = alone;
      order = alone-in-order-over links file of_links all.alone (disks_without (length foreign) d all.came_now all.whole_now) alone;
    }

-- ---- on disks

with-first : (i : ℕ) (command : Option Command) (later : List CommandEvent) → i ≡ 0 → AreAtFirst later → AreAtFirst (with_command i command later)
with-first i None later is at = at
with-first i (Some command) later is at = λ event h. elim h [ inl e ↦ ap (λ (x : CommandEvent). x.station) e ∙ is | inr more ↦ at event more ]

module _ {D Kept : Type 0} (state : D → DiskState) (place : Kept → Place) (seat : Seat Kept) where
  no-second : (i : ℕ) (a : Seat Kept) → nth i (seat ∷ []) ≡ Some a → i ≡ 0
  no-second zero a there = refl
  no-second (suc i) a there = absurd (none_some there)

  near : AreNeighbours place (seat ∷ [])
  near = record {
    apart = λ i j a b there too differs same. absurd (differs (no-second i a there ∙ sym (no-second j b too)));
    settled = λ i a there shared. absurd (shared.differs (no-second i a there ∙ sym (no-second shared.j shared.other shared.there)));
  }

  -- each command is one of the station
  by-first : (number : ℕ) (what : Happening D) (d next : Disks) (old then : DiskState) (later : List CommandEvent) → GoesBy state place (seat ∷ []) number what d next old then → AreAtFirst later → AreAtFirst (commands_by what later)
  by-first number (Ends i command) d next old then later (a, on, ended) at = with-first i command later (no-second i a on.there) at
  by-first number (IsCut i command whole) d next old then later (a, on, cut) at = with-first i command later (no-second i a on.there) at
  by-first number Crashes d next old then later goes at = at
  by-first number OthersChange d next old then later goes at = at

  at-first : (steps : List (Step D)) (disks : List D) (d last : Disks) → GoesOn state place (seat ∷ []) steps disks d last → AreAtFirst (commands_of steps)
  at-first [] disks d last same = λ event h. absurd h
  at-first (step ∷ steps) disks d last (next, goes, rest) = by-first step.disk step.what d next (state goes.old) (state step.then) (commands_of steps) goes.by (at-first steps (after step disks) next last rest)

pub lone-sequences : {D Kept : Type 0} (state : D → DiskState) (place : Kept → Place) → LoneSequencesAreInOrder state place
lone-sequences state place links file of_links foreign seat steps disks last seated goes =
    let first = disks_at (new_station links ∷ []) foreign [] in
    let (happen, then) = sequences-are-among state place (seat ∷ []) (near state place seat) steps disks first last seated goes in
    record {
      order = net-of-one links file of_links foreign (commands_of steps) (at-first state place seat steps disks first last goes) last happen;
      seated = then;
      sent = always state place (seat ∷ []) (near state place seat) steps disks first last seated goes;
    }
