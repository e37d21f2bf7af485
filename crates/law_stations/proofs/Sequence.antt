-- One step after another.
use Rattle.{std.proofs.Common.{◌≡◌, ◌∙◌, inr, sym, subst, ap, ℕ, List, [], ◌∷◌, ◌++◌, Option, Some, None, Ok}, disk_io.specs.Disk.DiskState}
use Rattle.{echo_links.specs.LinkLines.LinksOf, model_graph.specs.Walk.Among, model_run.proofs.Targets.some_same, station.specs.Place.Place}
use Rattle.law_stations.specs.Steps.{Crashes, Ends, Goes, GoesBy, GoesOn, Happening, IsCut, MayLead, OthersChange, Step, after, after_all, commands_by, commands_of, with_command}
use Rattle.law_stations.specs.{AnyDisks.disks_at, Commands.{Command, CommandEvent}, Disks.Disks, Stopping.MayHappenAll, Seats.{AreNeighbours, AreSeated, Seat}}
use Rattle.law_stations.specs.Sequences.{AlwaysHaveItsPackets, HaveItsPackets, HeadlineFromAnySequences, SequencesAreAmong}
use Rattle.law_stations.proofs.{AnyDisks.headline-from-any-disks, Folders.lead-keeps, Seated.{changed, crashed, cut, ended}}

module _ {D Kept : Type 0} (state : D → DiskState) (place : Kept → Place) (seats : List (Seat Kept)) (near : AreNeighbours place seats) where
  stepped : (step : Step D) (disks : List D) (d next : Disks) → AreSeated state place seats disks d → Goes state place seats step disks d next
      → AreSeated state place seats (after step disks) next
  stepped step disks d next seated goes = by step.what goes.by
    where
      by : (what : Happening D) → GoesBy state place seats step.disk what d next (state goes.old) (state step.then) → AreSeated state place seats (after step disks) next
      by (Ends i command) (seat, on, h) = ended state place seats near step.disk goes.old step.then disks d next goes.there seated i command seat on h
      by (IsCut i command whole) (seat, on, w) = cut state place seats near step.disk goes.old step.then disks d next goes.there seated i command whole seat on w
      by Crashes (same, h) = crashed state place seats near step.disk goes.old step.then disks d next goes.there seated same h
      by OthersChange (same, h) = changed state place seats near step.disk goes.old step.then disks d next goes.there seated same h

  led : (i : ℕ) (command : Option Command) (later : List CommandEvent) (d next last : Disks) → MayLead command i d next → MayHappenAll later next last
      → MayHappenAll (with_command i command later) d last
  led i None later d next last same rest = subst (λ (x : Disks). MayHappenAll later x last) same rest
  led i (Some command) later d next last leads rest = (next, inr leads, rest)

  commanded : (number : ℕ) (what : Happening D) (old then : DiskState) (later : List CommandEvent) (d next last : Disks) → GoesBy state place seats number what d next old then
      → MayHappenAll later next last → MayHappenAll (commands_by what later) d last
  commanded number (Ends i command) old then later d next last (seat, on, h) rest = led i command later d next last h.may rest
  commanded number (IsCut i command whole) old then later d next last (seat, on, w) rest = led i command later d next last w.may rest
  commanded number Crashes old then later d next last (same, h) rest = led 0 None later d next last same rest
  commanded number OthersChange old then later d next last (same, h) rest = led 0 None later d next last same rest

  gone : (steps : List (Step D)) (disks : List D) (d last : Disks) → AreSeated state place seats disks d → GoesOn state place seats steps disks d last
      → MayHappenAll (commands_of steps) d last × AreSeated state place seats (after_all steps disks) last
  gone [] disks d last seated same = (same, subst (AreSeated state place seats disks) (sym same) seated)
  gone (step ∷ steps) disks d last seated (next, goes, rest) =
      let (happen, then) = gone steps (after step disks) next last (stepped step disks d next seated goes) rest in
      (commanded step.disk step.what (state goes.old) (state step.then) (commands_of steps) d next last goes.by happen, then)

module _ {D Kept : Type 0} (state : D → DiskState) (place : Kept → Place) (seats : List (Seat Kept)) (near : AreNeighbours place seats) where
  by-keeps : (number : ℕ) (what : Happening D) (old then : DiskState) (d next : Disks) (bytes : List ℕ) → GoesBy state place seats number what d next old then → Among bytes d.net.packets → Among bytes next.net.packets
  by-keeps number (Ends i command) old then d next bytes (seat, on, h) is = lead-keeps command i d next bytes h.may is
  by-keeps number (IsCut i command whole) old then d next bytes (seat, on, w) is = lead-keeps command i d next bytes w.may is
  by-keeps number Crashes old then d next bytes (same, h) is = lead-keeps None 0 d next bytes same is
  by-keeps number OthersChange old then d next bytes (same, h) is = lead-keeps None 0 d next bytes same is

  all-keep : (steps : List (Step D)) (disks : List D) (d last : Disks) (bytes : List ℕ) → GoesOn state place seats steps disks d last → Among bytes d.net.packets → Among bytes last.net.packets
  all-keep [] disks d last bytes same is = lead-keeps None 0 d last bytes same is
  all-keep (step ∷ steps) disks d last bytes (next, goes, rest) is =
      all-keep steps (after step disks) next last bytes rest (by-keeps step.disk step.what (state goes.old) (state step.then) d next bytes goes.by is)

  have : (disks : List D) (d last : Disks) → AreSeated state place seats disks d → ((bytes : List ℕ) → Among bytes d.net.packets → Among bytes last.net.packets) → HaveItsPackets state place seats last.net disks
  have disks d last seated keep i seat disk file there on links name bytes is at =
      let s = seated i seat there in
      let one : s.disk ≡ disk = some_same (sym s.there ∙ on) in
      let shown = s.represented in
      let says = subst (λ (l : List ℕ). LinksOf l (Ok file)) (some_same (sym links.seen ∙ ap (λ (x : D). (state x).seen seat.links) (sym one) ∙ shown.at.shows.of_links)) links.judged in
      keep bytes ((shown.folder.files file says).packets name bytes is (ap (λ (x : D). (state x).seen (seat.outbound ++ name)) one ∙ at))

  pub always : (steps : List (Step D)) (disks : List D) (d last : Disks) → AreSeated state place seats disks d → GoesOn state place seats steps disks d last → AlwaysHaveItsPackets state place seats last.net steps disks
  always [] disks d last seated same = have disks d last seated (λ bytes is. all-keep [] disks d last bytes same is)
  always (step ∷ steps) disks d last seated (next, goes, rest) = (
    have disks d last seated (λ bytes is. all-keep (step ∷ steps) disks d last bytes (next, goes, rest) is),
    always steps (after step disks) next last (stepped state place seats near step disks d next seated goes) rest,
  )

pub sequences-are-among : {D Kept : Type 0} (state : D → DiskState) (place : Kept → Place) → SequencesAreAmong state place
sequences-are-among state place seats near steps disks d last seated goes = gone state place seats near steps disks d last seated goes

pub headline-from-any-sequences : {D Kept : Type 0} (state : D → DiskState) (place : Kept → Place) → HeadlineFromAnySequences state place
headline-from-any-sequences state place nodelist more tag stations packets staging stopped old new good some key area is_new seats near steps disks last seated goes =
    let (happen, then) = sequences-are-among state place seats near steps disks (disks_at stations packets staging) last seated goes in
    record { order = headline-from-any-disks nodelist more tag stations packets staging stopped old new good some key area is_new (commands_of steps) last happen; seated = then; sent = always state place seats near steps disks (disks_at stations packets staging) last seated goes }
