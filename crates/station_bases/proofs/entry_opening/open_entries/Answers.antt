use Rattle.std.{proofs.Common.{◌≡◌, ◌≤◌, ℕ, List, true, length, drop, Option, sym, subst, ◌∙◌, arith}, specs.Prelude.IsSome}
use Rattle.{base_file.specs.Pieces.BeginsWith, disk_io.specs.Disk.bytes_in, station_bases.specs.EntryOpening.{AreJudged, IsPartOf}}
use Rattle.station_bases.proofs.{EntryJudged.{judged_holds, judged_none, piece_front}, Opened.given_by, Reach.same_file}
use Rattle.station_bases.proofs.entry_opening.open_entries.Goals as goal

pub take_all-requires-clause-so_far : goal.take_all-requires-clause-so_far
take_all-requires-clause-so_far g c =
    let d1 = g.D.Disk.state c.len.new.self in
    let d2 = g.D.Disk.state c.fill.new.disk in
    let path = c.args.path.now in
    let file = bytes_in (d1.seen path) in
    let piece = c.fill.new.self in
    let head = c.in-Some.head in
    let same = sym (same_file d1 d2 path c.fill.ensures.quiet) in
    let first : piece.begins ≡ 0 = omega (arith, c.fill.ensures.begins) in
    let begins = subst (λ (l : List ℕ). BeginsWith head l) c.deref.ensures.value c.in-Some.ensures.begins in
    record {
      second = c.in-Some.ensures.second;
      part = λ honest. subst (λ (l : List ℕ). IsPartOf l piece) same (c.fill.ensures.part honest);
      judged = λ honest.
          subst (λ (l : List ℕ). AreJudged l head c.new-entries.result) same
          (judged_none file piece.bytes.items (drop (length piece.bytes.items) file) head c.new-entries.result begins c.in-Some.ensures.second (piece_front file piece (c.fill.ensures.part honest) first)
          c.new-entries.ensures.end c.new-entries.ensures.keys c.new-entries.ensures.waiting);
    }

pub take_all-requires-clause-can : goal.take_all-requires-clause-can
take_all-requires-clause-can g c = record {
  indexed = c.new-entries.ensures.indexed;
  legible = λ honest.
      let d1 = g.D.Disk.state c.len.new.self in
      let d2 = g.D.Disk.state c.fill.new.disk in
      let path = c.args.path.now in
      let file = bytes_in (d1.seen path) in
      let piece = c.fill.new.self in
      let head = c.in-Some.head in
      let first : piece.begins ≡ 0 = omega (arith, c.fill.ensures.begins) in
      let begins = subst (λ (l : List ℕ). BeginsWith head l) c.deref.ensures.value c.in-Some.ensures.begins in
      let judged = judged_none file piece.bytes.items (drop (length piece.bytes.items) file) head c.new-entries.result begins c.in-Some.ensures.second (piece_front file piece (c.fill.ensures.part honest) first)
      c.new-entries.ensures.end c.new-entries.ensures.keys c.new-entries.ensures.waiting in
      let h1 = c.fill.ensures.quiet.honest honest in
      let h0 = c.len.ensures.quiet.honest h1 in
      record {
        there = subst (λ (f : Option (List ℕ)). IsSome f) (sym (c.fill.ensures.quiet.seen path ∙ c.len.ensures.quiet.seen path)) (c.requires.there h0);
        long = subst (λ (l : List ℕ). c.new-entries.result.end ≤ length l) (sym (same_file d1 d2 path c.fill.ensures.quiet)) judged.within;
      };
}

pub returns-clause-held : goal.returns-clause-held
returns-clause-held g c honest =
    let d0 = g.D.Disk.state c.args.disk.now in
    let d1 = g.D.Disk.state c.len.new.self in
    let d2 = g.D.Disk.state c.fill.new.disk in
    let path = c.args.path.now in
    let file = bytes_in (d0.seen path) in
    let head = c.in-Some.head in
    let f = c.take_all.new.self in
    let all : c.in_ok-take_all.field-0 ≡ true = c.if-not-branch.false in
    let same : bytes_in (d2.seen path) ≡ file = same_file d1 d2 path c.fill.ensures.quiet ∙ same_file d0 d1 path c.len.ensures.quiet in
    let j = subst (λ (l : List ℕ). AreJudged l head f) same (c.in_ok-take_all.ensures.judged honest all) in
    let held = judged_holds file head f j c.take_all.ensures.keeps.indexed.fits (c.in_ok-take_all.ensures.enough all) (c.take_all.ensures.keeps.cursor ∙ c.new-entries.ensures.cursor) in
    (held.0, given_by (d0.seen path) held.0.messages held.0.cursor (c.requires.there (c.len.ensures.quiet.honest (c.fill.ensures.quiet.honest (c.take_all.ensures.quiet.honest honest)))) held.1, held.2)
