use Rattle.{std.{proofs.Common.{List, ℕ, Option, sym, subst}, specs.Prelude.IfSome}, disk_io.specs.Disk.bytes_in, base_file.specs.Base.Base}
use Rattle.{cmd_status.specs.Inputs.IsBaseGiven, station_bases.specs.{Entries.HoldEntries, InFile.RepresentsInFile, declared.entries.Entries.Entries}}
use Rattle.station_bases.proofs.Reach.{same_file}
use Rattle.station_bases.proofs.loading.open_apart.Goals as goal

pub returns-in-Some-clause-held : goal.returns-in-Some-clause-held
returns-in-Some-clause-held g c honest =
    let d1 = g.D.Disk.state c.settle.new.disk in
    let d2 = g.D.Disk.state c.open_entries.new.disk in
    let path = c.args.path.now in
    let file = bytes_in (d1.seen path) in
    let found = subst (λ (o : Option Entries). IfSome o (λ (e : Entries). (base : Base) × RepresentsInFile path base d1.seen × HoldEntries file e base)) c.in-Some.is (c.in_ok-entries.ensures.held honest) in
    record {
      base = found.0;
      represented = subst (λ (f : Option (List ℕ)). IsBaseGiven f found.0.messages found.0.cursor) (c.settle.ensures.quiet.seen path) found.1;
      is = subst (λ (l : List ℕ). HoldEntries l c.in-Some.entries found.0) (sym (same_file d1 d2 path c.open_entries.ensures.quiet)) found.2;
    }
