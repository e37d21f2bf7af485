use Rattle.{std.proofs.Common.subst, base_folder_store.proofs.Causes.on_ok_from, station_bases.{specs.InFile.IsWithinReach, proofs.FileLooks.undone_apart}}
use Rattle.station_bases.proofs.Reach.{fetch_more}
use Rattle.station_bases.proofs.file_store.FileStoreStore.file.Goals as goal

pub returns-in-Apart-clause-undone : goal.returns-in-Apart-clause-undone
returns-in-Apart-clause-undone g c =
    let s = c.args.self.now in
    undone_apart (g.D.Disk.state s.disk) s.path.now s.held c.in-Apart.entries c.file.new.self c.in-Apart.is c.file.result c.file.ensures.as_before

pub returns-in-Apart-clause-goes_on : goal.returns-in-Apart-clause-goes_on
returns-in-Apart-clause-goes_on g c =
    let s = c.args.self.now in
    let d = g.D.Disk.state s.disk in
    let was = subst (λ h. IsWithinReach d s.path.now h) c.in-Apart.is c.requires.ready.1 in
    on_ok_from c.file.result (record {
      ready = (c.requires.ready.0, fetch_more d s.path.now c.in-Apart.entries c.file.new.self c.file.ensures.same c.file.ensures.indexed was);
      committed = λ honest base is. is;
      honest = λ honest. honest;
    })
