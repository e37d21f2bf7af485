use Rattle.{std.proofs.Common.{subst, sym}, disk_io.specs.Runs.LeavesOnly, base_folder_store.specs.Held.RepresentsBaseOrWasLeft}
use Rattle.station_bases.proofs.beginning.open_store.Goals as goal

pub returns-in-Ok-clause-begun : goal.returns-in-Ok-clause-begun
returns-in-Ok-clause-begun g c honest =
    let keyed = g.H.Digest.keyed in
    let path = c.args.at.path.now in
    let d0 = g.D.Disk.state c.args.disk in
    let same = c.new.ensures.disk in
    let h = subst (λ d. (g.D.Disk.state d).is_honest) same honest in
    record {
      of_links = c.in-Ok.ensures.opened.of_links h;
      ours = c.in-Ok.ensures.opened.other h;
      sound = c.in-Ok.ensures.opened.sound h;
      keeps = λ base represented. c.new.ensures.keeps base (c.in-Ok.ensures.opened.same h keyed base g.met.H.Digest.fits represented).held;
      committed = λ base represented. c.new.ensures.committed base (c.in-Ok.ensures.opened.same h keyed base g.met.H.Digest.fits represented).committed;
      run = λ base represented. subst (λ d. LeavesOnly d0 (g.D.Disk.state d) (RepresentsBaseOrWasLeft keyed path d0 base)) (sym same) (c.open_station.ensures.run.any_moment h keyed base represented);
    }
