use Rattle.{std.proofs.{Common.{arith, inr, subst, sym}, lemmas.Result.err_from_is_err_and}, echo_addr.specs.declared.address.Address.Address}
use Rattle.{base_folder.specs.{Ours.IsOfOther, Unopened.IsOpenedFor, Wrong.IsSound}, disk_io.specs.{Device.Failed, Disk.Files}}
use Rattle.{station.proofs.Failures.failed_wider, station_bases.proofs.FolderOpened.{not_opened, opens_since, quiet_represented}}
use Rattle.base_log.proofs.Quiet.{seen_quiet as seen_same}
use Rattle.station_bases.proofs.opening.open_station.Goals as goal

pub returns-in_err-folder-clause-run : goal.returns-in_err-folder-clause-run
returns-in_err-folder-clause-run g c =
    opens_since c.args.at.path.now (g.D.Disk.state c.args.disk.now) (g.D.Disk.state c.links_held.new.disk) (g.D.Disk.state c.folder_at.new.disk) c.links_held.ensures.quiet c.folder_at.ensures.run

pub returns-in_err-folder-clause-err : goal.returns-in_err-folder-clause-err
returns-in_err-folder-clause-err g c honest =
    let d0 = g.D.Disk.state c.args.disk.now in
    let d1 = g.D.Disk.state c.links_held.new.disk in
    let d2 = g.D.Disk.state c.folder_at.new.disk in
    let f0 = g.D.Disk.failures c.args.disk.now in
    let f1 = g.D.Disk.failures c.links_held.new.disk in
    let f2 = g.D.Disk.failures c.folder_at.new.disk in
    let h1 = c.folder_at.ensures.run.outside.honest honest in
    let own = c.in_ok-links.links.system in
    let p = err_from_is_err_and c.from_residual-in_err-folder.result c.from_residual-in_err-folder.ensures.1 in
    rw (p.1, p.2)
    (inr (record {
      file = c.in_ok-links.links;
      of_links = c.in_ok-links.ensures.read h1;
      folder = not_opened own c.system.result c.args.found.strange c.args.at.base.now c.args.at.path.now (Failed f1 f2) (Failed f0 f2) d0 d1 d2 c.in_err-folder.field-0.0 c.system.ensures.own
          (failed_wider f0 f1 f2 f2 c.links_held.ensures.later (omega arith)) c.links_held.ensures.quiet (c.in_err-folder.ensures.err honest);
    }))

pub returns-clause-run : goal.returns-clause-run
returns-clause-run g c =
    opens_since c.args.at.path.now (g.D.Disk.state c.args.disk.now) (g.D.Disk.state c.links_held.new.disk) (g.D.Disk.state c.folder_at.new.disk) c.links_held.ensures.quiet c.folder_at.ensures.run

pub returns-clause-opened : goal.returns-clause-opened
returns-clause-opened g c =
    let d0 = g.D.Disk.state c.args.disk.now in
    let d1 = g.D.Disk.state c.links_held.new.disk in
    let d2 = g.D.Disk.state c.folder_at.new.disk in
    let strange = c.args.found.strange in
    let path = c.args.at.path.now in
    let own = c.in_ok-links.links.system in
    let quiet = c.links_held.ensures.quiet in
    let says = c.in_ok-folder.ensures in
    record {
      of_links = λ honest. c.in_ok-links.ensures.read (says.run.outside.honest honest);
      own = subst (λ (a : Address). IsOpenedFor path a c.args.found.key.0 c.args.found.key.1 d2 c.in_ok-folder.folder) c.system.ensures.own says.own;
      other = λ honest address of.
          let seen = subst (λ (files : Files). IsOfOther own strange path files address) (sym (seen_same d0 d1 quiet)) of in
          says.other honest address (subst (λ (a : Address). IsOfOther a strange path d1.seen address) (sym c.system.ensures.own) seen);
      sound = λ honest. subst (λ (files : Files). IsSound strange path files) (seen_same d0 d1 quiet) (says.sound honest).sound;
      same = λ honest keyed base fits represented. says.same honest keyed base fits (quiet_represented keyed path base d0 d1 quiet represented);
    }
