use Rattle.std.proofs.Common.{◌≡◌, get_or, inl, inr, sym, arith}
use Rattle.disk_atomic.specs.{Outgoing.IsAtStaging, Outgoing.IsStagingOne, Changes.ChangesOnly}
use Rattle.disk_atomic.proofs.{Changes.only_nothing, Changes.then_only, Changes.wider, Each.among, Whole.on_ok_any, dropping.drop_staging.Goals.After-drop_one}
use Rattle.disk_atomic.proofs.dropping.drop_staging.Given as given
use Rattle.disk_atomic.proofs.dropping.drop_staging.Goals as goal

pub drop_each-requires-clause-named : goal.drop_each-requires-clause-named
drop_each-requires-clause-named g c k z lt =
    let packets = c.args.packets.now in
    let p = get_or packets k z in
    c.drop_one.ensures.changes.named p.staging.now (λ e. c.requires.apart (p, among packets k z lt, inl (sym e))) (c.in_ok-sync_parent_folder.ensures.durable p.staging.now (c.requires.placed.each k z lt).staging_in)

tried : (g : given.Over) (c : After-drop_one g) → ChangesOnly (IsAtStaging c.args.packets.now c.args.trial.now) (g.D.Disk.state c.args.disk.now) (g.D.Disk.state c.drop_one.new.disk)
tried g c =
    let at = IsAtStaging c.args.packets.now c.args.trial.now in
    let d0 = g.D.Disk.state c.args.disk.now in
    let d1 = g.D.Disk.state c.sync_parent_folder.new.disk in
    let d2 = g.D.Disk.state c.drop_one.new.disk in
    then_only at d0 d1 d2 (only_nothing at d0 d1 c.sync_parent_folder.ensures.quiet) (wider (λ m. m ≡ c.args.trial.now) at d1 d2 (λ m is. inr is) c.drop_one.ensures.changes)

pub returns-in_err-drop_one-clause-changes : goal.returns-in_err-drop_one-clause-changes
returns-in_err-drop_one-clause-changes g c = tried g (goal.at.returns-in_err-drop_one-clause-changes g c).After-drop_one

pub returns-clause-changes : goal.returns-clause-changes
returns-clause-changes g c =
    let at = IsAtStaging c.args.packets.now c.args.trial.now in
    let d2 = g.D.Disk.state c.drop_one.new.disk in
    let d3 = g.D.Disk.state c.drop_each.new.disk in
    then_only at (g.D.Disk.state c.args.disk.now) d2 d3 (tried g (goal.at.returns-clause-changes g c).After-drop_one) (wider (IsStagingOne c.args.packets.now) at d2 d3 (λ m is. inl is) c.drop_each.ensures.changes)

pub returns-clause-trial_gone : goal.returns-clause-trial_gone
returns-clause-trial_gone g c honest = grind (arith, on_ok_any)
