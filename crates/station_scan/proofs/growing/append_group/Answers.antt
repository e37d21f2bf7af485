use Rattle.{std.proofs.Common.inl, disk_atomic.{specs.Outgoing.{IsAtStaging, IsStagingOne}, proofs.Changes.{then_only, wider}}}
use Rattle.station_scan.proofs.Grown.{all_appended, copied_grow, first_staging, open_growing}
use Rattle.station_scan.proofs.growing.append_group.Goals as goal

pub append_open-requires-clause-opened : goal.append_open-requires-clause-opened
append_open-requires-clause-opened g c =
    let to = c.args.sending in
    let copied = c.args.copied.now in
    let begun = c.args.begun.now in
    let more = c.args.group.now.sent in
    let d0 = g.D.Disk.state c.args.disk.now in
    let d1 = g.D.Disk.state c.begin_first.new.disk in
    let did = c.in_ok-begin_first.ensures in
    let (sent, appending) = c.requires.appending in
    let run = wider (IsStagingOne begun) (IsAtStaging begun to.trial.now) d0 d1 (λ m is. inl is) c.begin_first.ensures.changes in
    open_growing to sent _ copied appending.copied_for d1 c.requires.some (copied_grow to sent more d0 copied begun appending d1 run did.named did.opened did.headed)

pub returns-in_err-begin_first-clause-changes : goal.returns-in_err-begin_first-clause-changes
returns-in_err-begin_first-clause-changes g c =
    let to = c.args.sending in
    let copied = c.args.copied.now in
    let begun = c.args.begun.now in
    let d0 = g.D.Disk.state c.args.disk.now in
    let (sent, appending) = c.requires.appending in
    wider (IsStagingOne begun) (IsAtStaging copied to.trial.now) d0 (g.D.Disk.state c.begin_first.new.disk) (λ m is. first_staging to sent c.args.group.now.sent d0 copied begun appending m (inl is)) c.begin_first.ensures.changes

pub returns-in_err-append_open-clause-changes : goal.returns-in_err-append_open-clause-changes
returns-in_err-append_open-clause-changes g c =
    let to = c.args.sending in
    let copied = c.args.copied.now in
    let begun = c.args.begun.now in
    let at = IsAtStaging copied to.trial.now in
    let d0 = g.D.Disk.state c.args.disk.now in
    let d1 = g.D.Disk.state c.begin_first.new.disk in
    let d2 = g.D.Disk.state c.append_open.new.disk in
    let (sent, appending) = c.requires.appending in
    then_only at d0 d1 d2 (wider (IsStagingOne begun) at d0 d1 (λ m is. first_staging to sent c.args.group.now.sent d0 copied begun appending m (inl is)) c.begin_first.ensures.changes)
    (wider (IsStagingOne copied) at d1 d2 (λ m is. inl is) c.append_open.ensures.changes)

pub returns-clause-changes : goal.returns-clause-changes
returns-clause-changes g c =
    let to = c.args.sending in
    let copied = c.args.copied.now in
    let begun = c.args.begun.now in
    let at = IsAtStaging copied to.trial.now in
    let d0 = g.D.Disk.state c.args.disk.now in
    let d1 = g.D.Disk.state c.begin_first.new.disk in
    let d2 = g.D.Disk.state c.append_open.new.disk in
    let (sent, appending) = c.requires.appending in
    then_only at d0 d1 d2 (wider (IsStagingOne begun) at d0 d1 (λ m is. first_staging to sent c.args.group.now.sent d0 copied begun appending m (inl is)) c.begin_first.ensures.changes)
    (wider (IsStagingOne copied) at d1 d2 (λ m is. inl is) c.append_open.ensures.changes)

pub returns-clause-grows : goal.returns-clause-grows
returns-clause-grows g c = λ sent appending.
    let to = c.args.sending in
    let copied = c.args.copied.now in
    let begun = c.args.begun.now in
    let more = c.args.group.now.sent in
    let d0 = g.D.Disk.state c.args.disk.now in
    let d1 = g.D.Disk.state c.begin_first.new.disk in
    let d2 = g.D.Disk.state c.append_open.new.disk in
    let did = c.in_ok-begin_first.ensures in
    let run = wider (IsStagingOne begun) (IsAtStaging begun to.trial.now) d0 d1 (λ m is. inl is) c.begin_first.ensures.changes in
    let run2 = wider (IsStagingOne copied) (IsAtStaging copied to.trial.now) d1 d2 (λ m is. inl is) c.append_open.ensures.changes in
    let grows = copied_grow to sent more d0 copied begun appending d1 run did.named did.opened did.headed in
    all_appended to sent more d0 copied begun appending d1 run did.named d2 run2 grows c.in_ok-append_open.ensures.opened c.in_ok-append_open.ensures.longer
