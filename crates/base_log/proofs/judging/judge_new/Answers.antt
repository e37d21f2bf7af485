use Rattle.std.proofs.Common.{◌≢◌, length, ap, arith}
use Rattle.base_log.proofs.Opened.{new_represented, not_new}
use Rattle.base_log.proofs.judging.judge_new.Goals as goal

pub returns-then-size-gt1-clause-corrupt : goal.returns-then-size-gt1-clause-corrupt
returns-then-size-gt1-clause-corrupt g c honest is =
    let log = c.args.log.now in
    let seen = c.requires.log honest in
    let many : length log.bytes.items ≢ 0 = λ none. absurd (omega (arith, none, c.if-size-gt1.true, c.len-size.ensures, log.bytes.ok.0)) in
    not_new log.bytes.items log.end c.requires.read c.args.folder.now (g.D.Disk.state c.args.disk.now).seen seen many c.requires.ajar
    (λ new. absurd (omega (arith, new.log, ap length seen, c.if-size-gt1.true, c.len-size.ensures, log.bytes.ok.0)))

pub returns-then-branch-clause-represented : goal.returns-then-branch-clause-represented
returns-then-branch-clause-represented g c honest = grind (arith, new_represented)

pub returns-clause-corrupt : goal.returns-clause-corrupt
returns-clause-corrupt g c honest is =
    let log = c.args.log.now in
    let seen = c.requires.log (c.has_no_bytes.ensures.quiet.honest honest) in
    let some : length log.bytes.items ≢ 0 = λ none. absurd (omega (arith, none, c.if-size-eq0.false, c.len-size.ensures, log.bytes.ok.0)) in
    not_new log.bytes.items log.end c.requires.read c.args.folder.now (g.D.Disk.state c.args.disk.now).seen seen some c.requires.ajar
    (λ new. absurd (cc ((c.in_ok-has_no_bytes.ensures.none honest).1 new.empty, c.if-branch.false)))
