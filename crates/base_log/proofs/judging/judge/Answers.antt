use Rattle.std.proofs.Common.{◌≡◌, ℕ, List, false, sym, subst, arith, rules}
use Rattle.base_log.specs.Opening.{HasFiles}
use Rattle.base_log.proofs.Opened.{first_represented, no_digit, no_files}
use Rattle.base_log.proofs.judging.judge.Goals as goal

pub returns-then-recorded-ge-NUMBERS-clause-corrupt : goal.returns-then-recorded-ge-NUMBERS-clause-corrupt
returns-then-recorded-ge-NUMBERS-clause-corrupt g c honest is =
    let log = c.args.log.now in
    no_digit log.bytes.items log.end c.requires.read c.args.folder.now (g.D.Disk.state c.args.disk.now).seen (c.requires.log honest) (omega (arith, c.if-recorded-ge-NUMBERS.true))

pub returns-then-log-eq0-clause-represented : goal.returns-then-log-eq0-clause-represented
returns-then-log-eq0-clause-represented g c honest = grind (arith, first_represented)

pub returns-then-not-branch-clause-corrupt : goal.returns-then-not-branch-clause-corrupt
returns-then-not-branch-clause-corrupt g c honest is =
    let log = c.args.log.now in
    let files = (g.D.Disk.state c.args.disk.now).seen in
    let no : c.in_ok-has_files.field-0 ≡ false = search rules in
    no_files log.bytes.items log.end c.requires.read c.args.folder.now files (c.requires.log (c.has_files.ensures.quiet.honest honest)) (λ none. c.if-log-eq0.false none)
    (λ has. absurd (cc ((c.in_ok-has_files.ensures.has honest).1 (subst (λ (p : List ℕ). HasFiles p files log.end.recorded) (sym c.in_ok-names.ensures.folder) has), no)))
