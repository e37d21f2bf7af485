use Rattle.{std.proofs.Common.{◌≡◌, ◌∙◌, ap, sym, subst, arith}, disk_io.specs.Disk.{Files, bytes_in}, base_log.specs.Names.log_of}
use Rattle.base_folder.{specs.OpenError.IsWrong, proofs.{Lookings.err_is, Openings.stood_before}}
use Rattle.base_folder.proofs.judging.judged.Goals as goal

pub judge_by-requires-clause-log : goal.judge_by-requires-clause-log
judge_by-requires-clause-log g c honest = c.in_ok-log.ensures.log honest ∙ ap bytes_in (sym (c.read_log.ensures.quiet.seen (log_of c.args.path.now)))

pub returns-clause-folder : goal.returns-clause-folder
returns-clause-folder g c honest = grind arith

pub returns-clause-represented : goal.returns-clause-represented
returns-clause-represented g c honest =
    stood_before (g.D.Disk.state c.args.disk.now) (g.D.Disk.state c.read_log.new.disk) c.args.path.now c.in_ok-log.log.end.recorded c.read_log.ensures.quiet (c.in_ok-judge_by.ensures.represented honest)

pub returns-in_err-judge_by-clause-wrong : goal.returns-in_err-judge_by-clause-wrong
returns-in_err-judge_by-clause-wrong g c honest =
    let path = c.args.path.now in
    let d0 = g.D.Disk.state c.args.disk.now in
    let d1 = g.D.Disk.state c.read_log.new.disk in
    let same : d1.seen ≡ d0.seen = λ i m. c.read_log.ensures.quiet.seen m i in
    let e = c.in_err-judge_by.field-0.0 in
    err_is (IsWrong c.args.strange path d0.seen) e c.from_residual-in_err-judge_by.result c.from_residual-in_err-judge_by.ensures.1
    (subst (λ (f : Files). IsWrong c.args.strange path f e) same (c.in_err-judge_by.ensures.wrong honest))
