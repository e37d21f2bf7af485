use Rattle.{std.proofs.Common.◌∙◌, cmd_show.proofs.Reported.judged_faulty}
use Rattle.cmd_show.proofs.judged.judge.Goals as goal

pub returns-in_ok-reported_lines-in-Err : goal.returns-in_ok-reported_lines-in-Err
returns-in_ok-reported_lines-in-Err c =
    judged_faulty c.args.bytes.now c.in-Err.why _ c.read.result c.in-Err.is c.read.ensures.judged c.in_ok-reported_lines-in-Err.ensures.memory
    (c.new.ensures ∙ c.in_ok-reported_lines-in-Err.ensures.reported)
