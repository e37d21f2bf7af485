use Rattle.std.{proofs.{Common.{inl, refl}, lemmas.Result.err_from_is_err_and}, specs.Option.option_copied}
use Rattle.cmd_check.{specs.{CheckingAll.verdicts_status, JudgedAreas.{JudgedNet, judged_net}}, proofs.Judgements.net_shown}
use Rattle.cmd_check.proofs.supposing.print_net.Goals as goal

pub returns-in_err-print_rest : goal.returns-in_err-print_rest
returns-in_err-print_rest g c given are =
    let p = err_from_is_err_and c.from_residual-in_err-print_rest.result c.from_residual-in_err-print_rest.ensures.1 in
    let net : JudgedNet = judged_net given c.args.net.whole.now c.args.net.left.now c.args.net.assumed.now c.args.net.out.now in
    let shown = net_shown net (option_copied c.args.judging.list) c.args.judging.more c.args.judging.listed c.args.areas.tags.now c.in_ok-noes.noes _ _ (verdicts_status c.in_ok-noes.noes)
    c.new-lines.ensures.items (c.in_ok-noes.ensures given are) refl in
    rw (p.1, p.2) (inl (
      c.in_err-print_rest.ensures.err,
      record { lines = c.push_net.new.lines.items; answer = verdicts_status c.in_ok-noes.noes; right = shown; begun = c.in_err-print_rest.ensures.begun },
    ))

pub returns : goal.returns
returns g c given are =
    let net : JudgedNet = judged_net given c.args.net.whole.now c.args.net.left.now c.args.net.assumed.now c.args.net.out.now in
    record {
      lines = c.push_net.new.lines.items;
      right = net_shown net (option_copied c.args.judging.list) c.args.judging.more c.args.judging.listed c.args.areas.tags.now c.in_ok-noes.noes _ _ c.status_of_verdicts.result
          c.new-lines.ensures.items (c.in_ok-noes.ensures given are) c.status_of_verdicts.ensures;
      written = c.in_ok-print_rest.ensures.bytes;
      flushed = (c.in_ok-print_rest.ensures.ok, c.in_ok-print_rest.ensures.passed);
    }
