use Rattle.std.proofs.{Common.List, Common.inl, Common.ℕ, lemmas.Result.err_from_is_err_and}
use Rattle.cmd_check.{specs.{JudgedAreas.is_alone, PicturingParts.IsLeftDrawn}, proofs.FilledParts.pushed_alone}
use Rattle.cmd_check.proofs.picturing_parts.picture_left.Goals as goal

pub returns-in_err-print_rest : goal.returns-in_err-print_rest
returns-in_err-print_rest g c =
    let p = err_from_is_err_and c.from_residual-in_err-print_rest.result c.from_residual-in_err-print_rest.ensures.1 in
    let drawn = pushed_alone (λ (all : List ℕ). IsLeftDrawn (is_alone c.args.whole.now c.args.left.now c.args.tag.now) c.args.left.now c.args.tag.now all c.in_ok-status.status)
    c.new-lines.result.items c.push_left.new.lines.items c.new-lines.ensures.items c.in_ok-status.ensures in
    rw (p.1, p.2) (inl (
      c.in_err-print_rest.ensures.err,
      record { lines = c.push_left.new.lines.items; answer = c.in_ok-status.status; right = drawn; begun = c.in_err-print_rest.ensures.begun },
    ))

pub returns : goal.returns
returns g c =
    let drawn = pushed_alone (λ (all : List ℕ). IsLeftDrawn (is_alone c.args.whole.now c.args.left.now c.args.tag.now) c.args.left.now c.args.tag.now all c.in_ok-status.status)
    c.new-lines.result.items c.push_left.new.lines.items c.new-lines.ensures.items c.in_ok-status.ensures in
    record {
      lines = c.push_left.new.lines.items;
      right = drawn;
      written = c.in_ok-print_rest.ensures.bytes;
      flushed = (c.in_ok-print_rest.ensures.ok, c.in_ok-print_rest.ensures.passed);
    }
