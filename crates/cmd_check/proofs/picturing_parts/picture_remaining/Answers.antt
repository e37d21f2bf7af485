use Rattle.{std.proofs.{Common.{◌≡◌, List, ℕ, subst, arith}, lemmas.Result.err_from_is_err_and}, echo_links.specs.Links.upper}
use Rattle.{cmd_status.specs.Devices.output_of, cmd_check.specs.{JudgedAreas.is_alone, PicturingParts.{IsFaultWithout, IsLeftDrawn, IsPicturedWithout}}}
use Rattle.cmd_check.proofs.Printing.{printed_as}
use Rattle.cmd_check.proofs.picturing_parts.picture_remaining.Goals as goal

pub returns-in_err-left : goal.returns-in_err-left
returns-in_err-left g c = grind (arith, err_from_is_err_and)

pub returns : goal.returns
returns g c =
    let whole = c.in_ok-whole.whole.items in
    let left = c.in_ok-left.left.items in
    let raised : c.in_ok-tag.tag.items ≡ upper c.args.tag.now = grind arith in
    printed_as (IsLeftDrawn (is_alone whole left c.in_ok-tag.tag.items) left c.in_ok-tag.tag.items) (IsPicturedWithout c.args.tag.now c.args.files.now c.args.without.now)
    (IsFaultWithout c.args.files.now c.args.without.now)
    (output_of g.W.Write.contents g.W.Sink.failures g.W.Sink.holds c.args.out.now) (output_of g.W.Write.contents g.W.Sink.failures g.W.Sink.holds c.picture_left.new.out) c.picture_left.result
    (λ lines status drawn. record {
      files = whole;
      are_files = c.in_ok-whole.ensures.ok;
      left = left;
      are_left = rw c.deref.ensures.value at c.in_ok-left.ensures.ok;
      drawn = subst (λ (t : List ℕ). IsLeftDrawn (is_alone whole left t) left t lines status) raised drawn;
    })
    (rw (c.deref-2.ensures.value, c.deref-3.ensures.value, c.deref-4.ensures.value) at c.picture_left.ensures)
