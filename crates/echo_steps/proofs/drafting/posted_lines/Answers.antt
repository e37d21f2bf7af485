use Rattle.std.proofs.Common.{◌∙◌, ap}
use Rattle.echo_text.specs.Ids.{id_of}
use Rattle.echo_steps.proofs.Drafted.{posted_text}
use Rattle.echo_steps.proofs.drafting.posted_lines.Goals as goal

pub of_text-requires : goal.of_text-requires
of_text-requires c =
    let reported =
    posted_text c.args.links.now c.args.draft.now c.args.serial c.deref.result.now c.as_slice.result.now c.as_slice-2.result.now _ _ _ _ _ _
    (c.deref.ensures.value ∙ c.in_ok-id.ensures ∙ ap (λ a. id_of a c.args.serial) c.system.ensures.own) c.as_slice.ensures c.as_slice-2.ensures
    c.new-text.ensures.items c.in_ok-push_id.ensures c.in_ok-push_reply.ensures c.in_ok-push_lines.ensures.ok c.in_ok-push_line.ensures.ok c.in_ok-push_origin.ensures
    c.requires
    in
    reported.ended_is

pub returns : goal.returns
returns c =
    let reported =
    posted_text c.args.links.now c.args.draft.now c.args.serial c.deref.result.now c.as_slice.result.now c.as_slice-2.result.now _ _ _ _ _ _
    (c.deref.ensures.value ∙ c.in_ok-id.ensures ∙ ap (λ a. id_of a c.args.serial) c.system.ensures.own) c.as_slice.ensures c.as_slice-2.ensures
    c.new-text.ensures.items c.in_ok-push_id.ensures c.in_ok-push_reply.ensures c.in_ok-push_lines.ensures.ok c.in_ok-push_line.ensures.ok c.in_ok-push_origin.ensures
    c.requires
    in
    c.of_text.ensures ∙ reported.lines_are
