use Rattle.std.proofs.Common.{◌≡◌, sym, subst, [], refl, None, arith}
use Rattle.echo_filed.specs.Filed.{IsFiled}
use Rattle.model_steps.{specs.Posting.posted, proofs.Kept.posted_filed}
use Rattle.echo_steps.proofs.{Drafted.posted_is, Judged.draft_allowed}
use Rattle.echo_steps.proofs.drafting.posted.Goals as goal

pub date_time-requires : goal.date_time-requires
date_time-requires c = (draft_allowed c.args.links.now [] c.args.tag.now c.args.draft.now c.args.serial c.args.stamp c.requires refl).moment

made : (c : goal.After-date_time) → record {
  sender = None;
  date = c.date_time.result;
  to_name = c.in_ok-to_name.to_name;
  from_name = c.in_ok-from_name.from_name;
  subject = c.in_ok-subject.subject;
  echo = record { tag = c.new-tag.result; kept = c.in_ok-kept.kept; seen = c.new-2.result; path = c.new-4.result };
} ≡ posted c.args.links.now c.args.tag.now c.args.draft.now c.args.serial c.args.stamp
made c = grind (arith, posted_is)

filed : (c : goal.After-date_time) → IsFiled (posted c.args.links.now c.args.tag.now c.args.draft.now c.args.serial c.args.stamp)
filed c =
    posted_filed c.args.links.now [] c.args.tag.now c.args.draft.now c.args.serial c.args.stamp c.system.ensures.file
    (draft_allowed c.args.links.now [] c.args.tag.now c.args.draft.now c.args.serial c.args.stamp c.requires refl)

pub invariant_of-echo : goal.invariant_of-echo
invariant_of-echo c = (subst IsFiled (sym (made c)) (filed c)).is_echo

pub invariant_of-result : goal.invariant_of-result
invariant_of-result c = subst IsFiled (sym (made c)) (filed c)

pub returns : goal.returns
returns c = made c

pub posted_lines-requires : goal.posted_lines-requires
unfolding posted
posted_lines-requires c =
    (posted_filed c.args.links.now [] c.args.tag.now c.args.draft.now c.args.serial c.args.stamp c.system.ensures.file
    (draft_allowed c.args.links.now [] c.args.tag.now c.args.draft.now c.args.serial c.args.stamp c.requires refl)).is_echo.kept_lines
