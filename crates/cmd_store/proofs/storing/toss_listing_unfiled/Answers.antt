use Rattle.{std.proofs.Common.inl, echo_steps.{specs.PacketsIn.state_in, proofs.{Stops.tossed_part, PacketsIn.tossed_all as tossed_whole}}}
use Rattle.cmd_store.proofs.Noted.{noted_some}
use Rattle.cmd_store.proofs.storing.toss_listing_unfiled.Goals as goal

pub returns-in-Ok-note_messages_in-clause-tossed : goal.returns-in-Ok-note_messages_in-clause-tossed
returns-in-Ok-note_messages_in-clause-tossed g c = λ honest base kept.
    let went = c.in-Ok-note_messages_in.ensures.tossed honest base kept in
    let file = c.args.links.now in
    record {
      next = went.next;
      step = tossed_whole c.args.limits c.in-Ok.sender (state_in file base) (state_in file went.next) _ _ _ c.note_messages_in.new.tally c.in-Ok.ensures.front went.step;
      notes = inl (noted_some c.args.limits c.in-Ok.sender (state_in file base) (state_in file went.next) _ _ c.note_messages_in.new.tally _ _ c.in-Ok.ensures.front went.notes);
      holds = went.holds;
    }

pub returns-in-Err-note_messages_in-clause-tossed : goal.returns-in-Err-note_messages_in-clause-tossed
returns-in-Err-note_messages_in-clause-tossed g c = λ honest base kept.
    let went = c.in-Err-note_messages_in.ensures.tossed honest base kept in
    let file = c.args.links.now in
    record {
      next = went.next;
      step = tossed_part c.args.limits c.in-Ok.sender (state_in file base) (state_in file went.next) _ _ _ c.note_messages_in.new.tally _ c.in-Ok.ensures.front went.step;
      notes = inl (noted_some c.args.limits c.in-Ok.sender (state_in file base) (state_in file went.next) _ _ c.note_messages_in.new.tally _ _ c.in-Ok.ensures.front went.notes);
      holds = went.holds;
    }
