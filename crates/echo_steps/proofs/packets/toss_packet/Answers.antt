use Rattle.std.proofs.Common.{[], refl, arith}
use Rattle.echo_steps.{specs.{Tallies.tally_of, PacketsIn.state_in}, proofs.{Stops.tossed_part, PacketsIn.{tossed_all, tossed_none}}}
use Rattle.echo_steps.proofs.packets.toss_packet.Goals as goal

pub returns-in-Ok-toss_messages-clause-tossed : goal.returns-in-Ok-toss_messages-clause-tossed
returns-in-Ok-toss_messages-clause-tossed g c = grind (arith, tossed_all)

pub returns-in-Err-toss_messages-clause-tossed : goal.returns-in-Err-toss_messages-clause-tossed
returns-in-Err-toss_messages-clause-tossed g c = grind (arith, tossed_part)

pub returns-in-Ok-toss_messages-clause-read : goal.returns-in-Ok-toss_messages-clause-read
returns-in-Ok-toss_messages-clause-read g c = λ base.
    let went = c.in-Ok-toss_messages.ensures.read base in
    let file = c.args.links.now in
    record {
      tally = went.tally;
      next = went.next;
      step = tossed_all c.args.limits c.in-Ok.sender (state_in file base) (state_in file went.next) _ _ _ went.tally c.in-Ok.ensures.front went.step;
      count = went.count;
    }

pub returns-in-Err-toss_messages-clause-read : goal.returns-in-Err-toss_messages-clause-read
returns-in-Err-toss_messages-clause-read g c = λ base.
    let went = c.in-Err-toss_messages.ensures.read base in
    let file = c.args.links.now in
    record {
      tally = went.tally;
      next = went.next;
      step = tossed_part c.args.limits c.in-Ok.sender (state_in file base) (state_in file went.next) _ _ _ went.tally _ c.in-Ok.ensures.front went.step;
      count = went.count;
    }

pub returns-in-Err-clause-read : goal.returns-in-Err-clause-read
returns-in-Err-clause-read g c = λ base. record {
  tally = tally_of [];
  next = base;
  step = tossed_none c.args.limits (state_in c.args.links.now base) _ _ (tally_of []) c.in-Err.cause refl c.in-Err.ensures.front;
  count = refl;
}
