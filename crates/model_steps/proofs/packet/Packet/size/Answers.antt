use Rattle.std.proofs.{Common.◌<◌, Common.List, Common.get_or, Common.length, Common.ap, Common.subst, Common.◌∙◌, Common.arith, lemmas.List.take_all}
use Rattle.echo_packet.specs.Message.{Message}
use Rattle.model_steps.proofs.Encoding.{front_counted, one_more_counted, packet_size}
use Rattle.model_steps.proofs.packet.Packet.size.Goals as goal

pub messages-preserved : goal.messages-preserved
messages-preserved c =
    let ms = c.args.self.now.messages in
    let i = c.messages.copy-index in
    let same = c.as_slice-copy-items.ensures in
    let within : i < length ms = subst (λ (l : List Message). i < length l) same c.messages-test.true in
    let is = c.copy-item.is ∙ ap (λ (l : List Message). get_or l i c.copy-item.result) same in
    omega (arith, c.messages.invariant, c.message_size.ensures, c.in-Some.ensures, one_more_counted ms i c.copy-item.result within is)

pub returns-in_default-clause-too_long : goal.returns-in_default-clause-too_long
returns-in_default-clause-too_long c = grind (arith, get_or, one_more_counted, front_counted, packet_size)

pub returns-clause-size : goal.returns-clause-size
returns-clause-size c = grind (arith, take_all, packet_size)
