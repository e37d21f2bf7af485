use Rattle.std.proofs.Common.{◌∙◌, arith, sym}
use Rattle.cmd_notes.proofs.word_notes.lacks_area.Goals as goal

pub messages-init : goal.messages-init
messages-init g c = record { ready = c.requires; many = sym c.count-count.ensures.count }

pub fetch_message-requires : goal.fetch_message-requires
fetch_message-requires g c = record { ready = c.messages.invariant.ready; within = omega (arith, c.messages-test.true, c.messages.invariant.many) }

pub messages-preserved : goal.messages-preserved
messages-preserved g c = record {
  ready = c.fetch_message.ensures.looks.ready c.messages.invariant.ready;
  many = c.fetch_message.ensures.looks.count ∙ c.messages.invariant.many;
}
