use Rattle.{std.proofs.Common.{ℕ, ◌≡◌, ◌<◌, ◌≤◌, ◌++◌, drop, option_copied, take}, base_file.specs.Base.Base, echo_packet.specs.Message.messages_bytes}
use Rattle.{cmd_status.specs.Lines.PassesOn, cmd_repair.specs.Repair.{AreLegibleFrom, counted_with_copies, nothing_counted, sent_copies}}
use Rattle.cmd_repair.proofs.sending.send_messages.Given as goal

abbrev pub invariant-messages : goal.invariant-messages
invariant-messages g l = record {
  ready : (g.M.MessageSource.state l.messages).is_ready;
  many : (g.M.MessageSource.state l.messages).count ≡ l.count;
  honest : (g.M.MessageSource.state l.messages).is_honest → (g.M.MessageSource.state l.fn.messages).is_honest;
  held : (base : Base) → (g.M.MessageSource.state l.fn.messages).holds base → (g.M.MessageSource.state l.messages).holds base;
  since : (i : ℕ) → (g.M.MessageSource.state l.messages).legible i → (g.M.MessageSource.state l.fn.messages).legible i;
  read : (g.M.MessageSource.state l.messages).is_honest → AreLegibleFrom (g.M.MessageSource.state l.fn.messages) l.first l.i;
  from : l.i < l.count → l.first ≤ l.i;
  later : (g.M.MessageSource.state l.fn.messages).failures ≤ (g.M.MessageSource.state l.messages).failures;
  sent : (g.M.MessageSource.state l.messages).is_honest → (base : Base) → (g.M.MessageSource.state l.fn.messages).holds base
      → PassesOn (l.fn.piece.items ++ messages_bytes (sent_copies l.repair.links.now l.repair.area.now l.repair.to (option_copied l.repair.held) (drop l.first (take l.i base.messages)))) l.piece.items (g.W.Write.contents l.fn.out) (g.W.Write.contents l.out);
  counted : (g.M.MessageSource.state l.messages).is_honest → (base : Base) → (g.M.MessageSource.state l.fn.messages).holds base
      → l.counted ≡ counted_with_copies (sent_copies l.repair.links.now l.repair.area.now l.repair.to (option_copied l.repair.held) (drop l.first (take l.i base.messages))) (nothing_counted l.repair.to);
  failed : g.W.Sink.failures l.out ≡ g.W.Sink.failures l.fn.out;
}
