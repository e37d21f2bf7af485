use Rattle.std.proofs.{Common.{◌≡◌, ◌<◌, ◌-◌, List, get_or, length, ap, subst, ◌∙◌, arith, append_assoc}, lemmas.List.take_all}
use Rattle.disk_io.specs.Watched.{watched_device}
use Rattle.echo_packet.specs.{Header.header_bytes, Message.Message, Writer.writer_below}
use Rattle.model_steps.proofs.Encoding.{one_more_whole, one_more_written, written_packet}
use Rattle.model_steps.proofs.packet.Packet.encode.Goals as goal

pub messages-preserved : goal.messages-preserved
messages-preserved c =
    let ms = c.args.self.now.messages in
    let i = c.messages.message-index in
    let m = c.message-item.result in
    let same = c.as_slice-message-items.ensures in
    let within : i < length ms = subst (λ (l : List Message). i < length l) same c.messages-test.true in
    let is : m ≡ get_or ms i m = c.message-item.is ∙ ap (λ (l : List Message). get_or l i m) same in
    record {
      goes_on = c.in-Ok-put_copy.ensures.ok;
      bytes = one_more_written ms i m (header_bytes c.args.self.now.header) (watched_device (writer_below c.messages.writer)).items
          (watched_device (writer_below c.put_copy.new.self)).items within is c.messages.invariant.bytes
          (c.in-Ok-put_copy.ensures.bytes c.messages.invariant.goes_on).0;
      each = one_more_whole ms i m within is c.messages.invariant.each c.in-Ok-put_copy.ensures.message;
    }

pub returns : goal.returns
returns c = grind (arith, take_all, append_assoc, written_packet)
