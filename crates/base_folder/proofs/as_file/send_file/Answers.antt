use Rattle.{std.proofs.Common.{◌<◌, ◌∙◌, ℕ, length, ap, subst, arith}, cmd_status.proofs.Lines.none_begun, base_file.specs.BaseFile.{saved_bytes, stored_at}}
use Rattle.{echo_filed.specs.{Stored.stored_bytes, declared.stored.Version.TheVariants.Second}, base_folder.specs.AsFile.{IsMessageFault, IsSendFault}}
use Rattle.{base_folder.proofs.{Lookings.err_is, Readings.{looks_none, looks_on, read_more}}, base_folder_store.proofs.Causes.at_error}
use Rattle.base_folder.proofs.Files.{file_fault, file_sent, head_begun, head_sent, message_begun, message_sent, message_there, messages_begun, there, too_great}
use Rattle.base_folder.specs.declared.send_error.SendError.TheVariants as unsent
use Rattle.base_folder.proofs.as_file.send_file.Goals as goal

pub returns-then-count-gt-MOST-clause-fault : goal.returns-then-count-gt-MOST-clause-fault
returns-then-count-gt-MOST-clause-fault g c = grind (arith, too_great)

pub returns-then-count-gt-MOST-clause-begun : goal.returns-then-count-gt-MOST-clause-begun
returns-then-count-gt-MOST-clause-begun g c = λ honest base holds. none_begun (g.W.Write.contents c.args.file.now) (saved_bytes base.messages base.cursor)

pub stored_at-requires : goal.stored_at-requires
stored_at-requires g c = grind arith

pub returns-in_err-head-clause-begun : goal.returns-in_err-head-clause-begun
returns-in_err-head-clause-begun g c = λ honest base holds. at_error c.from_residual.result (none_begun (g.W.Write.contents c.args.file.now) (saved_bytes base.messages base.cursor))

pub returns-in_err-send_bytes-clause-begun : goal.returns-in_err-send_bytes-clause-begun
returns-in_err-send_bytes-clause-begun g c = grind (arith, at_error, head_begun)

pub returns-in_err-bytes-clause-begun : goal.returns-in_err-bytes-clause-begun
returns-in_err-bytes-clause-begun g c = λ honest base holds.
    let i = c.messages.i in
    let within : i < length base.messages = omega (arith, c.messages-test.true, c.count-count.ensures.all base holds) in
    at_error c.from_residual-in_err-bytes.result
    (messages_begun (g.W.Write.contents c.args.file.now) (g.W.Write.contents c.messages.file) base.cursor i base.messages (message_there base.messages i within) (there base.messages i within)
    (c.messages.invariant.sent (c.stored_at.ensures.looks.honest honest) base holds))

pub returns-in_err-bytes-clause-fault : goal.returns-in_err-bytes-clause-fault
returns-in_err-bytes-clause-fault g c = λ honest base holds.
    let i = c.messages.i in
    let within : i < length base.messages = omega (arith, c.messages-test.true, c.count-count.ensures.all base holds) in
    let m = message_there base.messages i within in
    let is = there base.messages i within in
    let first = (g.M.MessageSource.state c.args.messages.now).failures in
    let before = (g.M.MessageSource.state c.messages.messages).failures in
    let now = (g.M.MessageSource.state c.stored_at.new.messages).failures in
    let e = c.in_err-bytes.field-0.0 in
    err_is (IsSendFault base first now (g.W.Sink.failures c.args.file.now) (g.W.Sink.failures c.messages.file)) (unsent.Messages e) c.from_residual-in_err-bytes.result c.from_residual-in_err-bytes.ensures.1 (
      file_fault base i m first before now e is c.messages.invariant.later
          (subst (λ (n : ℕ). IsMessageFault (stored_at n i m) before now e) (c.cursor-cursor.ensures base holds) (c.in_err-bytes.ensures.fault honest base m (c.messages.invariant.looks.holds base holds) is)),
      c.messages.invariant.failed,
    )

pub returns-in_err-send_bytes-2-clause-begun : goal.returns-in_err-send_bytes-2-clause-begun
returns-in_err-send_bytes-2-clause-begun g c = λ honest base holds.
    let i = c.messages.i in
    let within : i < length base.messages = omega (arith, c.messages-test.true, c.count-count.ensures.all base holds) in
    let m = message_there base.messages i within in
    let is = there base.messages i within in
    let bytes = c.deref-in-messages.ensures.value ∙ c.in_ok-bytes.ensures.bytes honest base m (c.messages.invariant.looks.holds base holds) is
    ∙ ap (λ (n : ℕ). stored_bytes Second (stored_at n i m)) (c.cursor-cursor.ensures base holds) in
    at_error c.from_residual-in_err-send_bytes-2.result
    (message_begun (g.W.Write.contents c.args.file.now) (g.W.Write.contents c.messages.file) (g.W.Write.contents c.send_bytes-in-messages.new.file) base.cursor i base.messages m c.deref-in-messages.result.now is
    (c.messages.invariant.sent (c.stored_at.ensures.looks.honest honest) base holds) bytes c.in_err-send_bytes-2.ensures.begun)

pub messages-init : goal.messages-init
messages-init g c = grind (arith, looks_none, head_sent)

pub messages-preserved : goal.messages-preserved
messages-preserved g c = record {
  looks = looks_on (g.M.MessageSource.state c.args.messages.now) (g.M.MessageSource.state c.messages.messages) (g.M.MessageSource.state c.stored_at.new.messages) c.messages.invariant.looks c.stored_at.ensures.looks;
  later = omega (arith, c.messages.invariant.later, c.stored_at.ensures.later);
  sent = λ honest base holds.
      let i = c.messages.i in
      let within : i < length base.messages = omega (arith, c.messages-test.true, c.count-count.ensures.all base holds) in
      let m = message_there base.messages i within in
      let is = there base.messages i within in
      let bytes = c.deref-in-messages.ensures.value ∙ c.in_ok-bytes.ensures.bytes honest base m (c.messages.invariant.looks.holds base holds) is
      ∙ ap (λ (n : ℕ). stored_bytes Second (stored_at n i m)) (c.cursor-cursor.ensures base holds) in
      message_sent (g.W.Write.contents c.args.file.now) (g.W.Write.contents c.messages.file) (g.W.Write.contents c.send_bytes-in-messages.new.file) base.cursor i base.messages m c.deref-in-messages.result.now is
      (c.messages.invariant.sent (c.stored_at.ensures.looks.honest honest) base holds) bytes c.in_ok-send_bytes-2.ensures.bytes;
  since = λ i is. c.messages.invariant.since i (c.stored_at.ensures.legible.since i is);
  read = read_more (g.M.MessageSource.state c.args.messages.now) (g.M.MessageSource.state c.messages.messages) (g.M.MessageSource.state c.stored_at.new.messages) c.messages.i c.messages.invariant.since c.stored_at.ensures.looks.honest c.messages.invariant.read c.in_ok-bytes.ensures.legible.here;
  failed = c.in_ok-send_bytes-2.ensures.ok ∙ c.messages.invariant.failed;
}

pub returns-clause-file : goal.returns-clause-file
returns-clause-file g c = grind (arith, file_sent)

pub returns-clause-whole : goal.returns-clause-whole
returns-clause-whole g c honest = λ i within. c.messages.invariant.read honest i (omega (arith, within, c.messages-test.false, c.count-count.ensures.count))
