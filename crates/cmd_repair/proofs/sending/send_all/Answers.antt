use Rattle.{std.proofs.Common.{arith, option_copied}, base_folder.proofs.Lookings.err_is, cmd_repair.proofs.Sendings.{asked_sent, unsent_device, unsent_undone}}
use Rattle.cmd_repair.proofs.sending.send_all.Goals as goal

pub returns-in_err-counted-clause-fault : goal.returns-in_err-counted-clause-fault
returns-in_err-counted-clause-fault g c = grind (arith, err_is, unsent_undone)

pub returns-in_err-send-clause-fault : goal.returns-in_err-send-clause-fault
returns-in_err-send-clause-fault g c = grind (arith, err_is, unsent_device)

pub returns-in_err-send_terminator-clause-fault : goal.returns-in_err-send_terminator-clause-fault
returns-in_err-send_terminator-clause-fault g c = grind (arith, err_is, unsent_device)

pub returns-clause-sent : goal.returns-clause-sent
returns-clause-sent g c = λ honest base holds.
    let bytes = c.in_ok-send.ensures.bytes in
    let end = c.in_ok-send_terminator.ensures.bytes in
    asked_sent c.args.links.now c.args.asked.stamp c.args.asked.area.now _ c.args.asked.to c.args.asked.first (option_copied c.args.held) base _ _ _ _ _ _ _ _ (grind arith) c.in_ok-piece.ensures
    (c.in_ok-counted.ensures.sent honest base holds) (c.in_ok-counted.ensures.counted honest base holds) bytes.0 end.0 (grind arith) (grind arith)
