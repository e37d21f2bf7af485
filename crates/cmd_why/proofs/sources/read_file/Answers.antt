use Rattle.cmd_why.proofs.OfBytes.{of_bytes}
use Rattle.cmd_why.proofs.sources.read_file.Goals as goal

pub returns-in-Ok : goal.returns-in-Ok
returns-in-Ok c = (of_bytes c.args.bytes.now c.in-Ok.file c.in-Ok.ensures.judged).1
