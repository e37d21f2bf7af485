use Rattle.base_file.proofs.LoneMessages.{only_message}
use Rattle.base_folder_store.proofs.alone.read_alone.Goals as goal

pub returns-in-Some-clause-read : goal.returns-in-Some-clause-read
returns-in-Some-clause-read c = λ m is. only_message c.in-Some.message m c.args.bytes.now (rw c.in-Some.is at c.in_ok-message.ensures) is

pub returns-in-None-clause-read : goal.returns-in-None-clause-read
returns-in-None-clause-read c = rw c.in-None.is at c.in_ok-message.ensures
