use Rattle.base_folder.proofs.Files.{sent_begun}
use Rattle.base_folder.proofs.as_file.send_bytes.Goals as goal

pub returns-clause-begun : goal.returns-clause-begun
returns-clause-begun g c = sent_begun _ _ c.send.result c.args.bytes.now _ _ c.send.ensures.bytes
