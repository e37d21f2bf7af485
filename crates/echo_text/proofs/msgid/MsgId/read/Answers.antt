use Rattle.std.proofs.Common.{◌∙◌, ap, refl, sym}
use Rattle.echo_text.specs.{Ids.is_id_trimmed, Lines.trimmed}
use Rattle.echo_text.proofs.IdTests.{no_parts}
use Rattle.echo_text.proofs.msgid.MsgId.read.Goals as goal

pub returns-in-None : goal.returns-in-None
returns-in-None c = (refl, no_parts (trimmed c.args.bytes.now) (ap is_id_trimmed (sym c.trimmed.ensures) ∙ c.in-None.ensures))
