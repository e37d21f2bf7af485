use Rattle.std.{proofs.Common.{refl, sym, ap, ◌∙◌}, specs.Option.is_some}
use Rattle.echo_addr.specs.Address.{refusal}
use Rattle.cmd_status.proofs.options.parse_address.Goals as goal

pub returns-in-Err-clause-refused : goal.returns-in-Err-clause-refused
returns-in-Err-clause-refused c = (refl, ap is_some (ap refusal (sym c.as_bytes.ensures.value) ∙ (c.in-Err.ensures.err c.in-Err.field-0).0 refl))
