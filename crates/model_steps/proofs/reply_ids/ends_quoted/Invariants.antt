use Rattle.std.proofs.Common.{◌≡◌, drop, false}
use Rattle.echo_text.specs.Ids.{ends_quoted}
use Rattle.model_steps.proofs.reply_ids.ends_quoted.Given as goal

abbrev pub invariant-bytes : goal.invariant-bytes
invariant-bytes l = ends_quoted l.single (drop l.byte-index l.rest) ≡ ends_quoted false l.rest
