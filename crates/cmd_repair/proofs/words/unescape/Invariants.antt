use Rattle.{std.proofs.Common.{◌≡◌, ◌++◌, drop}, cmd_repair.specs.{Ids.unescaped, declared.words.Escape.TheVariants.Outside}}
use Rattle.cmd_repair.proofs.words.unescape.Given as goal

abbrev pub invariant-bytes : goal.invariant-bytes
invariant-bytes l = l.id.items ++ unescaped l.escape (drop l.byte-index l.word) ≡ unescaped Outside l.word
