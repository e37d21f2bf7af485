use Rattle.std.proofs.Common.{◌≡◌, ◌+◌, vec_len}
use Rattle.cmd_input.proofs.inputs.push_links.Given as goal

abbrev pub invariant-loop-name : goal.invariant-loop-name
invariant-loop-name l = vec_len l.files ≡ vec_len l.initial.files + l.name-index
