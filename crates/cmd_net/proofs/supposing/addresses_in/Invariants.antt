use Rattle.std.proofs.Common.{◌≡◌, vec_len}
use Rattle.cmd_net.proofs.supposing.addresses_in.Given as goal

abbrev pub invariant-loop-word : goal.invariant-loop-word
invariant-loop-word l = vec_len l.addresses ≡ l.word-index
