use Rattle.{std.proofs.Common.{◌≡◌, ◌≤◌, ◌<◌, ℕ, List, length}, base_store.specs.Keys.place_behind}
use Rattle.base_folder.proofs.judging.whole_in.Given as goal

abbrev pub invariant-messages : goal.invariant-messages
invariant-messages l = (j : ℕ) (messages : List ℕ) → length messages ≡ l.all → j < l.i → place_behind messages l.keys j ≤ l.there
