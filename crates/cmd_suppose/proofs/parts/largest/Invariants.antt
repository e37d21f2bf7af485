-- The first of the largest parts so far.
use Rattle.std.proofs.Common.{◌<◌, ◌≤◌, [], ℕ, get_or, length}
use Rattle.cmd_suppose.proofs.parts.largest.Given as goal

abbrev pub invariant-parts : goal.invariant-parts
invariant-parts l = record {
  inside : l.largest ≤ l.place;
  before : (j : ℕ) → j < l.largest → length (get_or l.parts j []) < length (get_or l.parts l.largest []);
  behind : (j : ℕ) → j < l.place → length (get_or l.parts j []) ≤ length (get_or l.parts l.largest []);
}
