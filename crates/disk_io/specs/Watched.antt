-- The parts of a `Watched` that clauses name.
use Rattle.std.specs.Prelude.{ℕ, Bool}
use Rattle.disk_io.specs.declared.watched.Watched.{Watched}

abbrev pub watched_device : {D : Type 0} → Watched D → D
watched_device w = w.device

abbrev pub watched_failures : {D : Type 0} → Watched D → ℕ
watched_failures w = w.failures

-- The writer may hold bytes that it did not pass on.
abbrev pub watched_holds : {D : Type 0} → Watched D → Bool
watched_holds w = w.holds
