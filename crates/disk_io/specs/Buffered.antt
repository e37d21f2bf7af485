-- The parts of a `Buffered` that clauses name.
use Rattle.std.specs.{Prelude.ℕ, Prelude.List, Prelude.Option, Io.KnownBytes.prepend_known}
use Rattle.disk_io.specs.declared.buffered.Buffered.{Buffered}

abbrev pub buffered_source : {S : Type 0} → Buffered S → S
buffered_source b = b.source

abbrev pub buffered_held : {S : Type 0} → Buffered S → List ℕ
buffered_held b = b.ahead

-- The bytes of the buffer, then the remaining bytes of the source, if these are known.
abbrev pub buffered_remaining : {S : Type 0} → (S → Option (List ℕ)) → Buffered S → Option (List ℕ)
buffered_remaining remaining b = prepend_known b.ahead (remaining b.source)
