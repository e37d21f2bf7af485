-- The written bytes of a nodelist.
use Rattle.std.specs.Prelude.{◌≡◌, ℕ, ◌<◌, List, [], ◌∷◌, ◌++◌, length, take, decimal, Option, Result, Ok, Err}
use Rattle.std.specs.{List.flat_map, List.join_with_byte, Io.KnownBytes.Appends}
use Rattle.disk_io.specs.Device.{Failed, counted}
use Rattle.echo_nodelist.specs.declared.{line.Line.Line, line.Line.TheVariants.Note, line.Line.TheVariants.Entry, fault.NodeFault.NodeFault}
use Rattle.echo_nodelist.specs.{declared.fault.NodeFault.TheVariants.Memory, declared.fault.NodeFault.TheVariants.Write, Line.keyword_text}

-- A Note unchanged, or the fields of an entry joined by commas.
abbrev pub line_text : Line → List ℕ
line_text (Note text) = text
line_text (Entry k n fields) = join_with_byte 44 (keyword_text k ∷ (decimal n ∷ fields))

-- A line with 0D 0A.
abbrev pub line_and_end : Line → List ℕ
line_and_end line = line_text line ++ 13 ∷ (10 ∷ [])

-- The lines, and 1A.
unfoldable pub nodelist_text : List Line → List ℕ
nodelist_text lines = flat_map line_and_end lines ++ 26 ∷ []

-- The result of a call that writes these bytes. At Ok it sent all of them. At a write fault the device failed, and the
-- call sent this many bytes, but not all. Out of memory, it sent no byte.
abbrev pub WritesOut : {A : Type 0} → Option (List ℕ) → Option (List ℕ) → ℕ → ℕ → List ℕ → Result A NodeFault → Type 0
WritesOut old new before after bytes (Ok done) = Appends old new bytes × (after ≡ before)
WritesOut old new before after bytes (Err (Write n)) =
    (k : ℕ) × (k < length bytes) × Appends old new (take k bytes) × (n ≡ counted k) × Failed before after
WritesOut old new before after bytes (Err Memory) = (new ≡ old) × (after ≡ before)
WritesOut old new before after bytes (Err _) = ⊥
