-- The answer of reading the lines of a text one by one.
use Rattle.std.specs.Prelude.{◌≡◌, ℕ, ◌⊎◌, List, reverse, Result, Ok, Err}
use Rattle.echo_nodelist.specs.{declared.reading.LocatedLines.LocatedLines, declared.fault.NodeFault.NodeFault, declared.fault.NodeFault.TheVariants.Memory, Nodelist.AreRead, Nodelist.FaultIn, Place.Follows}

abbrev pub IsInStep : LocatedLines → Type 0
IsInStep r = Follows r.lines.items r.addresses.items r.place

-- The reader parsed the lines, or found the first fault among them.
abbrev pub ReadsLines : List (List ℕ) → Result LocatedLines NodeFault → Type 0
ReadsLines raws (Ok r) = AreRead (reverse raws) (reverse r.lines.items) × IsInStep r
ReadsLines raws (Err fault) = FaultIn raws fault ⊎ (fault ≡ Memory)
