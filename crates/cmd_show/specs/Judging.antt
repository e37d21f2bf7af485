-- A link file judged as a whole.
use Rattle.std.specs.Prelude.{◌≡◌, ℕ, Bool, true, false, List, Ok, Err}
use Rattle.echo_links.specs.{declared.fault.LinkFault.LinkFault, LinkLines.LinksOf}
use Rattle.cmd_show.specs.{declared.judged.Judged.{Judged, TheVariants.{Good, Faulty}}, FaultyLines.faults_of}
use Rattle.echo_links.specs.declared.fault.LinkFault.TheVariants as fault

-- Whether memory ran out, which is no fault of the bytes.
abbrev pub is_memory : LinkFault → Bool
is_memory fault.Memory = true
is_memory _ = false

-- The bytes are a link file with these parts, or have a fault, and these are all their faults.
abbrev pub IsJudged : List ℕ → Judged → Type 0
IsJudged bytes (Good file) = LinksOf bytes (Ok file)
IsJudged bytes (Faulty faults) = (why : LinkFault) × LinksOf bytes (Err why) × (faults ≡ faults_of bytes)
