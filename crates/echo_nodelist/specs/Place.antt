-- The facts that the earlier lines give for the next line. Lists of lines begin with the nearest.
use Rattle.std.specs.Prelude.{◌≡◌, ℕ, List, ◌∷◌, reverse, Option, Some, None, Result, Ok, Err}
use Rattle.echo_addr.specs.declared.address.Address.{Address}
use Rattle.echo_nodelist.specs.{declared.place.ZoneNet.ZoneNet, declared.place.Located.Located, declared.line.Line.Line, declared.fault.NodeFault.NodeFault, Back.address_back, Back.each_back, Back.net_back, Back.zone_back, Nodelist.placed}

-- The place after these lines, or `None` before the first Zone line.
abbrev pub IsPlaceAfter : List Line → Option ZoneNet → Type 0
IsPlaceAfter earlier None = zone_back earlier ≡ None
IsPlaceAfter earlier (Some here) = (zone_back earlier ≡ Some here.zone) × (net_back earlier ≡ Some here.net)

-- The address of a line after earlier ones, and the place after it.
pub record IsLocated (earlier : List Line) (line : Line) (located : Located) : Type 0 where
  pub place : IsPlaceAfter (line ∷ earlier) located.place
  pub address : address_back (line ∷ earlier) ≡ located.address

-- The place, or the fault that line `at` has no zone.
abbrev pub Locates : ℕ → List Line → Line → Result Located NodeFault → Type 0
Locates at earlier line (Ok located) = (placed at earlier (Ok line) ≡ Ok line) × IsLocated earlier line located
Locates at earlier line (Err fault) = placed at earlier (Ok line) ≡ Err fault

-- The state of a reader after the lines that it has read, in order.
pub record Follows (lines : List Line) (addresses : List (Option Address)) (place : Option ZoneNet) : Type 0 where
  pub stands : IsPlaceAfter (reverse lines) place
  pub address_each : addresses ≡ each_back address_back (reverse lines)
