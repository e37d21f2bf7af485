-- Systems that a nodelist does not hold.
use Rattle.std.specs.Prelude.{◌≡◌, ◌≢◌, ℕ, Bool, true, false, List, [], ◌∷◌, Option, Some, None, MatchOption, slice_index_or}
use Rattle.echo_addr.specs.declared.address.Address.{Address}
use Rattle.echo_nodelist.specs.{declared.keyword.Keyword.Keyword, declared.line.Line.Line, declared.line.Line.TheVariants.Note, declared.line.Line.TheVariants.Entry, Back.IsFirstAt, Back.address_at}
use Rattle.echo_nodelist.specs.declared.keyword.Keyword.TheVariants as keyword
use Rattle.echo_verdict.specs.declared.presence.Absence.{Absence, TheVariants.Missing, TheVariants.Down}

-- Whether the keyword is Down.
abbrev pub is_down_keyword : Keyword → Bool
is_down_keyword keyword.Down = true
is_down_keyword _ = false

-- Whether the line has the keyword Down.
abbrev pub is_down_line : Line → Bool
is_down_line (Note text) = false
is_down_line (Entry k number fields) = is_down_keyword k

-- No line has the address, or the first that has it is Down.
abbrev pub IsAbsent : List Line → Address → Absence → Type 0
IsAbsent lines a Missing = (i : ℕ) → address_at lines i ≢ Some a
IsAbsent lines a Down = (i : ℕ) × IsFirstAt lines a i × ((d : Line) → is_down_line (slice_index_or lines i d) ≡ true)

-- Why the nodelist does not hold the address; none if it holds it.
abbrev pub IsReasonOfAbsence : List Line → Address → Option Absence → Type 0
IsReasonOfAbsence lines a found =
    MatchOption found ((why : Absence) → ¬ IsAbsent lines a why) (λ why. IsAbsent lines a why × ((other : Absence) → IsAbsent lines a other → other ≡ why))

-- The system with the reason of its absence; an empty list without a reason.
abbrev pub absent_as : Address → Option Absence → List (Address × Absence)
absent_as a None = []
absent_as a (Some why) = (a, why) ∷ []
