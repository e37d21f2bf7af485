-- A nodelist (FTS-5000), and why bytes are no nodelist.
use Rattle.std.specs.Prelude.{◌≡◌, ℕ, ◌+◌, ◌≤◌, ◌⊎◌, ◌&&◌, not, Bool, true, List, [], ◌∷◌, ◌++◌, length, reverse, Option, Some, None, IsSome, Result, Ok, Err}
use Rattle.std.specs.List.{list_all}
use Rattle.echo_addr.specs.declared.address.Address.{Address}
use Rattle.echo_nodelist.specs.{declared.keyword.Keyword.Keyword, declared.line.Line.Line, declared.line.Line.TheVariants.Note, declared.line.Line.TheVariants.Entry, declared.fault.NodeFault.NodeFault, declared.fault.NodeFault.TheVariants.Memory, declared.fault.NodeFault.TheVariants.NoZone, Raw.is_comma, Raw.is_end, Raw.is_feed, Raw.node_lines, Line.is_fit, Line.is_note, Line.line_in, Back.address_back, Back.each_back, Back.zone_back}

abbrev pub in_zone : ℕ → Option ℕ → Line → Result Line NodeFault
in_zone at None line = Err (NoZone at)
in_zone at (Some zone) line = Ok line

-- A parsed line after earlier lines, nearest first.
abbrev pub placed : ℕ → List Line → Result Line NodeFault → Result Line NodeFault
placed at earlier (Err fault) = Err fault
placed at earlier (Ok (Note text)) = Ok (Note text)
placed at earlier (Ok (Entry k n fields)) = in_zone at (zone_back (Entry k n fields ∷ earlier)) (Entry k n fields)

-- The bytes of a line, parsed after earlier lines, or its first fault.
abbrev pub line_outcome : List Line → List ℕ → Result Line NodeFault
line_outcome earlier raw = placed (length earlier + 1) earlier (line_in (length earlier + 1) raw)

-- The bytes of each line parse to the line, after those before it. Both lists begin with the nearest line.
abbrev pub AreRead : List (List ℕ) → List Line → Type 0
AreRead [] [] = Unit {0}
AreRead (raw ∷ raws) (line ∷ earlier) = (line_outcome earlier raw ≡ Ok line) × AreRead raws earlier
AreRead _ _ = ⊥

abbrev pub NodelistOf : List ℕ → List Line → Type 0
NodelistOf bytes lines = AreRead (reverse (node_lines bytes)) (reverse lines)

-- After good lines, the first faulty line has the fault.
pub record FaultIn (raws : List (List ℕ)) (fault : NodeFault) : Type 0 where
  pub front : List (List ℕ)
  pub raw : List ℕ
  pub later : List (List ℕ)
  pub lines : List Line
  pub pieces : raws ≡ front ++ raw ∷ later
  pub good : AreRead (reverse front) (reverse lines)
  pub faulty : line_outcome (reverse lines) raw ≡ Err fault

abbrev pub NodelistFaultOf : List ℕ → NodeFault → Type 0
NodelistFaultOf bytes fault = FaultIn (node_lines bytes) fault

-- The answer of a reader: the lines, the first fault, or out of memory.
abbrev pub NodelistAnswered : List ℕ → Result (List Line) NodeFault → Type 0
NodelistAnswered bytes (Ok lines) = NodelistOf bytes lines
NodelistAnswered bytes (Err fault) = NodelistFaultOf bytes fault ⊎ (fault ≡ Memory)

abbrev pub Gives : {A : Type 0} → Result A NodeFault → Result A NodeFault → Type 0
Gives answer expected = (answer ≡ Err Memory) ⊎ (answer ≡ expected)

-- A byte that a line may have, neither 1A nor 0A. A field has no comma either.
abbrev pub is_inner : ℕ → Bool
is_inner b = not (is_end b) && not (is_feed b)

abbrev pub is_field_byte : ℕ → Bool
is_field_byte b = is_inner b && not (is_comma b)

pub record IsEntry (earlier : List Line) (k : Keyword) (n : ℕ) (fields : List (List ℕ)) : Type 0 where
  pub number : is_fit k n ≡ true
  pub enough : 5 ≤ length fields
  pub bytes : list_all (list_all is_field_byte) fields ≡ true
  pub zone : IsSome (zone_back (Entry k n fields ∷ earlier))

abbrev pub IsGoodLine : List Line → Line → Type 0
IsGoodLine earlier (Note text) = (is_note text ≡ true) × (list_all is_inner text ≡ true)
IsGoodLine earlier (Entry k n fields) = IsEntry earlier k n fields

abbrev pub AreLines : List Line → Type 0
AreLines [] = Unit {0}
AreLines (line ∷ earlier) = IsGoodLine earlier line × AreLines earlier

-- The rules for the lines of each `Nodelist`.
abbrev pub IsNodelist : List Line → Type 0
IsNodelist lines = AreLines (reverse lines)

-- A `Nodelist` has the address of each line.
pub record IsIndexed (lines : List Line) (addresses : List (Option Address)) : Type 0 where
  pub whole : IsNodelist lines
  pub address_each : addresses ≡ each_back address_back (reverse lines)
