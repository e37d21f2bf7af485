-- A line of a nodelist (FTS-5000).
use Rattle.std.specs.Prelude.{ℕ, ◌==◌, ◌&&◌, ◌||◌, nat_lt, Bool, true, false, List, [], ◌∷◌, length, codes, find, slice_index, Option, Some, None, if◌then◌else◌, Result, Ok, Err}
use Rattle.std.specs.{List.slice_split, Int.is_in_range, Str.str_eq_ignore_ascii_case, Str.Parse.digits_value}
use Rattle.echo_addr.specs.Digits.{is_number}
use Rattle.echo_nodelist.specs.declared.keyword.Keyword.TheVariants.{Zone, Region, Host, Hub, Pvt, Hold, Down, Node}
use Rattle.echo_nodelist.specs.{declared.keyword.Keyword.Keyword, declared.line.Line.Line, declared.line.Line.TheVariants.Note, declared.line.Line.TheVariants.Entry, declared.fault.NodeFault.NodeFault, declared.fault.NodeFault.TheVariants.TooFewFields, declared.fault.NodeFault.TheVariants.BadKeyword, declared.fault.NodeFault.TheVariants.BadNumber, Raw.is_comma}

-- The keywords in their written form.
abbrev pub keyword_text : Keyword → List ℕ
keyword_text Zone = codes "Zone"
keyword_text Region = codes "Region"
keyword_text Host = codes "Host"
keyword_text Hub = codes "Hub"
keyword_text Pvt = codes "Pvt"
keyword_text Hold = codes "Hold"
keyword_text Down = codes "Down"
keyword_text Node = []

abbrev pub keywords : List Keyword
keywords = Zone ∷ (Region ∷ (Host ∷ (Hub ∷ (Pvt ∷ (Hold ∷ (Down ∷ (Node ∷ [])))))))

-- The keyword that the bytes spell, in any case.
abbrev pub keyword_of : List ℕ → Option Keyword
keyword_of bytes = find (λ k. str_eq_ignore_ascii_case bytes (keyword_text k)) keywords

-- Three tests of a keyword: it is Zone; it begins a net, as Zone, Region and Host do; it is Hub.
abbrev pub is_zone : Keyword → Bool
is_zone Zone = true
is_zone _ = false

abbrev pub begins_net : Keyword → Bool
begins_net Zone = true
begins_net Region = true
begins_net Host = true
begins_net _ = false

abbrev pub is_hub : Keyword → Bool
is_hub Hub = true
is_hub _ = false

-- The least number of a keyword: nets are counted from 1, other systems from 0.
abbrev pub least_of : Keyword → ℕ
least_of k = if begins_net k then 1 else 0

-- The keyword may have this number.
abbrev pub is_fit : Keyword → ℕ → Bool
is_fit k n = is_in_range (least_of k) 32767 n

-- The number that the digits spell, if the keyword may have it.
abbrev pub number_of : Keyword → List ℕ → Option ℕ
number_of k digits = if is_number digits && is_fit k (digits_value 10 digits) then Some (digits_value 10 digits) else None

-- An empty line, or one that begins with `;`.
abbrev pub is_note : List ℕ → Bool
is_note line = (length line == 0) || (slice_index line 0 == 59)

abbrev pub with_number : ℕ → Keyword → Option ℕ → List (List ℕ) → Result Line NodeFault
with_number at k None fields = Err (BadNumber at)
with_number at k (Some n) fields = Ok (Entry k n fields)

abbrev pub with_keyword : ℕ → Option Keyword → List ℕ → List (List ℕ) → Result Line NodeFault
with_keyword at None digits fields = Err (BadKeyword at)
with_keyword at (Some k) digits fields = with_number at k (number_of k digits) fields

-- The entry in the fields of line `at`: a keyword, a number, and at least five more fields.
abbrev pub entry_in : ℕ → List (List ℕ) → Result Line NodeFault
entry_in at (word ∷ (digits ∷ fields)) = if nat_lt (length fields) 5 then Err (TooFewFields at) else with_keyword at (keyword_of word) digits fields
entry_in at _ = Err (TooFewFields at)

-- The parsed line `at`, independent of the lines before it.
abbrev pub line_in : ℕ → List ℕ → Result Line NodeFault
line_in at line = if is_note line then Ok (Note line) else entry_in at (slice_split is_comma line)
