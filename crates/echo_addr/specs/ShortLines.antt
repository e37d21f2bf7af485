-- SEEN-BY and PATH lines with shortened nets, as the tosser writes them (FTS-0004).
use Rattle.std.specs.Prelude.{◌≡◌, ℕ, ◌==◌, ◌^◌, ◌<◌, ◌≤◌, ◌⊎◌, ⊤, Bool, true, not, if◌then◌else◌, List, [], ◌∷◌, ◌++◌, length, decimal, codes, Option, Some, None}
use Rattle.std.specs.List.{flat_map, AllByRecursion}
use Rattle.echo_addr.specs.{declared.address.NetNode.NetNode, Address.net_node_text, Entries.entries, Entries.dropped}

-- The most bytes of a line before its 0D.
abbrev pub line_room : ℕ
line_room = 79

abbrev pub seen_prefix : List ℕ
seen_prefix = codes "SEEN-BY:"

abbrev pub path_prefix : List ℕ
path_prefix = 1 ∷ codes "PATH:"

-- An entry shows its net if it is the first of its line, or if the entry before it has another net.
abbrev pub shows_net : Option ℕ → ℕ → Bool
shows_net None net = true
shows_net (Some before) net = not (before == net)

-- The bytes of an entry after an entry with the net `before`.
abbrev pub entry_token : Option ℕ → NetNode → List ℕ
entry_token before e =
    if shows_net before e.net then net_node_text e else decimal e.node

abbrev pub entry_text : Option ℕ → NetNode → List ℕ
entry_text before e = 32 ∷ entry_token before e

-- Entries in a row. The first argument is the net of the entry before them.
abbrev pub entries_text : Option ℕ → List NetNode → List ℕ
entries_text before [] = []
entries_text before (e ∷ more) = entry_text before e ++ entries_text (Some e.net) more

abbrev pub line_front : List ℕ → List NetNode → List ℕ
line_front prefix run = prefix ++ entries_text None run

abbrev pub line_of : List ℕ → List ℕ → List ℕ
line_of prefix rest = prefix ++ (rest ++ 13 ∷ [])

-- With the next entry the line would be too long.
abbrev pub IsFull : List ℕ → List NetNode → List NetNode → Type 0
IsFull prefix run [] = ⊤
IsFull prefix run (next ∷ more) = line_room < length (line_front prefix (run ++ next ∷ []))

-- The entries of one line: at least one, and as many as fit.
pub record IsRun (prefix : List ℕ) (run after : List NetNode) : Type 0 where
  pub some : 0 < length run
  pub room : length (line_front prefix run) ≤ line_room
  pub full : IsFull prefix run after

-- Each run is one line, and `after` has the entries of the later runs.
abbrev pub AreRuns : List ℕ → List (List NetNode) → Type 0
AreRuns prefix [] = ⊤
AreRuns prefix (run ∷ later) = IsRun prefix run (flat_map (λ r. r) later) × AreRuns prefix later

-- The list in runs, and one line for each run.
pub record ShortLines (prefix : List ℕ) (list : List NetNode) (b : List ℕ) : Type 0 where
  pub runs : List (List NetNode)
  pub cut : list ≡ flat_map (λ r. r) runs
  pub lines : b ≡ flat_map (λ run. line_of prefix (entries_text None run)) runs
  pub each : AreRuns prefix runs

pub record AddsLines (prefix : List ℕ) (list : List NetNode) (old new : List ℕ) : Type 0 where
  pub added : List ℕ
  pub lines : ShortLines prefix list added
  pub whole : new ≡ old ++ added

-- One entry is before the other, by net and then by node.
abbrev pub ComesBefore : NetNode → NetNode → Type 0
ComesBefore x y = (x.net < y.net) ⊎ ((x.net ≡ y.net) × (x.node < y.node))

-- Both parts are numbers of two bytes.
pub record IsNetNode (e : NetNode) : Type 0 where
  pub net : e.net < 2 ^ 16
  pub node : e.node < 2 ^ 16

-- A byte of written entries: a blank, a slash or a digit.
abbrev pub IsEntryByte : ℕ → Type 0
IsEntryByte b = (b ≡ 32) ⊎ ((47 ≤ b) × (b ≤ 57))

-- Lines that begin with the prefix and read back as the list.
pub record ReadBack (prefix : List ℕ) (list : List NetNode) (b : List ℕ) : Type 0 where
  pub rests : List (List ℕ)
  pub lines : b ≡ flat_map (line_of prefix) rests
  pub bytes : AllByRecursion (AllByRecursion IsEntryByte) rests
  pub list_back : flat_map entries rests ≡ list
  pub none_dropped : AllByRecursion (λ rest. dropped rest ≡ 0) rests
