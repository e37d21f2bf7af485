-- The entries of a SEEN-BY or PATH line, in the bytes after its colon (FTS-0004).
use Rattle.std.specs.Prelude.{ℕ, ◌==◌, ◌||◌, nat_lt, Bool, List, [], ◌∷◌, length, Option, Some, None, is_none, count_by, filter}
use Rattle.std.specs.{Option.option_or, Option.option_map, List.slice_split, List.before_first, List.after_first, List.filter_map}
use Rattle.echo_addr.specs.{declared.address.NetNode.NetNode, Address.is_slash, Digits.number_within}

-- A blank: 20, 09 or 0A.
abbrev pub is_blank : ℕ → Bool
is_blank b = (b == 32) || (b == 9) || (b == 10)

-- The pieces between blanks, without the empty ones.
unfoldable pub tokens : List ℕ → List (List ℕ)
tokens s = filter (λ t. nat_lt 0 (length t)) (slice_split is_blank s)

abbrev pub part_of : List ℕ → Option ℕ
part_of digits = number_within 65535 digits

abbrev pub entry_from : Option ℕ → Option ℕ → Option NetNode
entry_from None _ = None
entry_from (Some net) None = None
entry_from (Some net) (Some node) = Some (record { net = net; node = node })

unfoldable pub pair_of : List ℕ → Option NetNode
pair_of token = entry_from (part_of (before_first is_slash token)) (part_of (after_first is_slash token))

-- The net of the nearest token `net/node`. The list begins with the nearest token.
abbrev pub nearest_net : List (List ℕ) → Option ℕ
nearest_net [] = None
nearest_net (token ∷ earlier) = option_or (option_map (λ e. e.net) (pair_of token)) (nearest_net earlier)

-- The entry of a token `net/node`, or of a node alone. A node alone takes the net of the nearest pair before it.
abbrev pub entry_of : List (List ℕ) → List ℕ → Option NetNode
entry_of earlier token = option_or (pair_of token) (entry_from (nearest_net earlier) (part_of token))

-- The entry of each token. The first list has the earlier tokens, the nearest first.
abbrev pub judged : List (List ℕ) → List (List ℕ) → List (Option NetNode)
judged earlier [] = []
judged earlier (token ∷ more) = entry_of earlier token ∷ judged (token ∷ earlier) more

unfoldable pub entries : List ℕ → List NetNode
entries s = filter_map (λ e. e) (judged [] (tokens s))

-- The number of tokens that are no entry.
unfoldable pub dropped : List ℕ → ℕ
dropped s = count_by is_none (judged [] (tokens s))
