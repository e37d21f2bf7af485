-- The parts of entries are numbers of two bytes.
use Rattle.std.proofs.Common.{ℕ, ◌^◌, ◌<◌, List, [], ◌∷◌, Option, Some, None, nat_le, arith}
use Rattle.std.proofs.lemmas.{Bool.and_parts, Bool.leb-true, List.Elements.All-append, List.Elements.All-from_recursion, List.Elements.All-nil}
use Rattle.std.specs.{Option.option_map, Option.option_or, List.All, List.AllByRecursion, List.filter_map, List.flat_map}
use Rattle.echo_addr.specs.Entries.{entries, entry_from, judged, nearest_net, pair_of, part_of, tokens}
use Rattle.echo_addr.specs.{declared.address.NetNode.NetNode, ShortLines.IsNetNode}

abbrev IsPart : Option ℕ → Type 0
IsPart None = Unit {0}
IsPart (Some n) = n < 2 ^ 16

abbrev IsEntry : Option NetNode → Type 0
IsEntry None = Unit {0}
IsEntry (Some e) = IsNetNode e

part_is : (digits : List ℕ) → IsPart (part_of digits)
part_is digits = grind (arith, nat_le, leb-true, and_parts)

from_parts : (net other : Option ℕ) → IsPart net → IsPart other → IsEntry (entry_from net other)
from_parts net other h1 h2 = grind arith

pair_is : (token : List ℕ) → IsEntry (pair_of token)
unfolding pair_of
pair_is token = grind (arith, from_parts, part_is)

net_or : (pair : Option NetNode) (net : Option ℕ) → IsEntry pair → IsPart net → IsPart (option_or (option_map (λ e. e.net) pair) net)
net_or None net h p = p
net_or (Some e) net h p = h.net

nearest_is : (earlier : List (List ℕ)) → IsPart (nearest_net earlier)
nearest_is [] = tt
nearest_is (token ∷ earlier) = net_or (pair_of token) (nearest_net earlier) (pair_is token) (nearest_is earlier)

entry_or : (pair other : Option NetNode) → IsEntry pair → IsEntry other → IsEntry (option_or pair other)
entry_or None other h q = q
entry_or (Some e) other h q = h

judged_are : (earlier more : List (List ℕ)) → AllByRecursion IsEntry (judged earlier more)
judged_are earlier [] = tt
judged_are earlier (token ∷ more) = (
  entry_or (pair_of token) (entry_from (nearest_net earlier) (part_of token)) (pair_is token)
      (from_parts (nearest_net earlier) (part_of token) (nearest_is earlier) (part_is token)),
  judged_are (token ∷ earlier) more,
)

those_there : (all : List (Option NetNode)) → AllByRecursion IsEntry all → AllByRecursion IsNetNode (filter_map (λ e. e) all)
those_there [] h = tt
those_there (None ∷ more) h = those_there more h.1
those_there (Some e ∷ more) h = (h.0, those_there more h.1)

pub entries_in_range : (s : List ℕ) → All IsNetNode (entries s)
unfolding entries
entries_in_range s = All-from_recursion IsNetNode (filter_map (λ e. e) (judged [] (tokens s))) (those_there (judged [] (tokens s)) (judged_are [] (tokens s)))

pub all_entries_in_range : (lists : List (List ℕ)) → All IsNetNode (flat_map entries lists)
all_entries_in_range [] = All-nil IsNetNode
all_entries_in_range (s ∷ more) = All-append IsNetNode (entries s) (flat_map entries more) (entries_in_range s) (all_entries_in_range more)
