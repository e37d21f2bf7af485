-- Reading tokens with the net of the nearest pair carried forward is reading them by looking back.
use Rattle.std.proofs.Common.{◌≡◌, ℕ, ◌+◌, List, [], ◌++◌, refl, arith, Option, None, length, take, zero-add}
use Rattle.std.proofs.lemmas.List.{length-take, take-append-le}
use Rattle.std.specs.{Option.is_none, List.filter_map, List.count_by}
use Rattle.echo_addr.specs.Entries.{tokens, nearest_net, judged, entries, dropped}
use Rattle.echo_addr.specs.declared.address.NetNode.{NetNode}

pub record Read (base : List NetNode) (s : List ℕ) (left : List (List ℕ)) (net : Option ℕ) (found : List NetNode) (lost : ℕ) : Type 0 where
  pub earlier : List (List ℕ)
  pub nearest : nearest_net earlier ≡ net
  pub list : found ++ filter_map (λ e. e) (judged earlier left) ≡ base ++ entries s
  pub count : lost + count_by is_none (judged earlier left) ≡ dropped s

pub kept_behind : (base found more : List NetNode) → take (length base) found ≡ base → take (length base) (found ++ more) ≡ base
kept_behind base found more kept = grind (arith, length-take, take-append-le)

pub Read-none : (base : List NetNode) (s : List ℕ) → Read base s (tokens s) None base 0
unfolding entries dropped
Read-none base s = record { earlier = []; nearest = refl; list = refl; count = zero-add _ }
