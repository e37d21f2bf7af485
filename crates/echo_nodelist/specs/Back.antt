-- Addresses of a nodelist (FTS-5000), found by looking back from a line to the first. Lists of lines begin with the nearest.
use Rattle.std.specs.Prelude.{◌≡◌, ◌≢◌, ℕ, ◌+◌, ◌<◌, ◌&&◌, not, nat_lt, Bool, false, List, [], ◌∷◌, ◌++◌, length, take, reverse, Option, Some, None, if◌then◌else◌, MatchOption}
use Rattle.echo_addr.specs.declared.address.Address.{Address}
use Rattle.echo_nodelist.specs.{declared.keyword.Keyword.Keyword, declared.line.Line.Line, declared.line.Line.TheVariants.Note, declared.line.Line.TheVariants.Entry, Line.begins_net, Line.is_hub, Line.is_zone}

-- The number of the last Zone line.
abbrev pub zone_back : List Line → Option ℕ
zone_back [] = None
zone_back (Note text ∷ earlier) = zone_back earlier
zone_back (Entry k n fields ∷ earlier) = if is_zone k then Some n else zone_back earlier

-- The number of the last Zone, Region or Host line.
abbrev pub net_back : List Line → Option ℕ
net_back [] = None
net_back (Note text ∷ earlier) = net_back earlier
net_back (Entry k n fields ∷ earlier) = if begins_net k then Some n else net_back earlier

-- 0 on a Zone, Region or Host line, otherwise the line's number.
abbrev pub node_of : Keyword → ℕ → ℕ
node_of k n = if begins_net k then 0 else n

-- The address of these parts, if both are known.
abbrev pub address_from : Option ℕ → Option ℕ → ℕ → Option Address
address_from (Some zone) (Some net) node = Some (record { zone = zone; net = net; node = node })
address_from _ _ node = None

-- The address of the first line of these.
abbrev pub address_back : List Line → Option Address
address_back [] = None
address_back (Note text ∷ earlier) = None
address_back (Entry k n fields ∷ earlier) = address_from (zone_back (Entry k n fields ∷ earlier)) (net_back (Entry k n fields ∷ earlier)) (node_of k n)

-- The address of the nearest Hub line, if no Zone, Region or Host line is nearer.
abbrev pub nearest_hub : List Line → Option Address
nearest_hub [] = None
nearest_hub (Note text ∷ earlier) = nearest_hub earlier
nearest_hub (Entry k n fields ∷ earlier) = if begins_net k then None else if is_hub k then address_back (Entry k n fields ∷ earlier) else nearest_hub earlier

-- The hub of the first of these lines, if it is a Pvt, Hold or Down line or has no keyword.
abbrev pub hub_back : List Line → Option Address
hub_back [] = None
hub_back (Note text ∷ earlier) = None
hub_back (Entry k n fields ∷ earlier) = if begins_net k then None else if is_hub k then None else nearest_hub earlier

-- A line that may have a hub: an entry that is neither Zone, Region, Host nor Hub.
abbrev pub is_below_hub : Line → Bool
is_below_hub (Note text) = false
is_below_hub (Entry k n fields) = not (begins_net k) && not (is_hub k)

-- The line at the index and those before it, nearest first.
abbrev pub lines_back : List Line → ℕ → List Line
lines_back lines i = reverse (take (i + 1) lines)

-- The address of the line at an index, and that of its hub.
abbrev pub address_at : List Line → ℕ → Option Address
address_at lines i = if nat_lt i (length lines) then address_back (lines_back lines i) else None

abbrev pub hub_at : List Line → ℕ → Option Address
hub_at lines i = if nat_lt i (length lines) then hub_back (lines_back lines i) else None

-- The line at the index is the first with the address.
pub record IsFirstAt (lines : List Line) (a : Address) (i : ℕ) : Type 0 where
  pub here : address_at lines i ≡ Some a
  pub before : (j : ℕ) → j < i → address_at lines j ≢ Some a

-- The first line with the address, or `None` if no line has it.
abbrev pub Finds : List Line → Address → Option ℕ → Type 0
Finds lines a found = MatchOption found ((i : ℕ) → address_at lines i ≢ Some a) (IsFirstAt lines a)

-- The answer for each line, from the line and those before it. The lines begin with the nearest, the answers with the first.
abbrev pub each_back : (List Line → Option Address) → List Line → List (Option Address)
each_back f [] = []
each_back f (line ∷ earlier) = each_back f earlier ++ f (line ∷ earlier) ∷ []
