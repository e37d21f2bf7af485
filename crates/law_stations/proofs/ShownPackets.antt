-- Packet files that a disk shows are those of a net.
use Rattle.{std.proofs.{Common.{ℕ, Bool, List, [], ◌∷◌, map, arith}, lemmas.Bool.le-ltb}, disk_io.specs.Disk.Files, station.specs.PacketsOnDisk.coming_at}
use Rattle.law_stations.specs.{Commands.IsPacketAt, Nets.Paired, ShownPackets.IsShownAt}

one-shown : (packets : List (List ℕ)) (seen : Files) (k : ℕ) (usable : Bool) (path : List ℕ) → IsShownAt packets seen k usable path → IsPacketAt packets k (coming_at seen usable path)
one-shown packets seen k usable path h1 = grind (arith, le-ltb)

pub shown-paired : {N : Type 0} (packets : List (List ℕ)) (seen : Files) (usable : N → Bool) (path : N → List ℕ) (indexes : List ℕ) (names : List N)
    → Paired (λ k name. IsShownAt packets seen k (usable name) (path name)) indexes names
    → Paired (IsPacketAt packets) indexes (map (λ name. coming_at seen (usable name) (path name)) names)
shown-paired packets seen usable path [] [] are = tt
shown-paired packets seen usable path (k ∷ later) [] are = absurd are
shown-paired packets seen usable path [] (name ∷ names) are = absurd are
shown-paired packets seen usable path (k ∷ later) (name ∷ names) are =
    (one-shown packets seen k (usable name) (path name) are.0, shown-paired packets seen usable path later names are.1)
