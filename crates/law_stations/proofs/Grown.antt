-- No packet file loses its name.
use Rattle.std.proofs.Common.{◌≡◌, ◌⊎◌, inl, inr, refl, sym, ap, ◌∙◌, ℕ, zero, suc, append-nil, append_assoc, Bool, true, false, List, [], ◌∷◌, ◌++◌, arith}
use Rattle.model_steps.specs.declared.stamp.Stamp.{Stamp}
use Rattle.law_stations.specs.{Commands.Command, Commands.Post, Commands.Purge, Commands.Scan, Commands.Toss, Nets.Net, Disks.Disks, Disks.naming, LoneDisks.LoneDisks, LoneDisks.MayHappenAlone, LoneDisks.MayHappenAllAlone, LoneStations.LoneCommand, LoneStations.LoneStation, LoneStations.PostAlone, LoneStations.PurgeAlone, LoneStations.ScanAlone, LoneStations.TossAny}
use Rattle.law_stations.specs.Stopping.{EndsOne, EndsSome, PartialEffect, Moves, ScansFar, Writes}

-- the packet files stay, and later ones follow
abbrev pub Grows : List (List ℕ) → List (List ℕ) → Type 0
Grows old new = (since : List (List ℕ)) × (new ≡ old ++ since)

pub same-grows : (old new : List (List ℕ)) → new ≡ old → Grows old new
same-grows old new same = ([], same ∙ sym (append-nil old))

pub grows-on : (old mid new : List (List ℕ)) → Grows old mid → Grows mid new → Grows old new
grows-on old mid new (first, is) (later, after) = (first ++ later, after ∙ ap (λ (ps : List (List ℕ)). ps ++ later) is ∙ append_assoc old first later)

naming-grows : (net : Net) (bytes : List ℕ) (b : Bool) → Grows net.packets (naming net bytes b).packets
naming-grows net bytes true = same-grows net.packets net.packets refl
naming-grows net bytes false = (bytes ∷ [], refl)

pub one-grows : (i : ℕ) (d new : Disks) → EndsOne i d new → Grows d.net.packets new.net.packets
one-grows i d new e = grind (arith, naming-grows, same-grows)

pub some-grow : (n i : ℕ) (d new : Disks) → EndsSome n i d new → Grows d.net.packets new.net.packets
some-grow zero i d new same = same-grows d.net.packets new.net.packets (ap (λ (x : Disks). x.net.packets) same)
some-grow (suc n) i d new (next, first, later) =
    grows-on d.net.packets next.net.packets new.net.packets (one-grows i d next first) (some-grow n i next new later)

scan-grows : (stamp : Stamp) (i : ℕ) (d new : Disks) → ScansFar stamp i d new → Grows d.net.packets new.net.packets
scan-grows stamp i d new (n, ended, ends, rest) = grows-on d.net.packets ended.net.packets new.net.packets (some-grow n i d ended ends) (by rest)
  where
    by : (new ≡ ended) ⊎ (Writes i ended new ⊎ ((m : ℕ) × (moved : Disks) × Moves stamp i ended moved × EndsSome m i moved new)) → Grows ended.net.packets new.net.packets
    by (inl same) = same-grows ended.net.packets new.net.packets (ap (λ (x : Disks). x.net.packets) same)
    by (inr (inl writes)) = same-grows ended.net.packets new.net.packets (ap (λ (x : Disks). x.net.packets) writes.becomes)
    by (inr (inr (m, moved, moves, names))) =
        grows-on ended.net.packets moved.net.packets new.net.packets
        ([], ap (λ (x : Disks). x.net.packets) moves.becomes) (some-grow m i moved new names)

pub led-grows : (command : Command) (i : ℕ) (d new : Disks) → PartialEffect command d i new → Grows d.net.packets new.net.packets
led-grows (Post words body) i d new (posts, staging) = same-grows d.net.packets new.net.packets (ap (λ (n : Net). n.packets) posts.becomes)
led-grows (Scan stamp) i d new scan = scan-grows stamp i d new scan
led-grows (Purge range) i d new (purges, staging) = ([], ap (λ (n : Net). n.packets) purges.becomes)
led-grows (Toss indexes) i d new (n, tosses, staging) = same-grows d.net.packets new.net.packets (ap (λ (x : Net). x.packets) tosses.becomes)

alone-grows : (command : LoneCommand) (s new : LoneDisks) → MayHappenAlone command s new → Grows s.disks.net.packets new.disks.net.packets
alone-grows command s new (inl same) = same-grows s.disks.net.packets new.disks.net.packets (ap (λ (x : LoneDisks). x.disks.net.packets) same)
alone-grows (PostAlone words body) s new (inr (leads, none)) = led-grows (Post words body) 0 s.disks new.disks leads
alone-grows (ScanAlone stamp) s new (inr (leads, none)) = led-grows (Scan stamp) 0 s.disks new.disks leads
alone-grows (PurgeAlone range) s new (inr (leads, none)) = led-grows (Purge range) 0 s.disks new.disks leads
alone-grows (TossAny files) s new (inr (n, tosses, staging)) = ([], ap (λ (x : LoneStation). x.net.packets) tosses.becomes)

pub all-grow : (commands : List LoneCommand) (s new : LoneDisks) → MayHappenAllAlone commands s new → Grows s.disks.net.packets new.disks.net.packets
all-grow [] s new same = same-grows s.disks.net.packets new.disks.net.packets (ap (λ (x : LoneDisks). x.disks.net.packets) same)
all-grow (command ∷ commands) s new (next, first, rest) =
    grows-on s.disks.net.packets next.disks.net.packets new.disks.net.packets (alone-grows command s next first) (all-grow commands next new rest)
