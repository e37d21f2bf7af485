-- A command changes only the base of its station.
use Rattle.{std.proofs.Common.{◌≡◌, ◌≢◌, inl, inr, refl, sym, subst, ap, ◌∙◌, ℕ, zero, suc, Bool, true, false, List, [], ◌∷◌, arith}, base_file.specs.Base.Base}
use Rattle.{model_steps.specs.declared.stamp.Stamp.Stamp, model_run.specs.Run.{change, nth}, base_store.specs.Store.purged}
use Rattle.law_stations.specs.{Commands.{Command, CommandEvent, Post, Purge, Scan, Toss}, Nets.{Net, with_base}, Disks.{Disks, naming}}
use Rattle.law_stations.specs.Stopping.{EndsOne, EndsSome, PartialEffect, MayHappen, ScansFar, Writes}

pub change-other : {X : Type 0} (f : X → X) (i j : ℕ) (xs : List X) → j ≢ i → nth j (change i f xs) ≡ nth j xs
change-other f i j [] other = refl
change-other f zero zero (x ∷ xs) other = absurd (other refl)
change-other f zero (suc j) (x ∷ xs) other = refl
change-other f (suc i) zero (x ∷ xs) other = refl
change-other f (suc i) (suc j) (x ∷ xs) other = change-other f i j xs (λ e. other (ap suc e))

naming-stations : (net : Net) (bytes : List ℕ) (b : Bool) → (naming net bytes b).stations ≡ net.stations
naming-stations net bytes b = grind arith

pub one-stations : (i : ℕ) (d new : Disks) → EndsOne i d new → new.net.stations ≡ d.net.stations
one-stations i d new e = grind (arith, naming-stations)

pub some-stations : (n i : ℕ) (d new : Disks) → EndsSome n i d new → new.net.stations ≡ d.net.stations
some-stations zero i d new same = ap (λ (x : Disks). x.net.stations) same
some-stations (suc n) i d new (next, first, later) = some-stations n i next new later ∙ one-stations i d next first

pub written-stations : (i : ℕ) (d new : Disks) → Writes i d new → new.net.stations ≡ d.net.stations
written-stations i d new w = ap (λ (x : Disks). x.net.stations) w.becomes

left-elsewhere : (net new : Net) (i j : ℕ) (base : Base) → new.stations ≡ change i (with_base base) net.stations → j ≢ i → nth j new.stations ≡ nth j net.stations
left-elsewhere net new i j base same other = ap (nth j) same ∙ change-other (with_base base) i j net.stations other

far-elsewhere : (stamp : Stamp) (i j : ℕ) (d new : Disks) → j ≢ i → ScansFar stamp i d new → nth j new.net.stations ≡ nth j d.net.stations
far-elsewhere stamp i j d new other (n, ended, ends, rest) = grind (arith, some-stations, written-stations, left-elsewhere)

led-elsewhere : (command : Command) (i j : ℕ) (d new : Disks) → j ≢ i → PartialEffect command d i new → nth j new.net.stations ≡ nth j d.net.stations
led-elsewhere (Post words body) i j d new other (posts, staging) =
    left-elsewhere d.net new.net i j posts.next (ap (λ (n : Net). n.stations) posts.becomes) other
led-elsewhere (Scan stamp) i j d new other scan = far-elsewhere stamp i j d new other scan
led-elsewhere (Purge range) i j d new other (purges, staging) =
    left-elsewhere d.net new.net i j (purged range purges.station.base) (ap (λ (n : Net). n.stations) purges.becomes) other
led-elsewhere (Toss indexes) i j d new other (n, tosses, staging) =
    left-elsewhere d.net new.net i j tosses.next (ap (λ (x : Net). x.stations) tosses.becomes) other

pub elsewhere : (event : CommandEvent) (j : ℕ) (d new : Disks) → j ≢ event.station → MayHappen event d new → nth j new.net.stations ≡ nth j d.net.stations
elsewhere event j d new other (inl same) = ap (λ (x : Disks). nth j x.net.stations) same
elsewhere event j d new other (inr leads) = led-elsewhere event.command event.station j d new other leads

-- A scan delivers nothing, and posts nothing.
abbrev pub SameNews : Net → Net → Type 0
SameNews net new = (new.delivered ≡ net.delivered) × (new.postings ≡ net.postings)

naming-news : (net : Net) (bytes : List ℕ) (b : Bool) → SameNews net (naming net bytes b)
naming-news net bytes true = (refl, refl)
naming-news net bytes false = (refl, refl)

one-news : (i : ℕ) (d new : Disks) → EndsOne i d new → SameNews d.net new.net
one-news i d new e = elim e.ends [
  | inl named ↦ subst (SameNews d.net) (sym named.1) (naming-news d.net e.file.bytes e.file.named)
  | inr gone ↦ subst (SameNews d.net) (sym gone.1) (refl, refl)
]

some-news : (n i : ℕ) (d new : Disks) → EndsSome n i d new → SameNews d.net new.net
some-news zero i d new same = subst (λ (x : Disks). SameNews d.net x.net) (sym same) (refl, refl)
some-news (suc n) i d new (next, first, later) =
    let one = one-news i d next first in
    let more = some-news n i next new later in
    (more.0 ∙ one.0, more.1 ∙ one.1)

pub scan-news : (stamp : Stamp) (i : ℕ) (d new : Disks) → ScansFar stamp i d new → SameNews d.net new.net
scan-news stamp i d new (n, ended, ends, inl same) = subst (λ (x : Disks). SameNews d.net x.net) (sym same) (some-news n i d ended ends)
scan-news stamp i d new (n, ended, ends, inr (inl writes)) = subst (λ (x : Disks). SameNews d.net x.net) (sym writes.becomes) (some-news n i d ended ends)
scan-news stamp i d new (n, ended, ends, inr (inr (m, done, moves, names))) =
    let before = some-news n i d ended ends in
    let after = some-news m i done new names in
    (after.0 ∙ ap (λ (x : Disks). x.net.delivered) moves.becomes ∙ before.0, after.1 ∙ ap (λ (x : Disks). x.net.postings) moves.becomes ∙ before.1)
