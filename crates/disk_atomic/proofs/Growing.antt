use Rattle.std.{proofs.Common.{◌≡◌, ℕ, zero, suc, ◌+◌, ◌<◌, List, [], ◌∷◌, ◌++◌, length, Some, arith, length-append}, specs.Prelude.{IsSome, slice_index}}
use Rattle.std.proofs.lemmas.List.{append-nil, drop_all, take_all}
use Rattle.disk_io.specs.{Disk.DiskState, Disk.bytes_in, Fixed.AreBytes, Steps.IsWrittenAt}
use Rattle.disk_atomic.{specs.Changes.IsGrowing, proofs.Whole.some_is_there}

pub are_both : (a b : List ℕ) → AreBytes a → AreBytes b → (i : ℕ) → slice_index (a ++ b) i < 256
are_both [] b one two i = two i
are_both (x ∷ a) b one two zero = one zero
are_both (x ∷ a) b one two (suc i) = are_both a b (λ k. one (suc k)) two i

pub written_behind : (old new bytes : List ℕ) (at : ℕ) → length old ≡ at → IsWrittenAt old at bytes new → new ≡ old ++ bytes
written_behind old new bytes at long written = grind (arith, take_all, drop_all, append-nil)

pub grown : (old new : DiskState) (path bytes : List ℕ) (at end : ℕ) → IsGrowing old path at → bytes_in (new.seen path) ≡ bytes_in (old.seen path) ++ bytes → end ≡ at + length bytes
    → AreBytes bytes → IsSome (new.seen path) → new.is_named path → new.is_alone path → IsGrowing new path end
grown old new path bytes at end was more long are there named alone = grind (arith, length-append, are_both)

pub grows_from_none : (disk : DiskState) (path : List ℕ) → disk.seen path ≡ Some [] → disk.is_named path → disk.is_alone path → IsGrowing disk path 0
grows_from_none disk path empty named alone = grind (arith, some_is_there)
