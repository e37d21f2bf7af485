-- Strings that end in 00, read in pieces.
use Rattle.std.proofs.Common.{◌≡◌, ◌≢◌, ℕ, ◌+◌, ◌≤◌, List, ◌++◌, Option, length, arith}
use Rattle.std.proofs.{lemmas.List.length-append, KnownBytes.Consumes-trans, lemmas.List.Elements.All-append}
use Rattle.std.specs.Io.KnownBytes.{Consumes}
use Rattle.echo_packet.specs.{Message.HasNoZero, Field.Consumed, Field.BreaksString, Field.IsOpen, Field.IsPast}
use Rattle.disk_io.specs.declared.fixed.Broken.{Broken}
use Rattle.disk_io.specs.declared.fixed.Broken.TheVariants as broken

pub record HasRead (most : ℕ) (before after : Option (List ℕ)) (s : List ℕ) (failures_before failures_after : ℕ) : Type 0 where
  pub took : Consumes before after s
  pub no_zero : HasNoZero s
  pub room : length s ≤ most
  pub failed : failures_after ≡ failures_before

pub behind : (most room : ℕ) (a b c : Option (List ℕ)) (s : List ℕ) → Consumes a b s → HasNoZero s → length s + room ≡ most
    → Consumed b c (IsOpen room) → Consumed a c (IsOpen most)
behind most room a b c s first none fits consumed =
    let t = consumed.0 in
    (s ++ t, Consumes-trans a b c s t first consumed.1, (All-append (λ b. b ≢ 0) s t none consumed.2.0, omega (arith, length-append s t, consumed.2.1)))

pub breaks-more : (most room : ℕ) (a b c : Option (List ℕ)) (s : List ℕ) (why : Broken) → Consumes a b s → HasNoZero s → length s + room ≡ most
    → BreaksString room b c why → BreaksString most a c why
breaks-more most room a b c s broken.Cut first none fits consumed = (behind most room a b c s first none fits consumed.0, consumed.1)
breaks-more most room a b c s broken.Device first none fits consumed = behind most room a b c s first none fits consumed
breaks-more most room a b c s broken.Memory first none fits consumed = behind most room a b c s first none fits consumed

pub past-more : (most room : ℕ) (a b c : Option (List ℕ)) (s : List ℕ) → Consumes a b s → HasNoZero s → length s + room ≡ most
    → Consumed b c (IsPast room) → Consumed a c (IsPast most)
past-more most room a b c s first none fits consumed =
    let t = consumed.0 in
    (s ++ t, Consumes-trans a b c s t first consumed.1, (All-append (λ b. b ≢ 0) s t none consumed.2.0, omega (arith, length-append s t, consumed.2.1)))
