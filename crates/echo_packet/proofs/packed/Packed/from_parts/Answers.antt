use Rattle.std.proofs.Common.{◌≡◌, ◌≤◌, List, ℕ, arith, length, subst, sym}
use Rattle.echo_packet.specs.{Header.AreBytes, Message.HasNoZero, Message.IsString}
use Rattle.echo_packet.proofs.packed.Packed.from_parts.Goals as goal

stands : (most : ℕ) (s view items : List ℕ) → items ≡ s → view ≡ s → AreBytes view → HasNoZero s → length s ≤ most → IsString most items
stands most s view items is seen bytes no_zero room =
    subst (IsString most) (sym is) (record { bytes = subst AreBytes seen bytes; no_zero = no_zero; room = room })

pub invariant_of-result : goal.invariant_of-result
invariant_of-result c = grind (arith, stands)
