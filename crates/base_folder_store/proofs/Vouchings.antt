-- A message that was read alone, and its digest.
use Rattle.std.{proofs.{Common.{◌≡◌, ◌∙◌, ◌≤◌, ℕ, List, drop, length, nat_eq, sym, take, arith}, lemmas.Bool.{eq-eqb, eqb-true}}, specs.Prelude.{◌↔◌, IsTrue}}
use Rattle.echo_filed.specs.{Stored.{Stored, stored_bytes}, declared.stored.Version.TheVariants.Second}
use Rattle.base_store.specs.Keys.{HasBytesOf, place_at, place_behind}
use Rattle.base_folder_store.specs.Vouched.{AreBytesAt}

pub same_number : (a b x y : ℕ) → a ≡ x → b ≡ y → IsTrue (nat_eq a b) ↔ (x ≡ y)
same_number a b x y at behind = (λ h. sym at ∙ eqb-true a b h ∙ behind, λ h. eq-eqb a b (at ∙ h ∙ sym behind))

pub bytes_at : (file keys bytes : List ℕ) (i begins ends all : ℕ) → length file ≡ all → begins ≡ place_at keys i → ends ≡ place_behind file keys i → begins ≤ ends → ends ≤ all → bytes ≡ drop begins (take ends file)
    → AreBytesAt file keys i bytes
bytes_at file keys bytes i begins ends all long at behind order within is = record {
  begins = omega (arith, at, behind, order);
  ends = omega (arith, behind, within, long);
  is = (λ j. drop (sym at j) (take (sym behind j) file)) ∙ sym is;
}

pub bytes_there : (file keys bytes : List ℕ) (i : ℕ) (s : Stored) → AreBytesAt file keys i bytes → bytes ≡ stored_bytes Second s → HasBytesOf file keys i s
bytes_there file keys bytes i s at is = record { begins = at.begins; ends = at.ends; bytes = at.is ∙ is }
