use Rattle.std.proofs.Common.{◌≡◌, ℕ, ◌≤◌, List, length, take, refl, sym, ap, subst, ◌∙◌, Result, Ok, Err, arith}
use Rattle.std.proofs.lemmas.List.{take_all}
use Rattle.echo_packet.specs.Header.{AreBytes}
use Rattle.echo_filed.specs.Filed.{Filed}
use Rattle.base_file.specs.{declared.fault.BaseFault.BaseFault, BaseFile.BaseFaultOf, BaseFile.BaseOf, BaseFile.LoadOf, BaseFile.Loaded}
use Rattle.base_file.proofs.Loading.{only_outcome}

two_loads : (bytes : List ℕ) → AreBytes bytes → (a b : Result Loaded BaseFault) → LoadOf bytes a → LoadOf bytes b → a ≡ b
two_loads bytes are a b h g = only_outcome bytes are a h ∙ sym (only_outcome bytes are b g)

same_ok : (x y : Loaded) (a b : Result Loaded BaseFault) → a ≡ Ok x → b ≡ Ok y → a ≡ b → x ≡ y
same_ok x y a b h g e = cc

pub only_base : (base other : List Filed) (cursor at : ℕ) (bytes : List ℕ) → AreBytes bytes → BaseOf base cursor bytes → BaseOf other at bytes
    → (base ≡ other) × (cursor ≡ at)
only_base base other cursor at bytes are h g =
    let whole : take (length bytes) bytes ≡ bytes = take_all (length bytes) bytes all in
    let P : List Filed → ℕ → List ℕ → Type 0 = λ l n bs. BaseOf l n bs in
    let one = same_ok (base, cursor, length bytes) (other, at, length bytes) _ _ refl refl
    (two_loads bytes are (Ok (base, cursor, length bytes)) (Ok (other, at, length bytes)) (all, subst (P base cursor) (sym whole) h) (all, subst (P other at) (sym whole) g)) in
    (ap (λ (x : Loaded). x.0) one, ap (λ (x : Loaded). x.1) one)
  where
    all : length bytes ≤ length bytes
    all = omega arith

pub only_length : (base other : List Filed) (cursor at n m : ℕ) (bytes : List ℕ) → AreBytes bytes → n ≤ length bytes → m ≤ length bytes
    → BaseOf base cursor (take n bytes) → BaseOf other at (take m bytes) → n ≡ m
only_length base other cursor at n m bytes are room room' h g =
    ap (λ (x : Loaded). x.2) (same_ok (base, cursor, n) (other, at, m) _ _ refl refl (two_loads bytes are (Ok (base, cursor, n)) (Ok (other, at, m)) (room, h) (room', g)))

pub ok_no_err : (x : Loaded) (f : BaseFault) → Ok x ≡ Err f → ⊥
ok_no_err x f h = cc

pub no_other_fault : (base : List Filed) (cursor n : ℕ) (bytes : List ℕ) (refused : BaseFault) → AreBytes bytes → n ≤ length bytes
    → BaseOf base cursor (take n bytes) → BaseFaultOf bytes refused → ⊥
no_other_fault base cursor n bytes refused are room h g =
    ok_no_err (base, cursor, n) refused (two_loads bytes are (Ok (base, cursor, n)) (Err refused) (room, h) g)

same_err : (f g : BaseFault) (a b : Result Loaded BaseFault) → a ≡ Err f → b ≡ Err g → a ≡ b → f ≡ g
same_err f g a b h g' e = cc

pub one_fault : (bytes : List ℕ) (refused other : BaseFault) → AreBytes bytes → BaseFaultOf bytes refused → BaseFaultOf bytes other → refused ≡ other
one_fault bytes refused other are h g = same_err refused other _ _ refl refl (two_loads bytes are (Err refused) (Err other) h g)
