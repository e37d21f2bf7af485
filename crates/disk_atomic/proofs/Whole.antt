-- A file that was empty, once its bytes are written.
use Rattle.std.proofs.Common.{◌⊎◌, inl, inr, ◌&&◌, ◌↔◌, Bool, false, true, Result, Ok, Err, ◌≡◌, ℕ, List, [], Option, Some, None, ap, refl, subst, sym, arith}
use Rattle.std.{proofs.lemmas.{List.{append-nil, drop_all}, Slice.Eq.bytes_eq-Decides}, specs.Prelude.{bytes_eq, IsSome, IsTrue, OnOk}}
use Rattle.disk_io.specs.{Disk.bytes_in, Steps.IsWrittenAt}

pub file_of_bytes : (file : Option (List ℕ)) (bytes : List ℕ) → IsSome file → bytes_in file ≡ bytes → file ≡ Some bytes
file_of_bytes None bytes there is = absurd (cc there)
file_of_bytes (Some found) bytes there is = ap (λ (l : List ℕ). Some l) is

pub written_whole : (before after : Option (List ℕ)) (bytes : List ℕ) → before ≡ Some [] → IsSome after → IsWrittenAt (bytes_in before) 0 bytes (bytes_in after) → after ≡ Some bytes
written_whole before after bytes empty there written = grind (arith, drop_all, file_of_bytes, append-nil)

pub some_is_there : (file : Option (List ℕ)) (bytes : List ℕ) → file ≡ Some bytes → IsSome file
some_is_there file bytes is = subst (λ f. IsSome f) (sym is) refl

pub not_there : (file : Option (List ℕ)) (found : Bool) → (IsTrue found ↔ IsSome file) → found ≡ false → file ≡ None
not_there None found tests is = refl
not_there (Some bytes) found tests is = let yes : found ≡ true = tests.1 refl in absurd (cc (yes, is))

pub there_unless : (file : Option (List ℕ)) (free : Bool) → (IsTrue free ↔ (file ≡ None)) → free ≡ false → IsSome file
there_unless None free tests is = let yes : free ≡ true = tests.1 refl in absurd (cc (yes, is))
there_unless (Some bytes) free tests is = refl

pub none_is_not_there : (file : Option (List ℕ)) → file ≡ None → IsSome file → ⊥
none_is_not_there file none some = grind arith

pub same_files : (one other : Option (List ℕ)) (first second : List ℕ) (same : Bool) → IsSome one → IsSome other → first ≡ bytes_in one → second ≡ bytes_in other
    → same ≡ bytes_eq first second → (same ≡ true) ↔ (one ≡ other)
same_files one other first second same here there is_one is_other tests = grind (arith, bytes_eq-Decides, file_of_bytes)

pub on_ok_any : {T E P : Type 0} (result : Result T E) → P → OnOk result P
on_ok_any (Ok value) is = is
on_ok_any (Err error) is = tt

pub one_false : (a b : Bool) → (a && b) ≡ false → (a ≡ false) ⊎ (b ≡ false)
one_false true b is = inr is
one_false false b is = inl refl
