-- A message looked up among those of a base.
use Rattle.std.proofs.Common.{◌≡◌, ◌≢◌, ℕ, suc, ◌*◌, ◌/◌, ◌<◌, ◌≤◌, Bool, false, List, [], ◌∷◌, length, get_or, refl, sym, ◌∙◌, arith, ⊎_elim}
use Rattle.std.{proofs.lemmas.Bool.{cases_lt, false_from_ne_true, or_from}, specs.List.list_any}
use Rattle.echo_filed.specs.{Filed.Filed, Stored.stored_bytes, declared.stored.Version.TheVariants.Second}
use Rattle.base_store.specs.Keys.{RepresentsSeat, digest_at}
use Rattle.base_file.specs.Alone.{IsStoredAlone}
use Rattle.base_folder_store.specs.Answers.{HaveDigest, IsStoredOf}

pub none_passes : {X : Type 0} (test : X → Bool) (xs : List X) → ((i : ℕ) (d : X) → i < length xs → test (get_or xs i d) ≡ false) → list_any test xs ≡ false
none_passes test [] each = refl
none_passes test (x ∷ xs) each = or_from (test x) (list_any test xs) (each 0 x (omega arith)) (none_passes test xs (λ i d within. each (suc i) d (omega arith)))

pub other_digest : (test : Filed → Bool) (digest : ℕ) (base : List Filed) (keys : List ℕ) → HaveDigest test digest base keys → (j : ℕ) (d : Filed) → j < length base → digest_at keys j ≢ digest
    → test (get_or base j d) ≡ false
other_digest test digest base keys have j d within other = false_from_ne_true (test (get_or base j d)) (λ passes. other (have j d within passes))

pub stored_of : (base : List Filed) (place : ℕ) (bytes file : List ℕ) → IsStoredOf base place bytes → file ≡ bytes → (d : Filed) → IsStoredAlone (get_or base place d) file
stored_of base place bytes file of same d = record { s = of.s; size = of.size; alone = of.alone; is = sym (of.is d); same = same ∙ of.same }

pub seat_stored : (base : List Filed) (messages keys : List ℕ) (place : ℕ) (bytes : List ℕ) (seat : RepresentsSeat base messages keys place) → bytes ≡ stored_bytes Second seat.s → IsStoredOf base place bytes
seat_stored base messages keys place bytes seat is = record { s = seat.s; size = seat.size; alone = seat.alone; is = seat.is; same = is }

pub some_message : (base : List Filed) (i : ℕ) → i < length base → Filed
some_message h1 i within = grind arith

pub passed_on : (test : Filed → Bool) (digest : ℕ) (base : List Filed) (keys : List ℕ) (below place : ℕ) → length keys ≡ 16 * length base → HaveDigest test digest base keys
    → ((j : ℕ) (d : Filed) → below ≤ j → j < length base → test (get_or base j d) ≡ false) → ((j : ℕ) → place < j → j < below → j < length keys / 16 → digest_at keys j ≢ digest)
    → ((d : Filed) → test (get_or base place d) ≡ false) → (j : ℕ) (d : Filed) → place ≤ j → j < length base → test (get_or base j d) ≡ false
passed_on test digest base keys below place many have behind others fails j d from inside = grind (arith, get_or, other_digest, cases_lt)

pub none_found : (test : Filed → Bool) (digest : ℕ) (base : List Filed) (keys : List ℕ) (below : ℕ) → length keys ≡ 16 * length base → HaveDigest test digest base keys
    → ((j : ℕ) (d : Filed) → below ≤ j → j < length base → test (get_or base j d) ≡ false) → ((j : ℕ) → j < below → j < length keys / 16 → digest_at keys j ≢ digest) → list_any test base ≡ false
none_found test digest base keys below many have behind others =
    none_passes test base (λ j d inside. ⊎_elim (λ (h : j < below). other_digest test digest base keys have j d inside (others j h (omega (arith, many, inside)))) (λ (h : below ≤ j). behind j d h inside) (cases_lt j below))
