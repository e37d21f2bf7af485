-- Equal keys, and the messages after a purge.
use Rattle.std.proofs.Common.{◌≡◌, ℕ, ◌<◌, Bool, true, nat_lt, List, [], ◌∷◌, length, map, refl, ap, subst, Option, Some, None, arith}
use Rattle.std.proofs.lemmas.Bool.{and_from, and_parts, cond-true, ltb-true, lt-ltb, false≢true}
use Rattle.std.specs.{Prelude.bytes_eq, Prelude.filter, List.AllByRecursion, Cmp.Lexicographic.pointwise, Cmp.Lexicographic.pointwise_decides, Cmp.Lexicographic.bytes_decides}
use Rattle.echo_text.specs.{Lines.after_word, Lines.begins, Lines.msgid_word, Lines.trimmed, Echo.msgid_of}
use Rattle.echo_filed.specs.Filed.{Filed, id_line, key_of, key_with, same_key}
use Rattle.echo_filed.specs.{declared.key.Key.Key, declared.key.Key.TheVariants.ByContent, declared.key.Key.TheVariants.ById, Stubs.stub_of, Stubs.stub_with}
use Rattle.echo_filed.proofs.{Choices.found_is, Trims.IsTrim, Trims.after_blank, Trims.trimmed_trim}

pub lines_decide : (a b : List (List ℕ)) → (pointwise bytes_eq a b ≡ true → a ≡ b) × (a ≡ b → pointwise bytes_eq a b ≡ true)
lines_decide = pointwise_decides bytes_decides

same_if : (k l : Key) → same_key k l ≡ true → k ≡ l
same_if (ById tag msgid) (ById tag' msgid') h =
    let parts = and_parts (bytes_eq tag tag') (bytes_eq msgid msgid') h in
    let tags = (bytes_decides tag tag').0 parts.0 in
    let ids = (bytes_decides msgid msgid').0 parts.1 in
    λ i. ById (tags i) (ids i)
same_if (ByContent tag date to from subject kept) (ByContent tag' date' to' from' subject' kept') h =
    let p1 = and_parts (bytes_eq tag tag') _ h in
    let p2 = and_parts (bytes_eq date date') _ p1.1 in
    let p3 = and_parts (bytes_eq to to') _ p2.1 in
    let p4 = and_parts (bytes_eq from from') _ p3.1 in
    let p5 = and_parts (bytes_eq subject subject') (pointwise bytes_eq kept kept') p4.1 in
    let tags = (bytes_decides tag tag').0 p1.0 in
    let dates = (bytes_decides date date').0 p2.0 in
    let tos = (bytes_decides to to').0 p3.0 in
    let froms = (bytes_decides from from').0 p4.0 in
    let subjects = (bytes_decides subject subject').0 p5.0 in
    let kepts = (lines_decide kept kept').0 p5.1 in
    λ i. ByContent (tags i) (dates i) (tos i) (froms i) (subjects i) (kepts i)
same_if (ById tag msgid) (ByContent tag' date to from subject kept) h = absurd (false≢true h)
same_if (ByContent tag date to from subject kept) (ById tag' msgid) h = absurd (false≢true h)

same_own : (k : Key) → same_key k k ≡ true
same_own (ById tag msgid) = and_from (bytes_eq tag tag) (bytes_eq msgid msgid) ((bytes_decides tag tag).1 refl) ((bytes_decides msgid msgid).1 refl)
same_own (ByContent tag date to from subject kept) =
    and_from (bytes_eq tag tag) _ ((bytes_decides tag tag).1 refl)
    (and_from (bytes_eq date date) _ ((bytes_decides date date).1 refl)
    (and_from (bytes_eq to to) _ ((bytes_decides to to).1 refl)
    (and_from (bytes_eq from from) _ ((bytes_decides from from).1 refl)
    (and_from (bytes_eq subject subject) (pointwise bytes_eq kept kept) ((bytes_decides subject subject).1 refl) ((lines_decide kept kept).1 refl)))))

pub same_key_decides : (k l : Key) → (same_key k l ≡ true → k ≡ l) × (k ≡ l → same_key k l ≡ true)
same_key_decides k l = (same_if k l, λ e. let P : Key → Type 0 = λ x. same_key k x ≡ true in subst P e (same_own k))

abbrev some_bytes : List ℕ → Bool
some_bytes found = nat_lt 0 (length found)

pub record IsIdText (id : List ℕ) : Type 0 where
  pub some : 0 < length id
  pub trim : IsTrim id

ids_trim : (lines : List (List ℕ)) → AllByRecursion IsTrim (map (λ line. trimmed (after_word msgid_word line)) lines)
ids_trim [] = tt
ids_trim (line ∷ more) = (trimmed_trim (after_word msgid_word line), ids_trim more)

pub msgid_is_id : (kept : List (List ℕ)) (id : List ℕ) → msgid_of kept ≡ Some id → IsIdText id
unfolding msgid_of
msgid_is_id kept id h =
    let f : List ℕ → List ℕ = λ line. trimmed (after_word msgid_word line) in
    let found = found_is IsTrim some_bytes (map f (filter (begins msgid_word) kept)) (ids_trim (filter (begins msgid_word) kept)) id h in
    record {
      some = ltb-true 0 (length id) found.0;
      trim = found.1;
    }

line_begins : (id : List ℕ) → begins msgid_word (id_line msgid_word id) ≡ true
unfolding begins
line_begins id = refl

line_after : (id : List ℕ) → after_word msgid_word (id_line msgid_word id) ≡ 32 ∷ id
unfolding after_word
line_after id = refl

pub msgid_first : (id : List ℕ) (more : List (List ℕ)) → IsIdText id → msgid_of (id_line msgid_word id ∷ more) ≡ Some id
unfolding msgid_of
msgid_first id more h = grind (arith, line_after, after_blank, cond-true, line_begins, lt-ltb)

stub_key : (m : Filed) (id : Option (List ℕ)) → msgid_of m.echo.kept ≡ id → key_of (stub_with m id) ≡ key_of m
unfolding key_of
stub_key m id h1 = grind (arith, msgid_first, msgid_is_id)

pub stub_keeps_key : (m : Filed) → key_of (stub_of m) ≡ key_of m
unfolding stub_of
stub_keeps_key m = stub_key m (msgid_of m.echo.kept) refl

stub_twice : (m : Filed) (id : Option (List ℕ)) → msgid_of m.echo.kept ≡ id → stub_of (stub_with m id) ≡ stub_with m id
unfolding stub_of
stub_twice m None h = ap (stub_with m) h
stub_twice m (Some id) h = ap (stub_with (stub_with m (Some id))) (msgid_first id [] (msgid_is_id m.echo.kept id h))

pub stub_of_stub : (m : Filed) → stub_of (stub_of m) ≡ stub_of m
unfolding stub_of
stub_of_stub m = stub_twice m (msgid_of m.echo.kept) refl

pub key_reported : (m : Filed) (has : Option (List ℕ)) → has ≡ msgid_of m.echo.kept → key_with m has ≡ key_of m
unfolding key_of
key_reported m has h = ap (key_with m) h
