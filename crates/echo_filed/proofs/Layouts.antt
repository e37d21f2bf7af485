-- Fields of a file, with a layout that separates each field from the next bytes.
use Rattle.std.proofs.Common.{◌≡◌, ℕ, suc, ◌+◌, ◌-◌, ◌*◌, ◌/◌, ◌%◌, ◌^◌, ◌<◌, ◌≤◌, nat_lt, cond, List, [], ◌∷◌, ◌++◌, length, take, drop, replicate, refl, sym, ap, subst, ◌∙◌, Option, Some, None, arith, lit<}
use Rattle.std.proofs.lemmas.Bool.{cond-false, cond_both, le-ltb, ltb-false, ltb-true}
use Rattle.std.proofs.lemmas.List.{append_assoc, append-nil, drop_at, length-append, length-replicate, length-take-le, take-append-drop, take_at}
use Rattle.echo_packet.specs.Header.{AreBytes, word}
use Rattle.echo_packet.proofs.Headers.{AreBytes-drop}
use Rattle.echo_filed.specs.Stored.{long, long_at}
pub use Rattle.echo_filed.specs.Fields.{EndsIn, HasLength, IsByte, IsLong, IsWord, itself, one_byte}
use Rattle.echo_filed.proofs.Choices.{same_some}

pub record Took (X : Type 0) (Fits : X → Type 0) (write : X → List ℕ) (bytes : List ℕ) (found : X × List ℕ) : Type 0 where
  pub fits : Fits found.0
  pub whole : bytes ≡ write found.0 ++ found.1
  pub rest_bytes : AreBytes found.1

-- a field: reading from a front returns the written value, or the bytes end inside it
pub record Layout (X : Type 0) (Fits : X → Type 0) (write : X → List ℕ) : Type 0 where
  pub read : List ℕ → Option (X × List ℕ)
  pub takes : (bytes : List ℕ) (found : X × List ℕ) → AreBytes bytes → read bytes ≡ Some found → Took X Fits write bytes found
  pub again : (x : X) (rest : List ℕ) → Fits x → read (write x ++ rest) ≡ Some (x, rest)
  pub cuts : (bytes : List ℕ) → AreBytes bytes → read bytes ≡ None → EndsIn X Fits write bytes
  pub any : X
  pub any_fits : Fits any

pub inside_unread : (X : Type 0) (Fits : X → Type 0) (write : X → List ℕ) (field : Layout X Fits write) (bytes : List ℕ) → AreBytes bytes
    → (o : Option (X × List ℕ)) → field.read bytes ≡ o → EndsIn X Fits write bytes → o ≡ None
inside_unread X Fits write field bytes are None e h = refl
inside_unread X Fits write field bytes are (Some found) e h =
    let took = field.takes bytes found are e in
    let longer : write h.value ++ [] ≡ write found.0 ++ (found.1 ++ h.missing) =
    append-nil (write h.value) ∙ h.cut ∙ ap (λ bs. bs ++ h.missing) took.whole ∙ append_assoc (write found.0) found.1 h.missing in
    let cut : X × List ℕ = (h.value, []) in
    let taken : X × List ℕ = (found.0, found.1 ++ h.missing) in
    let one : Some cut ≡ Some taken =
    sym (field.again h.value [] h.fits) ∙ ap field.read longer ∙ field.again found.0 (found.1 ++ h.missing) took.fits in
    let rests : [] ≡ found.1 ++ h.missing = ap (λ (p : X × List ℕ). p.1) (same_some cut taken one) in
    let some = h.some in
    absurd (omega (arith, ap length rests, length-append found.1 h.missing))

read_byte : List ℕ → Option (ℕ × List ℕ)
read_byte [] = None
read_byte (b ∷ rest) = Some (b, rest)

pub byte_field : Layout ℕ IsByte one_byte
unfolding read_byte
byte_field = record { read = read_byte; takes = takes; again = λ b rest h. refl; cuts = cuts; any = 0; any_fits = lit< tt }
  where
    takes : (bytes : List ℕ) (found : ℕ × List ℕ) → AreBytes bytes → read_byte bytes ≡ Some found → Took ℕ IsByte one_byte bytes found
    takes [] found are h = absurd (cc)
    takes (b ∷ rest) found are h =
        subst (Took ℕ IsByte one_byte (b ∷ rest)) (same_some (b, rest) found h)
        (record { fits = are 0; whole = refl; rest_bytes = λ i. are (suc i) })

    cuts : (bytes : List ℕ) → AreBytes bytes → read_byte bytes ≡ None → EndsIn ℕ IsByte one_byte bytes
    cuts [] are h = record { value = 0; fits = lit< tt; missing = 0 ∷ []; some = lit< tt; cut = refl }
    cuts (b ∷ rest) are h = absurd (cc)

read_word : List ℕ → Option (ℕ × List ℕ)
read_word (a ∷ (b ∷ rest)) = Some (a + 256 * b, rest)
read_word _ = None

pub word_field : Layout ℕ IsWord word
unfolding read_word
word_field = record { read = read_word; takes = takes; again = again; cuts = cuts; any = 0; any_fits = lit< tt }
  where
    takes : (bytes : List ℕ) (found : ℕ × List ℕ) → AreBytes bytes → read_word bytes ≡ Some found → Took ℕ IsWord word bytes found
    takes [] found are h = absurd (cc)
    takes (a ∷ []) found are h = absurd (cc)
    takes (a ∷ (b ∷ rest)) found are h =
        let low : a < 256 = are 0 in
        let high : b < 256 = are 1 in
        let first : a ≡ (a + 256 * b) % 256 = omega arith in
        let second : b ≡ (a + 256 * b) / 256 = omega arith in
        subst (Took ℕ IsWord word (a ∷ (b ∷ rest))) (same_some (a + 256 * b, rest) found h)
        (record { fits = omega arith; whole = λ i. first i ∷ (second i ∷ rest); rest_bytes = λ i. are (suc (suc i)) })

    again : (n : ℕ) (rest : List ℕ) → IsWord n → read_word (word n ++ rest) ≡ Some (n, rest)
    again n rest h =
        let same : n % 256 + 256 * (n / 256) ≡ n = omega arith in
        ap (λ (k : ℕ). Some (k, rest)) same

    cuts : (bytes : List ℕ) → AreBytes bytes → read_word bytes ≡ None → EndsIn ℕ IsWord word bytes
    cuts [] are h = record { value = 0; fits = lit< tt; missing = 0 ∷ (0 ∷ []); some = lit< tt; cut = refl }
    cuts (a ∷ []) are h =
        let low : a < 256 = are 0 in
        let first : a % 256 ≡ a = omega arith in
        let second : a / 256 ≡ 0 = omega arith in
        record { value = a; fits = omega arith; missing = 0 ∷ []; some = lit< tt; cut = λ i. first i ∷ (second i ∷ []) }
    cuts (a ∷ (b ∷ rest)) are h = absurd (cc)

read_long : List ℕ → Option (ℕ × List ℕ)
read_long (a ∷ (b ∷ (c ∷ (d ∷ rest)))) = Some (a + 256 * b + 65536 * (c + 256 * d), rest)
read_long _ = None

long_is : (a b c d : ℕ) → a < 256 → b < 256 → c < 256 → d < 256 → a ∷ (b ∷ (c ∷ (d ∷ []))) ≡ long (a + 256 * b + 65536 * (c + 256 * d))
long_is a b c d ha hb hc hd = grind arith

long_size : (a b c d : ℕ) → a < 256 → b < 256 → c < 256 → d < 256 → a + 256 * b + 65536 * (c + 256 * d) < 2 ^ 32
long_size a b c d ha hb hc hd = omega arith

pub long_front : (bytes : List ℕ) → AreBytes bytes → 4 ≤ length bytes → (bytes ≡ long (long_at 0 bytes) ++ drop 4 bytes) × (long_at 0 bytes < 2 ^ 32)
long_front bytes h1 h2 = grind (arith, long_is, long_size)

pub long_value : (n : ℕ) → n % 65536 % 256 + 256 * (n % 65536 / 256) + 65536 * (n / 65536 % 256 + 256 * (n / 65536 / 256)) ≡ n
long_value n = grind arith

pub long_field : Layout ℕ IsLong long
unfolding read_long
long_field = record { read = read_long; takes = takes; again = again; cuts = cuts; any = 0; any_fits = lit< tt }
  where
    takes : (bytes : List ℕ) (found : ℕ × List ℕ) → AreBytes bytes → read_long bytes ≡ Some found → Took ℕ IsLong long bytes found
    takes [] found are h = absurd (cc)
    takes (a ∷ []) found are h = absurd (cc)
    takes (a ∷ (b ∷ [])) found are h = absurd (cc)
    takes (a ∷ (b ∷ (c ∷ []))) found are h = absurd (cc)
    takes (a ∷ (b ∷ (c ∷ (d ∷ rest)))) found are h =
        subst (Took ℕ IsLong long (a ∷ (b ∷ (c ∷ (d ∷ rest))))) (same_some (a + 256 * b + 65536 * (c + 256 * d), rest) found h)
        (record {
          fits = long_size a b c d (are 0) (are 1) (are 2) (are 3);
          whole = ap (λ bs. bs ++ rest) (long_is a b c d (are 0) (are 1) (are 2) (are 3));
          rest_bytes = λ i. are (suc (suc (suc (suc i))));
        })

    again : (n : ℕ) (rest : List ℕ) → IsLong n → read_long (long n ++ rest) ≡ Some (n, rest)
    again n rest h = ap (λ (k : ℕ). Some (k, rest)) (long_value n)

    inside : (a b c d : ℕ) → a < 256 → b < 256 → c < 256 → d < 256 → (bytes missing : List ℕ) → 0 < length missing
        → a ∷ (b ∷ (c ∷ (d ∷ []))) ≡ bytes ++ missing → EndsIn ℕ IsLong long bytes
    inside a b c d ha hb hc hd bytes missing some e = record {
      value = a + 256 * b + 65536 * (c + 256 * d);
      fits = long_size a b c d ha hb hc hd;
      missing = missing;
      some = some;
      cut = sym (long_is a b c d ha hb hc hd) ∙ e;
    }

    cuts : (bytes : List ℕ) → AreBytes bytes → read_long bytes ≡ None → EndsIn ℕ IsLong long bytes
    cuts [] are h = inside 0 0 0 0 (lit< tt) (lit< tt) (lit< tt) (lit< tt) [] (0 ∷ (0 ∷ (0 ∷ (0 ∷ [])))) (lit< tt) refl
    cuts (a ∷ []) are h = inside a 0 0 0 (are 0) (lit< tt) (lit< tt) (lit< tt) (a ∷ []) (0 ∷ (0 ∷ (0 ∷ []))) (lit< tt) refl
    cuts (a ∷ (b ∷ [])) are h = inside a b 0 0 (are 0) (are 1) (lit< tt) (lit< tt) (a ∷ (b ∷ [])) (0 ∷ (0 ∷ [])) (lit< tt) refl
    cuts (a ∷ (b ∷ (c ∷ []))) are h = inside a b c 0 (are 0) (are 1) (are 2) (lit< tt) (a ∷ (b ∷ (c ∷ []))) (0 ∷ []) (lit< tt) refl
    cuts (a ∷ (b ∷ (c ∷ (d ∷ rest)))) are h = absurd (cc)

abbrev pub IsNothing : List ℕ → Type 0
IsNothing t = t ≡ []

abbrev pub no_bytes : List ℕ → List ℕ
no_bytes t = []

pub nothing_field : Layout (List ℕ) IsNothing no_bytes
nothing_field = record {
  read = λ bytes. Some ([], bytes);
  takes = λ bytes found are h. subst (Took (List ℕ) IsNothing no_bytes bytes) (same_some ([], bytes) found h) (record { fits = refl; whole = refl; rest_bytes = are });
  again = λ t rest h. ap (λ (s : List ℕ). Some (s, rest)) (sym h);
  cuts = λ bytes are h. absurd (cc);
  any = [];
  any_fits = refl;
}

abbrev front_of : ℕ → List ℕ → Option (List ℕ × List ℕ)
front_of n bytes = cond (nat_lt (length bytes) n) None (Some (take n bytes, drop n bytes))

front_some : (n : ℕ) (bytes : List ℕ) (found : List ℕ × List ℕ) → front_of n bytes ≡ Some found → (n ≤ length bytes) × ((take n bytes, drop n bytes) ≡ found)
front_some n bytes found h = grind (arith, cond_both, nat_lt, ltb-false, same_some)

front_none : (n : ℕ) (bytes : List ℕ) → front_of n bytes ≡ None → length bytes < n
front_none n bytes h =
    cond_both (nat_lt (length bytes) n) None (Some (take n bytes, drop n bytes)) (λ o. o ≡ None → length bytes < n) (λ short is. ltb-true (length bytes) n short) (λ long is. absurd (cc)) h

front_again : (n : ℕ) (s rest : List ℕ) → length s ≡ n → front_of n (s ++ rest) ≡ Some (s, rest)
front_again n s rest e = grind (arith, length-append, take_at, drop_at, cond-false, nat_lt, le-ltb)

filled : (n : ℕ) (bytes : List ℕ) → length bytes < n → length (bytes ++ replicate (n - length bytes) 0) ≡ n
filled n bytes short = omega (arith, length-append bytes (replicate (n - length bytes) 0), length-replicate {A = ℕ} (n - length bytes) 0)

pub fixed_field : (n : ℕ) → Layout (List ℕ) (HasLength n) itself
fixed_field n = record {
  read = front_of n;
  takes = λ bytes found are h.
      let f = front_some n bytes found h in
      subst (Took (List ℕ) (HasLength n) itself bytes) f.1
      (record { fits = length-take-le n bytes f.0; whole = sym (take-append-drop n bytes); rest_bytes = AreBytes-drop n bytes are });
  again = λ s rest h. front_again n s rest h;
  cuts = λ bytes are h.
      let short = front_none n bytes h in
      record {
        value = bytes ++ replicate (n - length bytes) 0;
        fits = filled n bytes short;
        missing = replicate (n - length bytes) 0;
        some = omega (arith, length-replicate {A = ℕ} (n - length bytes) 0);
        cut = refl;
      };
  any = replicate n 0;
  any_fits = length-replicate {A = ℕ} n 0;
}

second_read : {X Y : Type 0} → X → Option (Y × List ℕ) → Option ((X × Y) × List ℕ)
second_read x None = None
second_read x (Some found) = Some ((x, found.0), found.1)

both_read : {X Y : Type 0} → (X → List ℕ → Option (Y × List ℕ)) → Option (X × List ℕ) → Option ((X × Y) × List ℕ)
both_read next None = None
both_read next (Some found) = second_read found.0 (next found.0 found.1)

abbrev pub BothFit : {X Y : Type 0} → (X → Type 0) → (X → Y → Type 0) → X × Y → Type 0
BothFit F G p = F p.0 × G p.0 p.1

abbrev pub both_bytes : {X Y : Type 0} → (X → List ℕ) → (X → Y → List ℕ) → X × Y → List ℕ
both_bytes w v p = w p.0 ++ v p.0 p.1

both_takes : (X Y : Type 0) (F : X → Type 0) (w : X → List ℕ) (G : X → Y → Type 0) (v : X → Y → List ℕ) (first : Layout X F w) (second : (x : X) → Layout Y (G x) (v x))
    (bytes : List ℕ) (found : (X × Y) × List ℕ) → AreBytes bytes → (o : Option (X × List ℕ)) → first.read bytes ≡ o → both_read (λ x. (second x).read) o ≡ Some found
    → Took (X × Y) (BothFit F G) (both_bytes w v) bytes found
unfolding both_read second_read
both_takes X Y F w G v first second bytes found are None e h = absurd (cc)
both_takes X Y F w G v first second bytes found are (Some one) e h =
    second_takes ((second one.0).read one.1) refl h
  where
    took : Took X F w bytes one
    took = first.takes bytes one are e

    second_takes : (o : Option (Y × List ℕ)) → (second one.0).read one.1 ≡ o → second_read one.0 o ≡ Some found → Took (X × Y) (BothFit F G) (both_bytes w v) bytes found
    second_takes None e' g = absurd (cc)
    second_takes (Some other) e' g =
        let more = (second one.0).takes one.1 other took.rest_bytes e' in
        subst (Took (X × Y) (BothFit F G) (both_bytes w v) bytes) (same_some ((one.0, other.0), other.1) found g)
        (record {
          fits = (took.fits, more.fits);
          whole = took.whole ∙ ap (λ bs. w one.0 ++ bs) more.whole ∙ sym (append_assoc (w one.0) (v one.0 other.0) other.1);
          rest_bytes = more.rest_bytes;
        })

pub ends_first : {X Y : Type 0} {F : X → Type 0} {w : X → List ℕ} {G : X → Y → Type 0} {v : X → Y → List ℕ} → Layout X F w → ((x : X) → Layout Y (G x) (v x))
    → (bytes : List ℕ) → EndsIn X F w bytes → EndsIn (X × Y) (BothFit F G) (both_bytes w v) bytes
ends_first {X} {Y} {F} {w} {G} {v} first second bytes inside =
    let some = inside.some in
    let next = second inside.value in
    let more : List ℕ = v inside.value next.any in
    record {
      value = (inside.value, next.any);
      fits = (inside.fits, next.any_fits);
      missing = inside.missing ++ more;
      some = omega (arith, length-append inside.missing more);
      cut = ap (λ bs. bs ++ more) inside.cut ∙ append_assoc bytes inside.missing more;
    }

pub ends_second : {X Y : Type 0} {F : X → Type 0} {w : X → List ℕ} {G : X → Y → Type 0} {v : X → Y → List ℕ} → Layout X F w → ((x : X) → Layout Y (G x) (v x))
    → (x : X) (bytes : List ℕ) → F x → EndsIn Y (G x) (v x) bytes → EndsIn (X × Y) (BothFit F G) (both_bytes w v) (w x ++ bytes)
ends_second {X} {Y} {F} {w} {G} {v} first second x bytes fits inside = record {
  value = (x, inside.value);
  fits = (fits, inside.fits);
  missing = inside.missing;
  some = inside.some;
  cut = ap (λ bs. w x ++ bs) inside.cut ∙ sym (append_assoc (w x) bytes inside.missing);
}

both_cuts : (X Y : Type 0) (F : X → Type 0) (w : X → List ℕ) (G : X → Y → Type 0) (v : X → Y → List ℕ) (first : Layout X F w) (second : (x : X) → Layout Y (G x) (v x))
    (bytes : List ℕ) → AreBytes bytes → (o : Option (X × List ℕ)) → first.read bytes ≡ o → both_read (λ x. (second x).read) o ≡ None
    → EndsIn (X × Y) (BothFit F G) (both_bytes w v) bytes
unfolding both_read second_read
both_cuts X Y F w G v first second bytes are None e h = ends_first first second bytes (first.cuts bytes are e)
both_cuts X Y F w G v first second bytes are (Some one) e h = second_cuts ((second one.0).read one.1) refl h
  where
    took : Took X F w bytes one
    took = first.takes bytes one are e

    second_cuts : (o : Option (Y × List ℕ)) → (second one.0).read one.1 ≡ o → second_read one.0 o ≡ None → EndsIn (X × Y) (BothFit F G) (both_bytes w v) bytes
    second_cuts None e' g =
        subst (EndsIn (X × Y) (BothFit F G) (both_bytes w v)) (sym took.whole)
        (ends_second first second one.0 one.1 took.fits ((second one.0).cuts one.1 took.rest_bytes e'))
    second_cuts (Some other) e' g = absurd (cc)

pub both_by : {X Y : Type 0} {F : X → Type 0} {w : X → List ℕ} {G : X → Y → Type 0} {v : X → Y → List ℕ} → Layout X F w → ((x : X) → Layout Y (G x) (v x))
    → Layout (X × Y) (BothFit F G) (both_bytes w v)
unfolding both_read second_read
both_by {X} {Y} {F} {w} {G} {v} first second = record {
  read = λ bytes. both_read (λ x. (second x).read) (first.read bytes);
  takes = λ bytes found are h. both_takes X Y F w G v first second bytes found are (first.read bytes) refl h;
  again = again;
  cuts = λ bytes are h. both_cuts X Y F w G v first second bytes are (first.read bytes) refl h;
  any = (first.any, (second first.any).any);
  any_fits = (first.any_fits, (second first.any).any_fits);
}
  where
    again : (p : X × Y) (rest : List ℕ) → BothFit F G p → both_read (λ x. (second x).read) (first.read (both_bytes w v p ++ rest)) ≡ Some (p, rest)
    again p rest h =
        ap (λ bs. both_read (λ x. (second x).read) (first.read bs)) (append_assoc (w p.0) (v p.0 p.1) rest)
        ∙ ap (both_read (λ x. (second x).read)) (first.again p.0 (v p.0 p.1 ++ rest) h.0)
        ∙ ap (second_read p.0) ((second p.0).again p.1 rest h.1)

pub both : {X Y : Type 0} {F : X → Type 0} {w : X → List ℕ} {G : Y → Type 0} {v : Y → List ℕ} → Layout X F w → Layout Y G v
    → Layout (X × Y) (BothFit F (λ x. G)) (both_bytes w (λ x. v))
both first second = both_by first (λ x. second)

abbrev pub LengthFits : (ℕ → Type 0) → List ℕ → Type 0
LengthFits F s = F (length s)

abbrev pub length_first : (ℕ → List ℕ) → List ℕ → List ℕ
length_first w s = w (length s) ++ s

counted_read : Option (ℕ × List ℕ) → Option (List ℕ × List ℕ)
counted_read None = None
counted_read (Some found) = front_of found.0 found.1

counted_takes : (F : ℕ → Type 0) (w : ℕ → List ℕ) (number : Layout ℕ F w) (bytes : List ℕ) (found : List ℕ × List ℕ) → AreBytes bytes → (o : Option (ℕ × List ℕ)) → number.read bytes ≡ o
    → counted_read o ≡ Some found → Took (List ℕ) (LengthFits F) (length_first w) bytes found
unfolding counted_read
counted_takes F w number bytes found are None e h = absurd (cc)
counted_takes F w number bytes found are (Some one) e h =
    let took = number.takes bytes one are e in
    let f = front_some one.0 one.1 found h in
    let size : length (take one.0 one.1) ≡ one.0 = length-take-le one.0 one.1 f.0 in
    let P : (List ℕ × List ℕ) → Type 0 = Took (List ℕ) (LengthFits F) (length_first w) bytes in
    subst P f.1
    (record {
      fits = subst F (sym size) took.fits;
      whole = took.whole ∙ ap (λ bs. w one.0 ++ bs) (sym (take-append-drop one.0 one.1)) ∙ sym (append_assoc (w one.0) (take one.0 one.1) (drop one.0 one.1))
          ∙ ap (λ (n : ℕ). (w n ++ take one.0 one.1) ++ drop one.0 one.1) (sym size);
      rest_bytes = AreBytes-drop one.0 one.1 took.rest_bytes;
    })

pub ends_length : (F : ℕ → Type 0) (w : ℕ → List ℕ) (bytes : List ℕ) → EndsIn ℕ F w bytes → EndsIn (List ℕ) (LengthFits F) (length_first w) bytes
ends_length F w bytes inside =
    let n : ℕ = inside.value in
    let some = inside.some in
    let more : List ℕ = replicate n 0 in
    let size : length more ≡ n = length-replicate {A = ℕ} n 0 in
    record {
      value = more;
      fits = subst F (sym size) inside.fits;
      missing = inside.missing ++ more;
      some = omega (arith, length-append inside.missing more);
      cut = ap (λ (k : ℕ). w k ++ more) size ∙ ap (λ bs. bs ++ more) inside.cut ∙ append_assoc bytes inside.missing more;
    }

pub ends_string : (F : ℕ → Type 0) (w : ℕ → List ℕ) (n : ℕ) (bytes : List ℕ) → F n → EndsIn (List ℕ) (HasLength n) itself bytes
    → EndsIn (List ℕ) (LengthFits F) (length_first w) (w n ++ bytes)
ends_string F w n bytes fits inside = grind (arith, append_assoc)

counted_cuts : (F : ℕ → Type 0) (w : ℕ → List ℕ) (number : Layout ℕ F w) (bytes : List ℕ) → AreBytes bytes → (o : Option (ℕ × List ℕ)) → number.read bytes ≡ o
    → counted_read o ≡ None → EndsIn (List ℕ) (LengthFits F) (length_first w) bytes
unfolding counted_read fixed_field
counted_cuts F w number bytes are None e h = ends_length F w bytes (number.cuts bytes are e)
counted_cuts F w number bytes are (Some one) e h =
    let took = number.takes bytes one are e in
    subst (EndsIn (List ℕ) (LengthFits F) (length_first w)) (sym took.whole)
    (ends_string F w one.0 one.1 took.fits ((fixed_field one.0).cuts one.1 took.rest_bytes h))

pub counted_field : (F : ℕ → Type 0) (w : ℕ → List ℕ) → F 0 → Layout ℕ F w → Layout (List ℕ) (LengthFits F) (length_first w)
unfolding counted_read
counted_field F w zero_fits number = record {
  read = λ bytes. counted_read (number.read bytes);
  takes = λ bytes found are h. counted_takes F w number bytes found are (number.read bytes) refl h;
  again = again;
  cuts = λ bytes are h. counted_cuts F w number bytes are (number.read bytes) refl h;
  any = [];
  any_fits = zero_fits;
}
  where
    again : (s rest : List ℕ) → LengthFits F s → counted_read (number.read (length_first w s ++ rest)) ≡ Some (s, rest)
    again s rest h =
        ap (λ bs. counted_read (number.read bs)) (append_assoc (w (length s)) s rest)
        ∙ ap counted_read (number.again (length s) (s ++ rest) h)
        ∙ front_again (length s) s rest refl

reported_read : {X Y : Type 0} → (X → Y) → Option (X × List ℕ) → Option (Y × List ℕ)
reported_read f None = None
reported_read f (Some found) = Some (f found.0, found.1)

pub record Tells (X Y : Type 0) (F : X → Type 0) (w : X → List ℕ) (G : Y → Type 0) (v : Y → List ℕ) : Type 0 where
  pub to : X → Y
  pub from : Y → X
  pub back : (y : Y) → to (from y) ≡ y
  pub to_fits : (x : X) → F x → G (to x)
  pub from_fits : (y : Y) → G y → F (from y)
  pub same : (x : X) → w x ≡ v (to x)

pub reported_field : {X Y : Type 0} {F : X → Type 0} {w : X → List ℕ} {G : Y → Type 0} {v : Y → List ℕ} → Tells X Y F w G v → Layout X F w → Layout Y G v
unfolding reported_read
reported_field {X} {Y} {F} {w} {G} {v} t field = record {
  read = λ bytes. reported_read t.to (field.read bytes);
  takes = λ bytes found are h. takes bytes found are (field.read bytes) refl h;
  again = again;
  cuts = λ bytes are h. cuts bytes are (field.read bytes) refl h;
  any = t.to field.any;
  any_fits = t.to_fits field.any field.any_fits;
}
  where
    takes : (bytes : List ℕ) (found : Y × List ℕ) → AreBytes bytes → (o : Option (X × List ℕ)) → field.read bytes ≡ o → reported_read t.to o ≡ Some found → Took Y G v bytes found
    takes bytes found are None e h = absurd (cc)
    takes bytes found are (Some one) e h =
        let took = field.takes bytes one are e in
        subst (Took Y G v bytes) (same_some (t.to one.0, one.1) found h)
        (record { fits = t.to_fits one.0 took.fits; whole = took.whole ∙ ap (λ bs. bs ++ one.1) (t.same one.0); rest_bytes = took.rest_bytes })

    again : (y : Y) (rest : List ℕ) → G y → reported_read t.to (field.read (v y ++ rest)) ≡ Some (y, rest)
    again y rest h =
        let bytes : v y ≡ w (t.from y) = ap v (sym (t.back y)) ∙ sym (t.same (t.from y)) in
        let y' = t.back y in
        ap (λ bs. reported_read t.to (field.read (bs ++ rest))) bytes ∙ ap (reported_read t.to) (field.again (t.from y) rest (t.from_fits y h)) ∙ (λ i. Some (y' i, rest))

    cuts : (bytes : List ℕ) → AreBytes bytes → (o : Option (X × List ℕ)) → field.read bytes ≡ o → reported_read t.to o ≡ None → EndsIn Y G v bytes
    cuts bytes are None e h =
        let inside = field.cuts bytes are e in
        record {
          value = t.to inside.value;
          fits = t.to_fits inside.value inside.fits;
          missing = inside.missing;
          some = inside.some;
          cut = sym (t.same inside.value) ∙ inside.cut;
        }
    cuts bytes are (Some one) e h = absurd (cc)
