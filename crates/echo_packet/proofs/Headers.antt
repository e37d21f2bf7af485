-- A header is undone by its bytes, and the bytes by the header.
use Rattle.std.proofs.Common.{◌≡◌, ℕ, append-nil, ◌+◌, ◌*◌, ◌/◌, ◌%◌, ◌^◌, ◌<◌, ◌≤◌, List, [], ◌∷◌, ◌++◌, length, get_or, take, drop, refl, sym, ap, ◌∙◌, arith, add-one, append_assoc, drop-cons, length-append, subst}
use Rattle.std.proofs.lemmas.List.{take_at, length-take, length-drop, drop-drop, get_or-take, get_or-drop, get_or_past, get_or-append-add}
use Rattle.std.proofs.{Math.Seq.take-add, Math.Seq.drop-append-add, lemmas.Bool.cases_lt}
use Rattle.echo_packet.specs.Header.{AreBytes, IsHeader, word, number_at, header_bytes, header_of}
use Rattle.echo_packet.specs.declared.header.Header.{Header}

pub number-word : (n : ℕ) → n % 256 + 256 * (n / 256) ≡ n
number-word n = omega arith

pub word-number : (i : ℕ) (bs : List ℕ) → AreBytes bs → i + 2 ≤ length bs → take 2 (drop i bs) ≡ word (number_at i bs)
word-number i bs bytes room = grind (arith, get_or, drop-cons, add-one)

pub AreBytes-take : (n : ℕ) (bs : List ℕ) → AreBytes bs → AreBytes (take n bs)
AreBytes-take n bs h i = grind (arith, cases_lt, get_or-take, get_or_past, length-take)

pub AreBytes-drop : (n : ℕ) (bs : List ℕ) → AreBytes bs → AreBytes (drop n bs)
AreBytes-drop n bs h i = rw get_or-drop (h (n + i))

pub take_field : (i k n : ℕ) (bs : List ℕ) → take (k + n) (drop i bs) ≡ take k (drop i bs) ++ take n (drop (i + k) bs)
take_field i k n bs = take-add k n (drop i bs) ∙ ap (λ t. take k (drop i bs) ++ take n t) (drop-drop k i bs)

pub drop_past : (n k : ℕ) (s rest : List ℕ) → length s ≡ n → drop (n + k) (s ++ rest) ≡ drop k rest
drop_past n k s rest e = let P : ℕ → Type 0 = λ m. drop (m + k) (s ++ rest) ≡ drop k rest in subst P e (drop-append-add s rest k)

pub word_then : (i n : ℕ) (bs t : List ℕ) → AreBytes bs → i + 2 ≤ length bs → take n (drop (i + 2) bs) ≡ t
    → take (2 + n) (drop i bs) ≡ word (number_at i bs) ++ t
word_then i n bs t bytes room e =
    take_field i 2 n bs ∙ ap (λ f. f ++ take n (drop (i + 2) bs)) (word-number i bs bytes room) ∙ ap (λ r. word (number_at i bs) ++ r) e

word_is : (i n x : ℕ) (bs t : List ℕ) → AreBytes bs → i + 2 ≤ length bs → number_at i bs ≡ x → take n (drop (i + 2) bs) ≡ t
    → take (2 + n) (drop i bs) ≡ word x ++ t
word_is i n x bs t bytes room is e = word_then i n bs t bytes room e ∙ ap (λ m. word m ++ t) is

byte_then : (i n : ℕ) (bs t : List ℕ) → i < length bs → take n (drop (i + 1) bs) ≡ t
    → take (1 + n) (drop i bs) ≡ get_or bs i 0 ∷ t
byte_then i n bs t room e = grind (arith, get_or, drop-cons, take_field)

string_then : (i k n : ℕ) (bs t : List ℕ) → take n (drop (i + k) bs) ≡ t → take (k + n) (drop i bs) ≡ take k (drop i bs) ++ t
string_then i k n bs t e = take_field i k n bs ∙ ap (λ r. take k (drop i bs) ++ r) e

pub header_bytes-header_of : (bs : List ℕ) → AreBytes bs → 58 ≤ length bs → number_at 18 bs ≡ 2
    → header_bytes (header_of bs) ≡ take 58 bs
unfolding header_bytes header_of
header_bytes-header_of bs bytes long type =
    let end = string_then 26 8 24 bs _ (word_then 34 22 bs _ bytes (omega arith) (word_then 36 20 bs _ bytes (omega arith) refl)) in
    let nets = word_then 20 36 bs _ bytes (omega arith) (word_then 22 34 bs _ bytes (omega arith)
    (byte_then 24 33 bs _ (omega arith) (byte_then 25 32 bs _ (omega arith) end))) in
    let kind = word_is 18 38 2 bs _ bytes (omega arith) type nets in
    let moment = word_then 8 48 bs _ bytes (omega arith) (word_then 10 46 bs _ bytes (omega arith)
    (word_then 12 44 bs _ bytes (omega arith) (word_then 14 42 bs _ bytes (omega arith) (word_then 16 40 bs _ bytes (omega arith) kind)))) in
    sym (word_then 0 56 bs _ bytes (omega arith) (word_then 2 54 bs _ bytes (omega arith)
    (word_then 4 52 bs _ bytes (omega arith) (word_then 6 50 bs _ bytes (omega arith) moment))))

pub get_or_past_string : (n k : ℕ) (s rest : List ℕ) → length s ≡ n → get_or (s ++ rest) (n + k) 0 ≡ get_or rest k 0
get_or_past_string n k s rest e =
    let P : ℕ → Type 0 = λ m. get_or (s ++ rest) (m + k) 0 ≡ get_or rest k 0 in subst P e (get_or-append-add s rest k 0)

pub header_of-parts : (h : Header) (rest : List ℕ) → length h.password ≡ 8 → length h.fill ≡ 20 → header_of (header_bytes h ++ rest) ≡ h
unfolding header_bytes header_of
header_of-parts h rest password_len fill_len =
    let bs = header_bytes h ++ rest in
    let zones = word h.orig_zone ++ (word h.dest_zone ++ h.fill) in
    let split = append_assoc h.password zones rest in
    let behind = zones ++ rest in
    let password : take 8 (drop 26 bs) ≡ h.password = rw split (take_at h.password behind 8 password_len) in
    let orig_zone : number_at 34 bs ≡ h.orig_zone =
    rw (split, get_or_past_string 8 0 h.password behind password_len, get_or_past_string 8 1 h.password behind password_len)
    (number-word h.orig_zone) in
    let dest_zone : number_at 36 bs ≡ h.dest_zone =
    rw (split, get_or_past_string 8 2 h.password behind password_len, get_or_past_string 8 3 h.password behind password_len)
    (number-word h.dest_zone) in
    let fill : take 20 (drop 38 bs) ≡ h.fill =
    rw (split, drop_past 8 4 h.password behind password_len) (take_at h.fill rest 20 fill_len) in
    simp (password, orig_zone, dest_zone, fill, number-word)

pub header_of-header_bytes : (h : Header) (rest : List ℕ) → IsHeader h → header_of (header_bytes h ++ rest) ≡ h
header_of-header_bytes h rest fits = header_of-parts h rest fits.password_len fits.fill_len

pub length-header_bytes : (h : Header) → IsHeader h → length (header_bytes h) ≡ 58
unfolding header_bytes
length-header_bytes h fits = omega (arith, length-append h.password (word h.orig_zone ++ (word h.dest_zone ++ h.fill)), fits.password_len, fits.fill_len)

pub number_at-header_bytes : (h : Header) (rest : List ℕ) → number_at 18 (header_bytes h ++ rest) ≡ 2
unfolding header_bytes
number_at-header_bytes h rest = refl

pub number_at-fits : (i : ℕ) (bs : List ℕ) → AreBytes bs → number_at i bs < 2 ^ 16
number_at-fits i bs bytes = let low = bytes i in let high = bytes (i + 1) in omega arith

pub IsHeader-header_of : (bs : List ℕ) → AreBytes bs → 58 ≤ length bs → IsHeader (header_of bs)
unfolding header_of
IsHeader-header_of bs bytes long = record {
  orig_node = number_at-fits 0 bs bytes;
  dest_node = number_at-fits 2 bs bytes;
  year = number_at-fits 4 bs bytes;
  month = number_at-fits 6 bs bytes;
  day = number_at-fits 8 bs bytes;
  hour = number_at-fits 10 bs bytes;
  minute = number_at-fits 12 bs bytes;
  second = number_at-fits 14 bs bytes;
  baud = number_at-fits 16 bs bytes;
  orig_net = number_at-fits 20 bs bytes;
  dest_net = number_at-fits 22 bs bytes;
  prod_code = bytes 24;
  serial_no = bytes 25;
  password_len = omega (arith, length-take 8 (drop 26 bs), length-drop 26 bs);
  password = AreBytes-take 8 (drop 26 bs) (AreBytes-drop 26 bs bytes);
  orig_zone = number_at-fits 34 bs bytes;
  dest_zone = number_at-fits 36 bs bytes;
  fill_len = omega (arith, length-take 20 (drop 38 bs), length-drop 38 bs);
  fill = AreBytes-take 20 (drop 38 bs) (AreBytes-drop 38 bs bytes);
}

pub IsHeader-from_bytes : (h : Header) (bs : List ℕ) → bs ≡ header_bytes h → AreBytes bs → length bs ≡ 58 → length h.password ≡ 8 → length h.fill ≡ 20
    → IsHeader h
IsHeader-from_bytes h bs is bytes size password fill =
    let same : header_of bs ≡ h = ap header_of (is ∙ sym (append-nil (header_bytes h))) ∙ header_of-parts h [] password fill in
    subst IsHeader same (IsHeader-header_of bs bytes (omega (arith, size)))
