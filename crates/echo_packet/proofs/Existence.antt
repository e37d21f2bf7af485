-- Bytes are a packet or have a fault.
use Rattle.std.proofs.Common.{◌≡◌, ◌≢◌, ℕ, zero, suc, ◌+◌, ◌^◌, ◌<◌, ◌≤◌, ◌⊎◌, List, [], ◌∷◌, ◌++◌, Some, Ok, Err, length, take, drop, refl, sym, ap, ◌∙◌, subst, inl, inr, arith, append_assoc, length-append}
use Rattle.std.proofs.lemmas.List.{take_at, drop_at, length-take-le, take-append-drop, take-append-le}
use Rattle.std.proofs.lemmas.{Bool.cases_lt, Bool.cases_eq, List.Elements.All-cons, List.Elements.All-nil, List.Elements.All-take}
use Rattle.echo_packet.specs.Header.{AreBytes, word, number_at, header_bytes, header_of}
use Rattle.echo_packet.specs.Message.{Message, Numbers, DateTime, ToName, FromName, Subject, Text, HasNoZero, IsString, IsMessage, zero_ended, message_bytes, max_name, max_subject}
use Rattle.echo_packet.specs.Field.{IsShort, IsOpen, IsPast, Never, TakesMessage}
use Rattle.echo_packet.specs.{declared.header.Header.Header, declared.limits.Limits.Limits, declared.fault.PacketFault.PacketFault, Packet.packet_bytes, Fault.IsTooLong, Fault.place_of}
use Rattle.echo_packet.specs.{Answer.Answer, Answer.Describes, Next.NextFault, Run.SoFar, Run.IsOfCall}
use Rattle.echo_packet.specs.declared.fault.PacketFault.TheVariants as fault
use Rattle.echo_packet.proofs.FieldsSoFar.{HasFields, has-none, has-numbers, has-date, has-to_name, has-from_name, has-subject, has-text, next-field, tells-numbers, tells-date, tells-to_name, tells-from_name, tells-subject, tells-text}
use Rattle.echo_packet.proofs.NextNumber.{number-cut, number-other, number-many, number-then, number-bytes, takes-whole}
use Rattle.echo_packet.proofs.Headers.{AreBytes-take, AreBytes-drop, IsHeader-header_of, header_bytes-header_of}
use Rattle.echo_packet.proofs.MessageByMessage.{run-opens, run-gives, run-ends, run-fails}

record Split (r : List ℕ) : Type 0 where
  pub string : List ℕ
  pub rest : List ℕ
  pub is : r ≡ zero_ended string ++ rest
  pub none : HasNoZero string

first_zero : (r : List ℕ) → Split r ⊎ HasNoZero r
first_zero [] = inr (All-nil (λ b. b ≢ 0))
first_zero (x ∷ xs) = elim (cases_eq x 0) [
  | inl e ↦ inl (record { string = []; rest = xs; is = ap (λ y. y ∷ xs) e; none = All-nil (λ b. b ≢ 0) })
  | inr not ↦ elim (first_zero xs) [
    | inl f ↦ inl (record { string = x ∷ f.string; rest = f.rest; is = ap (λ t. x ∷ t) f.is; none = All-cons (λ b. b ≢ 0) x f.string not f.none })
    | inr all ↦ inr (All-cons (λ b. b ≢ 0) x xs not all)
  ]
]

record HasString (most : ℕ) (r : List ℕ) : Type 0 where
  pub string : List ℕ
  pub rest : List ℕ
  pub is : r ≡ zero_ended string ++ rest
  pub fits : IsString most string
  pub bytes : AreBytes rest

too_long : (most : ℕ) (r : List ℕ) → HasNoZero r → most < length r → IsTooLong most r
too_long most r none more = (more, All-take (λ b. b ≢ 0) (most + 1) r none)

long_split : (most : ℕ) (r : List ℕ) (x : Split r) → most < length x.string → IsTooLong most r
long_split most r x more =
    let s = x.string in
    let behind = 0 ∷ x.rest in
    let whole : r ≡ s ++ behind = x.is ∙ append_assoc s (0 ∷ []) x.rest in
    let front : take (most + 1) r ≡ take (most + 1) s = ap (take (most + 1)) whole ∙ take-append-le (most + 1) s behind (omega arith) in
    (omega (arith, ap length whole, length-append s behind), subst HasNoZero (sym front) (All-take (λ b. b ≢ 0) (most + 1) s x.none))

has_string : (most : ℕ) (r : List ℕ) (x : Split r) → AreBytes r → length x.string ≤ most → HasString most r
has_string most r x bytes fits =
    let s = x.string in
    let whole : r ≡ s ++ (0 ∷ x.rest) = x.is ∙ append_assoc s (0 ∷ []) x.rest in
    let front : take (length s) r ≡ s = ap (take (length s)) whole ∙ take_at s (0 ∷ x.rest) (length s) refl in
    let size : length (zero_ended s) ≡ length s + 1 = length-append s (0 ∷ []) in
    let behind : drop (length s + 1) r ≡ x.rest = ap (drop (length s + 1)) x.is ∙ drop_at (zero_ended s) x.rest (length s + 1) size in
    grind (arith, AreBytes-take, AreBytes-drop)

string_cases : (most : ℕ) (r : List ℕ) → AreBytes r → HasString most r ⊎ (IsOpen most r ⊎ IsTooLong most r)
string_cases most r bytes = elim (first_zero r) [
  | inl x ↦ elim (cases_lt most (length x.string)) [
    | inl more ↦ inr (inr (long_split most r x more))
    | inr fits ↦ inl (has_string most r x bytes fits)
  ]
  | inr none ↦ elim (cases_lt most (length r)) [
    | inl more ↦ inr (inr (too_long most r none more))
    | inr fits ↦ inr (inl (none, fits))
  ]
]

abbrev FieldsFault : Limits → ℕ → ℕ → List ℕ → Type 0
FieldsFault limits given start r = (f : PacketFault) × NextFault limits given start (word 2 ++ r) f × (IsOfCall f → ⊥)

record HasWhole (limits : Limits) (start : ℕ) (r : List ℕ) : Type 0 where
  pub message : Message
  pub rest : List ℕ
  pub at : ℕ
  pub takes : TakesMessage limits.text start (Some r) (Some rest) message at
  pub bytes : AreBytes rest

abbrev SomeFields : Limits → ℕ → ℕ → List ℕ → Type 0
SomeFields limits given start r = HasWhole limits start r ⊎ FieldsFault limits given start r

text_on : (limits : Limits) (given start p : ℕ) (all r : List ℕ) (m : Message) → given < limits.messages → AreBytes r
    → HasFields limits.text start (Some all) (Some r) Text m p → SomeFields limits given start all
text_on limits given start p all r m more bytes h = elim (string_cases limits.text r bytes) [
  | inl x ↦ inl (record {
    message = record m { text = x.string };
    rest = x.rest;
    at = place_of (p + length (zero_ended x.string));
    takes = has-text limits.text start p (place_of (p + length (zero_ended x.string))) (Some all) (Some r) (Some x.rest) m x.string h x.fits x.is refl;
    bytes = x.bytes;
  })
  | inr wrong ↦ elim wrong [
    | inl cut ↦ inr (fault.Truncated p, next-field limits given start p (Some all) (Some r) Text m (IsOpen limits.text) Never (IsTooLong limits.text) Never (IsPast limits.text) (fault.Truncated p) h (tells-text limits) more (refl, cut), λ c. c)
    | inr long ↦ inr (fault.TextTooLong p, next-field limits given start p (Some all) (Some r) Text m (IsOpen limits.text) Never (IsTooLong limits.text) Never (IsPast limits.text) (fault.TextTooLong p) h (tells-text limits) more (refl, long), λ c. c)
  ]
]

subject_on : (limits : Limits) (given start p : ℕ) (all r : List ℕ) (m : Message) → given < limits.messages → AreBytes r
    → HasFields limits.text start (Some all) (Some r) Subject m p → SomeFields limits given start all
subject_on limits given start p all r m more bytes h = elim (string_cases max_subject r bytes) [
  | inl x ↦ text_on limits given start (place_of (p + length (zero_ended x.string))) all x.rest (record m { subject = x.string }) more x.bytes
      (has-subject limits.text start p (place_of (p + length (zero_ended x.string))) (Some all) (Some r) (Some x.rest) m x.string h x.fits x.is refl)
  | inr wrong ↦ elim wrong [
    | inl cut ↦ inr (fault.Truncated p, next-field limits given start p (Some all) (Some r) Subject m (IsOpen max_subject) (IsTooLong max_subject) Never (IsPast max_subject) Never (fault.Truncated p) h (tells-subject limits) more (refl, cut), λ c. c)
    | inr long ↦ inr (fault.FieldTooLong p, next-field limits given start p (Some all) (Some r) Subject m (IsOpen max_subject) (IsTooLong max_subject) Never (IsPast max_subject) Never (fault.FieldTooLong p) h (tells-subject limits) more (refl, long), λ c. c)
  ]
]

from_name_on : (limits : Limits) (given start p : ℕ) (all r : List ℕ) (m : Message) → given < limits.messages → AreBytes r
    → HasFields limits.text start (Some all) (Some r) FromName m p → SomeFields limits given start all
from_name_on limits given start p all r m more bytes h = elim (string_cases max_name r bytes) [
  | inl x ↦ subject_on limits given start (place_of (p + length (zero_ended x.string))) all x.rest (record m { from_name = x.string }) more x.bytes
      (has-from_name limits.text start p (place_of (p + length (zero_ended x.string))) (Some all) (Some r) (Some x.rest) m x.string h x.fits x.is refl)
  | inr wrong ↦ elim wrong [
    | inl cut ↦ inr (fault.Truncated p, next-field limits given start p (Some all) (Some r) FromName m (IsOpen max_name) (IsTooLong max_name) Never (IsPast max_name) Never (fault.Truncated p) h (tells-from_name limits) more (refl, cut), λ c. c)
    | inr long ↦ inr (fault.FieldTooLong p, next-field limits given start p (Some all) (Some r) FromName m (IsOpen max_name) (IsTooLong max_name) Never (IsPast max_name) Never (fault.FieldTooLong p) h (tells-from_name limits) more (refl, long), λ c. c)
  ]
]

to_name_on : (limits : Limits) (given start p : ℕ) (all r : List ℕ) (m : Message) → given < limits.messages → AreBytes r
    → HasFields limits.text start (Some all) (Some r) ToName m p → SomeFields limits given start all
to_name_on limits given start p all r m more bytes h = elim (string_cases max_name r bytes) [
  | inl x ↦ from_name_on limits given start (place_of (p + length (zero_ended x.string))) all x.rest (record m { to_name = x.string }) more x.bytes
      (has-to_name limits.text start p (place_of (p + length (zero_ended x.string))) (Some all) (Some r) (Some x.rest) m x.string h x.fits x.is refl)
  | inr wrong ↦ elim wrong [
    | inl cut ↦ inr (fault.Truncated p, next-field limits given start p (Some all) (Some r) ToName m (IsOpen max_name) (IsTooLong max_name) Never (IsPast max_name) Never (fault.Truncated p) h (tells-to_name limits) more (refl, cut), λ c. c)
    | inr long ↦ inr (fault.FieldTooLong p, next-field limits given start p (Some all) (Some r) ToName m (IsOpen max_name) (IsTooLong max_name) Never (IsPast max_name) Never (fault.FieldTooLong p) h (tells-to_name limits) more (refl, long), λ c. c)
  ]
]

date_on : (limits : Limits) (given start p : ℕ) (all r : List ℕ) (m : Message) → given < limits.messages → AreBytes r
    → HasFields limits.text start (Some all) (Some r) DateTime m p → SomeFields limits given start all
date_on limits given start p all r m more bytes h = elim (cases_lt (length r) 20) [
  | inl short ↦ inr (fault.Truncated p, next-field limits given start p (Some all) (Some r) DateTime m (IsShort 20) Never Never Never Never (fault.Truncated p) h (tells-date limits) more (refl, short), λ c. c)
  | inr long ↦
      let d = take 20 r in
      let size : length d ≡ 20 = length-take-le 20 r long in
      to_name_on limits given start (place_of (p + length d)) all (drop 20 r) (record m { date = d }) more (AreBytes-drop 20 r bytes)
      (has-date limits.text start p (place_of (p + length d)) (Some all) (Some r) (Some (drop 20 r)) m d h (AreBytes-take 20 r bytes) size (sym (take-append-drop 20 r)) refl)
]

some_fields : (limits : Limits) (given start : ℕ) (r : List ℕ) → given < limits.messages → AreBytes r → SomeFields limits given start r
some_fields limits given start r more bytes =
    let p = place_of (start + 2) in
    elim (cases_lt (length r) 12) [
      | inl short ↦ inr (
        fault.Truncated p,
        next-field limits given start p (Some r) (Some r) Numbers _ (IsShort 12) Never Never Never Never (fault.Truncated p)
            (has-none limits.text start p (Some r) refl) (tells-numbers limits) more (refl, short),
        λ c. c,
      )
      | inr long ↦
          let ns = take 12 r in
          let size : length ns ≡ 12 = length-take-le 12 r long in
          date_on limits given start (place_of (p + length ns)) r (drop 12 r) _ more (AreBytes-drop 12 r bytes)
          (has-numbers limits.text start p (place_of (p + length ns)) (Some r) (Some (drop 12 r)) ns refl (AreBytes-take 12 r bytes) size (sym (take-append-drop 12 r)) refl)
    ]

record HasNext (limits : Limits) (given : ℕ) (r : List ℕ) : Type 0 where
  pub message : Message
  pub rest : List ℕ
  pub is : r ≡ message_bytes message ++ rest
  pub fits : IsMessage limits.text message
  pub more : given < limits.messages
  pub bytes : AreBytes rest

record HasEnd (r : List ℕ) : Type 0 where
  pub rest : List ℕ
  pub is : r ≡ word 0 ++ rest

abbrev SomeNext : Limits → ℕ → ℕ → List ℕ → Type 0
SomeNext limits given start r = HasNext limits given r ⊎ (HasEnd r ⊎ ((f : PacketFault) × NextFault limits given start r f × (IsOfCall f → ⊥)))

some_next : (limits : Limits) (given start : ℕ) (r : List ℕ) → start < 2 ^ 64 → given ≤ limits.messages → AreBytes r → SomeNext limits given start r
some_next limits given start r fits room bytes = elim (cases_lt (length r) 2) [
  | inl short ↦ inr (inr (fault.Truncated start, number-cut limits given start (Some r) (fault.Truncated start) fits (refl, short), λ c. c))
  | inr long ↦
      let ns = take 2 r in
      let rest = drop 2 r in
      let size : length ns ≡ 2 = length-take-le 2 r long in
      let are : AreBytes ns = AreBytes-take 2 r bytes in
      let took : r ≡ ns ++ rest = sym (take-append-drop 2 r) in
      elim (cases_eq (number_at 0 ns) 0) [
        | inl none ↦ inr (inl (record { rest = rest; is = took ∙ ap (λ t. t ++ rest) (number-bytes ns are size ∙ ap word none) }))
        | inr some ↦ elim (cases_eq (number_at 0 ns) 2) [
          | inr other ↦ inr (inr (fault.NotMessage start, number-other limits given start (Some r) (Some rest) ns fits size took other some, λ c. c))
          | inl two ↦ elim (cases_lt given limits.messages) [
            | inr many ↦
                inr (inr (fault.TooManyMessages start, number-many limits given start (Some r) (Some rest) ns fits size took two (omega arith), λ c. c))
            | inl more ↦ elim (some_fields limits given start rest more (AreBytes-drop 2 r bytes)) [
              | inl x ↦ grind (arith, takes-whole)
              | inr wrong ↦ inr (inr (wrong.0, number-then limits given start (Some r) (Some rest) ns wrong.0 are size took two wrong.1, wrong.2))
            ]
          ]
        ]
      ]
]

abbrev SomeAnswer : Limits → List ℕ → Type 0
SomeAnswer limits bs = (a : Answer) × Describes limits bs a

some_run : (k : ℕ) (limits : Limits) (bs : List ℕ) (h : Header) (ms : List Message) (r : List ℕ) (given at : ℕ) → SoFar limits bs h ms r given at → AreBytes r → length r < k
    → SomeAnswer limits bs
some_run zero limits bs h ms r given at so bytes less = absurd (omega arith)
some_run (suc k) limits bs h ms r given at so bytes less =
    let here = so.place in
    let room : given ≤ limits.messages = omega (arith, so.count, so.are_messages.room) in
    elim (some_next limits given at r (omega arith) room bytes) [
      | inl x ↦ some_run k limits bs h (ms ++ x.message ∷ []) x.rest (given + 1) (place_of (at + length (message_bytes x.message)))
          (run-gives limits bs h ms r x.rest given at x.message so x.is x.fits x.more) x.bytes
          (omega (arith, ap length x.is, length-append (message_bytes x.message) x.rest))
      | inr other ↦ elim other [
        | inl x ↦ (Ok (h, ms, length (packet_bytes h ms)), run-ends limits bs h ms r x.rest given at so x.is)
        | inr wrong ↦ elim (run-fails limits bs h ms r given at wrong.0 so wrong.1) [
          | inl is ↦ (Err wrong.0, (ms, is))
          | inr call ↦ absurd (wrong.2 call)
        ]
      ]
    ]

pub some_answer : (limits : Limits) (bs : List ℕ) → AreBytes bs → SomeAnswer limits bs
some_answer limits bs bytes = elim (cases_lt (length bs) 58) [
  | inl short ↦ (Err (fault.Truncated 0), ([], inl (refl, refl, short)))
  | inr long ↦ elim (cases_eq (number_at 18 bs) 2) [
    | inr other ↦ (Err (fault.NotType2 18), ([], (refl, refl, long, other)))
    | inl type ↦
        let split : bs ≡ header_bytes (header_of bs) ++ drop 58 bs =
        sym (take-append-drop 58 bs) ∙ ap (λ t. t ++ drop 58 bs) (sym (header_bytes-header_of bs bytes long type)) in
        some_run (suc (length (drop 58 bs))) limits bs (header_of bs) [] (drop 58 bs) 0 58
        (run-opens limits bs (header_of bs) (drop 58 bs) (IsHeader-header_of bs bytes long) split) (AreBytes-drop 58 bs bytes) (omega arith)
  ]
]
