-- Why a call did not load a base, by the bytes that it consumed.
use Rattle.std.proofs.Common.{◌≡◌, false, ℕ, ◌^◌, ◌<◌, ◌≤◌, List, [], ◌∷◌, ◌++◌, length, map, take, refl, sym, ap, subst, ◌∙◌, Option, Some, None, Result, Ok, Err, arith, inl, inr}
use Rattle.std.proofs.lemmas.List.{append-nil, append_assoc, length-append, length-map, take_at}
use Rattle.std.proofs.{KnownBytes.Consumes-trans, KnownBytes.Consumes-whole, lemmas.Grind.flat_map-append}
use Rattle.std.specs.{Prelude.IfErr, Prelude.IfOk, Prelude.IfSome, Io.KnownBytes.Consumes, List.AllByRecursion, List.flat_map}
use Rattle.echo_packet.specs.Header.{AreBytes}
use Rattle.disk_io.specs.declared.fixed.Broken.{Broken}
use Rattle.disk_io.specs.declared.fixed.Broken.TheVariants as broken
use Rattle.echo_filed.specs.Stored.{IsStored, Stored, long, message_in, stored_bytes}
use Rattle.echo_filed.specs.{Filed.Filed, declared.stored.Version.Version, declared.stored.Version.TheVariants.First, declared.stored.Version.TheVariants.Second}
use Rattle.echo_filed.specs.Fields.{Breaks, EndsIn, IsLong, StopsIn}
use Rattle.echo_filed.proofs.Plain.{all_append}
use Rattle.base_file.specs.BaseFile.{AreSound, BaseFaultOf, BaseOf, Begins, IsDamagedAt, LoadOf, Loaded, head_bytes, is_damaged, magic}
use Rattle.base_file.specs.Loading.{AnswersLoad, FailsToLoad, LoadFault, TakesAll, TakesBase, TakesDamaged, TakesHead, TakesStored, TakesNextStored, fault_behind}
use Rattle.base_file.specs.{declared.base.loading.Head.Head, declared.fault.BaseFault.BaseFault, Base.Base}
use Rattle.base_file.specs.declared.fault.BaseFault.TheVariants as fault
use Rattle.base_file.proofs.Loading.{only_outcome, say_more, sound_more}

if_any : {X : Type 0} (o : Option X) → IfSome o (λ _. Unit {0})
if_any None = tt
if_any (Some x) = tt

pub cut_fails : {X : Type 0} {F : X → Type 0} {w : X → List ℕ} (n : ℕ) (front : List ℕ) (a b c : Option (List ℕ)) (e : Broken) → Consumes a b front
    → ((consumed : List ℕ) → EndsIn X F w consumed → BaseFaultOf (front ++ consumed) (fault.Truncated n)) → Breaks X F w b c e → FailsToLoad a c (fault_behind e n)
cut_fails n front a b c broken.Cut took is h = record {
  wrong = Consumes-whole a c (front ++ h.0.0) (λ bytes. LoadFault bytes (fault.Truncated n)) (Consumes-trans a b c front h.0.0 took h.0.1) h.1 (is h.0.0 h.0.2);
  inside = λ r. absurd (cc);
}
cut_fails n front a b c broken.Device took is h = record {
  wrong = if_any a;
  inside = λ r. (front ++ h.0, Consumes-trans a b c front h.0 took h.1, inr (n, is h.0 h.2));
}
cut_fails n front a b c broken.Memory took is h = record { wrong = if_any a; inside = λ r. absurd (cc) }

part_of_long : (consumed : List ℕ) → EndsIn ℕ IsLong long consumed → length consumed < 4
part_of_long consumed inside =
    let some = inside.some in
    omega (arith, ap length inside.cut, length-append consumed inside.missing)

pub cursor_cut : (version : Version) (consumed : List ℕ) → EndsIn ℕ IsLong long consumed → BaseFaultOf (magic version ++ consumed) (fault.Truncated 0)
cursor_cut First consumed inside = inl (refl, refl, omega (arith, part_of_long consumed inside))
cursor_cut Second consumed inside = inl (refl, refl, omega (arith, part_of_long consumed inside))

pub number_cut : (version : Version) (cursor : ℕ) (consumed : List ℕ) → EndsIn ℕ IsLong long consumed → BaseFaultOf ((magic version ++ long cursor) ++ consumed) (fault.Truncated 0)
number_cut First cursor consumed inside = inl (refl, refl, omega (arith, part_of_long consumed inside))
number_cut Second cursor consumed inside = inl (refl, refl, omega (arith, part_of_long consumed inside))

pub head_taken : (version : Version) (cursor number : ℕ) (a b c d : Option (List ℕ)) → Consumes a b (magic version) → Consumes b c (long cursor) → Consumes c d (long number)
    → Consumes a d (head_bytes version cursor number)
unfolding head_bytes
head_taken version cursor number a b c d first second third =
    Consumes-trans a b d (magic version) (long cursor ++ long number) first (Consumes-trans b c d (long cursor) (long number) second third)

pub record HasTaken (version : Version) (cursor : ℕ) (messages : List Filed) (old new : Option (List ℕ)) : Type 0 where
  pub all : List Stored
  pub sizes : AllByRecursion (IsStored version) all
  pub sound : AreSound version cursor [] all
  pub took : Consumes old new (flat_map (stored_bytes version) all)
  pub said : messages ≡ map (message_in version) all

pub taken_more : (version : Version) (cursor : ℕ) (messages messages' : List Filed) (a b c : Option (List ℕ)) → HasTaken version cursor messages a b
    → TakesNextStored version cursor messages messages' b c → HasTaken version cursor messages' a c
taken_more version cursor messages messages' a b c so next =
    let s = next.next in
    let P : List Filed → Type 0 = λ l. is_damaged version cursor l s ≡ false in
    let bytes : flat_map (stored_bytes version) (so.all ++ s ∷ []) ≡ flat_map (stored_bytes version) so.all ++ stored_bytes version s =
    flat_map-append (stored_bytes version) so.all (s ∷ []) ∙ ap (λ bs. flat_map (stored_bytes version) so.all ++ bs) (append-nil (stored_bytes version s)) in
    record {
      all = so.all ++ s ∷ [];
      sizes = all_append (IsStored version) so.all (s ∷ []) so.sizes (next.size, tt);
      sound = sound_more version cursor [] so.all s so.sound (subst P so.said next.sound);
      took = subst (Consumes a c) (sym bytes) (Consumes-trans a b c (flat_map (stored_bytes version) so.all) (stored_bytes version s) so.took next.took);
      said = next.filed ∙ ap (λ l. l ++ message_in version s ∷ []) so.said ∙ sym (say_more version so.all s);
    }

behind_head : (version : Version) (cursor number : ℕ) (messages : List Filed) (a b c : Option (List ℕ)) → number < 2 ^ 32 → cursor ≤ number
    → (so : HasTaken version cursor messages b c) → (rest bytes : List ℕ) → bytes ≡ (head_bytes version cursor number ++ flat_map (stored_bytes version) so.all) ++ rest
    → Begins version cursor number so.all rest bytes
behind_head version cursor number messages a b c fits within so rest bytes whole = grind (arith, append_assoc)

message_cut : (version : Version) (cursor number n : ℕ) (messages : List Filed) (b c : Option (List ℕ)) → number < 2 ^ 32 → cursor ≤ number → n < number → n ≡ length messages
    → (so : HasTaken version cursor messages b c) → (consumed : List ℕ) → StopsIn version consumed
    → BaseFaultOf ((head_bytes version cursor number ++ flat_map (stored_bytes version) so.all) ++ consumed) (fault.Truncated n)
message_cut version cursor number n messages b c fits within more many so consumed stops = inr (record {
  version = version;
  cursor = cursor;
  number = number;
  all = so.all;
  rest = consumed;
  begins = behind_head version cursor number messages None b c fits within so consumed _ refl;
  many = sym (many ∙ ap length so.said ∙ length-map so.all (message_in version));
  one_more = more;
  next = stops.value;
  size = stops.fits;
  missing = stops.missing;
  some = stops.some;
  cut = stops.cut;
})

message_damaged : (version : Version) (cursor number n : ℕ) (messages : List Filed) (a b c d : Option (List ℕ)) → number < 2 ^ 32 → cursor ≤ number → n < number → n ≡ length messages
    → Consumes a b (head_bytes version cursor number) → (so : HasTaken version cursor messages b c) → TakesDamaged version cursor messages c d
    → IfSome a (λ bytes. IsDamagedAt n bytes)
message_damaged version cursor number n messages a b c d fits within more many head so bad = grind (arith, Consumes-trans, behind_head, append_assoc, length-map)

pub message_fails : (version : Version) (cursor number : ℕ) (messages messages' : List Filed) (a b c d : Option (List ℕ)) (answered : BaseFault) → number < 2 ^ 32 → cursor ≤ number
    → length messages < number → Consumes a b (head_bytes version cursor number) → HasTaken version cursor messages b c
    → TakesStored {A = Unit {0}} version cursor messages messages' c d (Err answered) → FailsToLoad a d answered
message_fails version cursor number messages messages' a b c d (fault.Truncated n) fits within more head so h =
    let many = h.0 in
    cut_fails n (head_bytes version cursor number ++ flat_map (stored_bytes version) so.all) a c d broken.Cut
    (Consumes-trans a b c (head_bytes version cursor number) (flat_map (stored_bytes version) so.all) head so.took)
    (message_cut version cursor number n messages b c fits within (omega arith) many so) (h.1, h.2)
message_fails version cursor number messages messages' a b c d (fault.Damaged n) fits within more head so h =
    let many = h.0 in
    record { wrong = message_damaged version cursor number n messages a b c d fits within (omega arith) many head so h.1; inside = λ r. absurd (cc) }
message_fails version cursor number messages messages' a b c d fault.Read fits within more head so h =
    cut_fails (length messages) (head_bytes version cursor number ++ flat_map (stored_bytes version) so.all) a c d broken.Device
    (Consumes-trans a b c (head_bytes version cursor number) (flat_map (stored_bytes version) so.all) head so.took)
    (message_cut version cursor number (length messages) messages b c fits within more refl so) h
message_fails version cursor number messages messages' a b c d fault.Memory fits within more head so h = record { wrong = if_any a; inside = λ r. absurd (cc) }
message_fails version cursor number messages messages' a b c d fault.NotBase fits within more head so h = absurd h
message_fails version cursor number messages messages' a b c d (fault.Write n) fits within more head so h = absurd h
message_fails version cursor number messages messages' a b c d fault.TooMany fits within more head so h = absurd h

pub base_taken : (head : Head) (base : Base) (a b c : Option (List ℕ)) → TakesHead head a b → TakesAll head base b c → TakesBase base.messages head.cursor a c
base_taken head base a b c first rest = grind (arith, Consumes-trans, append-nil)

pub only_answer : (old new : Option (List ℕ)) (r : Result Base BaseFault) (other : Result Loaded BaseFault)
    → IfOk r (λ base. TakesBase base.messages base.cursor old new) → IfErr r (FailsToLoad old new)
    → IfSome old (λ bytes. AreBytes bytes → LoadOf bytes other → AnswersLoad r other)
only_answer None new r other taken fails = tt
only_answer (Some bytes) None (Ok base) other taken fails = absurd taken.1
only_answer (Some bytes) (Some rest) (Ok base) other taken fails = λ are so.
    let consumed = taken.0 in
    let whole = taken.1 in
    let P : List ℕ → Type 0 = BaseOf base.messages base.cursor in
    let front : take (length consumed) bytes ≡ consumed = ap (take (length consumed)) whole ∙ take_at consumed rest (length consumed) refl in
    let here : LoadOf bytes (Ok (base.messages, base.cursor, length consumed)) = (omega (arith, ap length whole, length-append consumed rest), subst P (sym front) taken.2) in
    (length consumed, only_outcome bytes are other so ∙ sym (only_outcome bytes are (Ok (base.messages, base.cursor, length consumed)) here))
only_answer (Some bytes) new (Err fault.Read) other taken fails = λ are so. tt
only_answer (Some bytes) new (Err fault.Memory) other taken fails = λ are so. tt
only_answer (Some bytes) new (Err fault.NotBase) other taken fails = λ are so.
    only_outcome bytes are other so ∙ sym (only_outcome bytes are (Err fault.NotBase) fails.wrong)
only_answer (Some bytes) new (Err (fault.Truncated n)) other taken fails = λ are so.
    only_outcome bytes are other so ∙ sym (only_outcome bytes are (Err (fault.Truncated n)) fails.wrong)
only_answer (Some bytes) new (Err (fault.Damaged n)) other taken fails = λ are so.
    only_outcome bytes are other so ∙ sym (only_outcome bytes are (Err (fault.Damaged n)) fails.wrong)
only_answer (Some bytes) new (Err (fault.Write n)) other taken fails = λ are so. absurd fails.wrong
only_answer (Some bytes) new (Err fault.TooMany) other taken fails = λ are so. absurd fails.wrong
