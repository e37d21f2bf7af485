-- The answers of loading a base.
use Rattle.std.specs.Prelude.{◌≡◌, ℕ, ◌^◌, ◌<◌, ◌≤◌, ◌⊎◌, ◌||◌, not, nat_lt, Bool, true, false, List, [], ◌∷◌, ◌++◌, length, if◌then◌else◌, Option, Some, None, IfSome, Result, Ok, Err, map}
use Rattle.std.specs.{List.AllByRecursion, List.flat_map, Io.KnownBytes.Consumes, Io.KnownBytes.IsAtEnd}
use Rattle.disk_io.specs.{Device.Failed, declared.fixed.Broken.Broken}
use Rattle.echo_packet.specs.Field.{Consumed}
use Rattle.echo_text.specs.{Lines.is_tag, Echo.EchoText}
use Rattle.disk_io.specs.declared.fixed.Broken.TheVariants as broken
use Rattle.echo_filed.specs.Stored.{IsStored, Stored, is_short, message_in, stored_bytes}
use Rattle.echo_filed.specs.{declared.key.Key.Key, Filed.Filed, Filed.key_of, Stubs.bare, Written.echo_of, declared.stored.Version.Version, Fields.StopsIn}
use Rattle.base_file.specs.BaseFile.{AreSound, BaseFaultOf, BaseOf, Loaded, has_wrong_form, has_wrong_last, has_wrong_sender, has_wrong_string, head_bytes, is_damaged, is_front, is_other_kind, is_wrong_id, is_wrong_text, magic}
use Rattle.base_file.specs.{declared.fault.BaseFault.BaseFault, declared.base.loading.Head.Head, Base.Base}
use Rattle.base_file.specs.declared.fault.BaseFault.TheVariants as fault

-- The value, or `None` if it is wrong.
abbrev pub UnlessWrong : {X : Type 0} → Bool → X → Option X → Type 0
UnlessWrong wrong x None = wrong ≡ true
UnlessWrong wrong x (Some found) = (wrong ≡ false) × (found ≡ x)

abbrev pub wrong_last : Bool → List ℕ → List ℕ → Bool
wrong_last with_tag tag last = if with_tag then not (is_tag tag) || is_wrong_id last else is_wrong_text last

abbrev pub said_last : Bool → List ℕ → List ℕ → EchoText
said_last with_tag tag last = if with_tag then bare tag last else echo_of last

abbrev pub has_wrong_front : Version → Stored → Bool
has_wrong_front version s = is_other_kind version s.kind || (has_wrong_sender s || has_wrong_string s)

abbrev pub has_wrong_field : Version → Stored → Bool
has_wrong_field version s = has_wrong_front version s || has_wrong_last version s

-- The message has tag and id where it should have the text, or the reverse.
abbrev pub wrong_form : Version → ℕ → ℕ → Bool → Filed → Bool
wrong_form version cursor place with_tag m =
    if with_tag then not (is_short version cursor place m) else is_short version cursor place m

abbrev pub is_wrong : Version → ℕ → ℕ → Stored → Bool
is_wrong version cursor place s = has_wrong_field version s || has_wrong_form version cursor place s

-- A scanned message has tag and id instead of the text.
abbrev pub IsShortOnceScanned : Version → Filed → Type 0
IsShortOnceScanned version m = (cursor place : ℕ) → is_short version cursor place m ≡ nat_lt place cursor

-- The message with its key, or `None` if it is wrong.
abbrev pub Judges : Bool → Filed → Option (Key × Filed) → Type 0
Judges wrong m None = wrong ≡ true
Judges wrong m (Some found) = (wrong ≡ false) × (found.0 ≡ key_of m) × (found.1 ≡ m)

abbrev pub fault_behind : Broken → ℕ → BaseFault
fault_behind broken.Cut messages = fault.Truncated messages
fault_behind broken.Device messages = fault.Read
fault_behind broken.Memory messages = fault.Memory

-- The version that the bytes begin, or why they begin no version.
abbrev pub IsVersion : List ℕ → Result Version BaseFault → Type 0
IsVersion front (Ok version) = front ≡ magic version
IsVersion front (Err fault.NotBase) = is_front front ≡ false
IsVersion front (Err (fault.Truncated n)) = (n ≡ 0) × (is_front front ≡ true) × (length front < 8)
IsVersion front (Err _) = ⊥

-- Before the device failed, it gave too few bytes for a base: they end in the first eight bytes or inside a message.
abbrev pub IsUnfinished : List ℕ → Type 0
IsUnfinished consumed = (length consumed < 8) ⊎ ((n : ℕ) × BaseFaultOf consumed (fault.Truncated n))

-- The fault of these bytes, a failure of the device, or out of memory.
abbrev pub LoadFault : List ℕ → BaseFault → Type 0
LoadFault bytes fault.Read = Unit {0}
LoadFault bytes fault.Memory = Unit {0}
LoadFault bytes answered = BaseFaultOf bytes answered

-- Why the call read no base: the bytes have a fault. If the device failed, it is one of the bytes before that.
pub record FailsToLoad (old new : Option (List ℕ)) (answered : BaseFault) : Type 0 where
  pub wrong : IfSome old (λ bytes. LoadFault bytes answered)
  pub inside : answered ≡ fault.Read → Consumed old new IsUnfinished

abbrev pub ReadsVersion : Option (List ℕ) → Option (List ℕ) → Result Version BaseFault → Type 0
ReadsVersion old new (Ok version) = Consumes old new (magic version)
ReadsVersion old new (Err answered) = FailsToLoad old new answered

-- The call consumed the head of a base file.
pub record TakesHead (head : Head) (old new : Option (List ℕ)) : Type 0 where
  pub number_fits : head.number < 2 ^ 32
  pub cursor_within : head.cursor ≤ head.number
  pub took : Consumes old new (head_bytes head.version head.cursor head.number)

abbrev pub ReadsHead : Option (List ℕ) → Option (List ℕ) → Result Head BaseFault → Type 0
ReadsHead old new (Ok head) = TakesHead head old new
ReadsHead old new (Err answered) = FailsToLoad old new answered

-- The call consumed a message that may be next, and appended it.
pub record TakesNextStored (version : Version) (cursor : ℕ) (base base' : List Filed) (old new : Option (List ℕ)) : Type 0 where
  pub next : Stored
  pub size : IsStored version next
  pub sound : is_damaged version cursor base next ≡ false
  pub took : Consumes old new (stored_bytes version next)
  pub filed : base' ≡ base ++ message_in version next ∷ []

pub record TakesDamaged (version : Version) (cursor : ℕ) (base : List Filed) (old new : Option (List ℕ)) : Type 0 where
  pub next : Stored
  pub size : IsStored version next
  pub damaged : is_damaged version cursor base next ≡ true
  pub took : Consumes old new (stored_bytes version next)

-- The bytes consumed after the messages of the base.
abbrev pub TakesStored : {A : Type 0} → Version → ℕ → List Filed → List Filed → Option (List ℕ) → Option (List ℕ) → Result A BaseFault → Type 0
TakesStored version cursor base base' old new (Ok _) = TakesNextStored version cursor base base' old new
TakesStored version cursor base base' old new (Err (fault.Truncated n)) = (n ≡ length base) × Consumed old new (StopsIn version) × IsAtEnd new
TakesStored version cursor base base' old new (Err (fault.Damaged n)) = (n ≡ length base) × TakesDamaged version cursor base old new
TakesStored version cursor base base' old new (Err fault.Read) = Consumed old new (StopsIn version)
TakesStored version cursor base base' old new (Err fault.Memory) = Unit {0}
TakesStored version cursor base base' old new (Err _) = ⊥

-- After the head of a base file the call consumed all messages, and the base has them.
pub record TakesAll (head : Head) (base : Base) (old new : Option (List ℕ)) : Type 0 where
  pub all : List Stored
  pub many : length all ≡ head.number
  pub sizes : AllByRecursion (IsStored head.version) all
  pub sound : AreSound head.version head.cursor [] all
  pub took : Consumes old new (flat_map (stored_bytes head.version) all)
  pub messages : base.messages ≡ map (message_in head.version) all

-- Why it did not: some messages arrived, then one that was cut or damaged.
abbrev pub FailsBehindHead : Head → Option (List ℕ) → Option (List ℕ) → BaseFault → Type 0
FailsBehindHead head old new answered =
    (old' : Option (List ℕ)) → Consumes old' old (head_bytes head.version head.cursor head.number) → head.number < 2 ^ 32 → head.cursor ≤ head.number → FailsToLoad old' new answered

abbrev pub TakesMessages : {A : Type 0} → Head → Base → Option (List ℕ) → Option (List ℕ) → Result A BaseFault → Type 0
TakesMessages head base old new (Ok _) = TakesAll head base old new
TakesMessages head base old new (Err answered) = FailsBehindHead head old new answered

abbrev pub TakesBase : List Filed → ℕ → Option (List ℕ) → Option (List ℕ) → Type 0
TakesBase messages cursor old new = Consumed old new (BaseOf messages cursor)

-- The count of failures rose if the device failed, and only then.
abbrev pub CountsLoad : {A : Type 0} → Result A BaseFault → ℕ → ℕ → Type 0
CountsLoad (Err fault.Read) old new = Failed old new
CountsLoad (Err _) old new = new ≡ old
CountsLoad (Ok _) old new = new ≡ old

-- The answer of loading, unless the device failed or memory ran out.
abbrev pub AnswersLoad : Result Base BaseFault → Result Loaded BaseFault → Type 0
AnswersLoad (Ok base) other = (n : ℕ) × (other ≡ Ok (base.messages, base.cursor, n))
AnswersLoad (Err fault.Read) other = Unit {0}
AnswersLoad (Err fault.Memory) other = Unit {0}
AnswersLoad (Err answered) other = other ≡ Err answered
