-- Judging a base file in pieces.
use Rattle.std.specs.Prelude.{◌≡◌, ℕ, ◌^◌, ◌<◌, ◌≤◌, Bool, true, false, List, ◌++◌, length, take, drop}
use Rattle.echo_filed.specs.Stored.{IsStored, Stored, is_short, message_in, stored_bytes}
use Rattle.echo_filed.specs.{declared.key.Key.Key, declared.stored.Version.Version, declared.stored.Version.TheVariants.Second, Fields.StopsIn, Filed.key_of}
use Rattle.base_file.specs.{declared.fault.BaseFault.BaseFault, declared.base.loading.Head.Head, declared.piece.Next.Next, BaseFile.IsNoBase, BaseFile.head_bytes, BaseFile.is_front, Loading.is_wrong}
use Rattle.base_file.specs.declared.fault.BaseFault.TheVariants as fault
use Rattle.base_file.specs.declared.piece.Next.TheVariants as next

-- The bytes begin with this head.
pub record BeginsWith (head : Head) (bytes : List ℕ) : Type 0 where
  pub number_fits : head.number < 2 ^ 32
  pub cursor_within : head.cursor ≤ head.number
  pub whole : bytes ≡ head_bytes head.version head.cursor head.number ++ drop 16 bytes

-- No base begins with these bytes, or they are only a part of a head.
abbrev pub IsHeadFault : List ℕ → BaseFault → Type 0
IsHeadFault bytes fault.NotBase = IsNoBase bytes
IsHeadFault bytes (fault.Truncated n) = (n ≡ 0) × (is_front bytes ≡ true) × (length bytes < 16)
IsHeadFault bytes _ = ⊥

-- The facts about a message with correct fields: its key, and whether a scan makes it short.
pub record ReportsOf (version : Version) (s : Stored) (key : Key) (short : Bool) : Type 0 where
  pub own : key ≡ key_of (message_in version s)
  pub shortens : short ≡ is_short Second 1 0 (message_in version s)

abbrev pub JudgesOne : Version → ℕ → ℕ → Stored → ℕ → Next → Type 0
JudgesOne version cursor place s size (next.Sound key count short) = (is_wrong version cursor place s ≡ false) × (count ≡ size) × ReportsOf version s key short
JudgesOne version cursor place s size next.Damaged = is_wrong version cursor place s ≡ true
JudgesOne version cursor place s size next.Cut = ⊥

pub record IsJudged (version : Version) (cursor place : ℕ) (bytes : List ℕ) (judgement : Next) : Type 0 where
  pub s : Stored
  pub fits : IsStored version s
  pub size : ℕ
  pub within : size ≤ length bytes
  pub same : stored_bytes version s ≡ take size bytes
  pub judges : JudgesOne version cursor place s size judgement

abbrev pub IsNext : Version → ℕ → ℕ → List ℕ → Next → Type 0
IsNext version cursor place bytes (next.Sound key size short) = IsJudged version cursor place bytes (next.Sound key size short)
IsNext version cursor place bytes next.Damaged = IsJudged version cursor place bytes next.Damaged
IsNext version cursor place bytes next.Cut = StopsIn version bytes
