-- A base file opened as a store.
use Rattle.std.proofs.Common.{◌≡◌, ◌≤◌, ◌⊎◌, ◌∙◌, inl, inr, ⊎_elim, ℕ, Bool, false, List, Option, None, Some, Result, Ok, Err, ap, arith, subst, sym}
use Rattle.{std.specs.Prelude.{All, ◌≢◌, IfErr, IsSome}, base_file.{specs.Base.Base, proofs.Loading.base_is}, echo_filed.specs.Filed.Filed}
use Rattle.{disk_io.{specs.{Disk.{DiskState, Files, Honestly, bytes_in}, Runs.ChangesNothing}, proofs.Moments.weaker_run}, echo_links.specs.Links.LinkFile}
use Rattle.{cmd_status.specs.{Inputs.IsBaseGiven, declared.fault.Fault.Fault}, base_store.proofs.Runs.quiet_disk}
use Rattle.station.{proofs.Failures.{fails_wider, no_links_wider, not_locked}, specs.{Faults.FailsAt, Links.AreLinks}}
use Rattle.station.specs.{Opening.{IsNotOpened, IsOpenFor, IsOpened}, Place.{IsOfPlace, KeepsElsewhere, RepresentsOrWasLeft}}
use Rattle.station_bases.specs.{InFile.{IsHeld, IsReadAs, IsWithinReach, RepresentsInFile, file_state}, declared.held.Held.Held}
use Rattle.station_bases.{specs.Reading.{IsFileShut, IsSettled, IsShutFor, IsUnreadFor, file_place}, proofs.Loaded.base_in}

-- the base in the bytes of an existing file
pub given_by : (f : Option (List ℕ)) (messages : List Filed) (cursor : ℕ) → IsSome f → IsBaseGiven (Some (bytes_in f)) messages cursor → IsBaseGiven f messages cursor
given_by (Some bytes) messages cursor some given = given
given_by None messages cursor some given = grind arith

one_given : (f : Option (List ℕ)) (a b : Base) → IsBaseGiven f a.messages a.cursor → IsBaseGiven f b.messages b.cursor → a ≡ b
one_given None a b one other = (λ i. record { messages = one.0 i; cursor = one.1 i }) ∙ sym (λ i. record { messages = other.0 i; cursor = other.1 i })
one_given (Some bytes) a b one other =
    let first = base_is bytes (a.messages, a.cursor, one.0) one.1.0 one.1.1 in
    let second = base_is bytes (b.messages, b.cursor, other.0) other.1.0 other.1.1 in
    ap (λ r. base_in r) (first ∙ sym second)

pub read_only : {S T : Type 0} (files : Files) (disk : DiskState) (path : List ℕ) (held : Held S T) → IsReadAs files disk path held → (b : Base) → RepresentsInFile path b files → IsHeld disk path held b
read_only files disk path held read b represented = subst (λ (x : Base). IsHeld disk path held x) (one_given (files path) read.base b read.represented represented) read.is

quiet_elsewhere : (path : List ℕ) (d0 d1 : DiskState) → ChangesNothing d0 d1 → KeepsElsewhere (file_place path) d0 d1
quiet_elsewhere path d0 d1 quiet = grind arith

module _ {S T : Type 0} (d0 d1 : DiskState) (path own : List ℕ) (held : Held S T) (place : ℕ) (unread : Bool) (quiet : ChangesNothing d0 d1) where
  opened_file : IsSettled d1 path → ((b : Base) → RepresentsInFile path b d0.seen → IsHeld d1 path held b) → IsOpenFor (file_place path) d0 (file_state d1 path own held place unread)
  opened_file on only = grind (arith, weaker_run)

  of_file : IsOfPlace (file_place path) d0 (file_state d1 path own held place unread)
  of_file = grind (arith, quiet_elsewhere)

  pub is_opened : (links : List ℕ) (file : LinkFile) (before now : ℕ) → before ≤ now → unread ≡ false → All (λ b. b ≢ 47) own → IsWithinReach d1 path held → Honestly d1 (AreLinks d0 links file) → Honestly d1 (IsSettled d1 path)
      → Honestly d1 ((b : Base) → RepresentsInFile path b d0.seen → IsHeld d1 path held b)
      → IsOpened (file_place path) (λ file. AreLinks d0 links file) d0 before now (file_state d1 path own held place unread) file
  is_opened links file before now later looked plain reach read on only = grind (arith, opened_file, of_file)

-- the same reason for the failures of a whole run
pub file_shut_wider : (links path : List ℕ) (P F : Type 0) (d : DiskState) (fault : Fault) → (P → F) → IsFileShut links path P d fault → IsFileShut links path F d fault
file_shut_wider links path P F d fault more shut =
    ⊎_elim (λ none. inl (no_links_wider d links P F fault more none)) (λ (unread : IsUnreadFor path P d fault). inr (⊎_elim (λ at. inl (fails_wider path P F fault more at)) (λ other. inr other) unread)) shut

-- a lock was not taken
pub locked_out : {T : Type 0} (links path : List ℕ) (P Q F : Type 0) (d : DiskState) (result : Result T Fault) → (P → F) → (Q → F) → IfErr result (λ fault. FailsAt links P fault ⊎ FailsAt path Q fault) → IfErr result (IsShutFor links path F d d)
locked_out links path P Q F d (Ok done) first second fails = tt
locked_out links path P Q F d (Err fault) first second fails = (quiet_disk d, ⊎_elim (λ none. inl none) (λ at. inr (inl at)) (not_locked d links path P Q F fault first second fails))

pub is_not_opened : (links path : List ℕ) (F : Type 0) (d0 d1 : DiskState) (fault : Fault) → ChangesNothing d0 d1 → Honestly d1 (IsFileShut links path F d0 fault)
    → IsNotOpened (file_place path) (IsShutFor links path F d0 d1) d0 d1 fault
is_not_opened links path F d0 d1 fault quiet shut = record {
  cause = λ honest. (quiet, shut honest);
  crash = λ honest base represented. weaker_run d0 d1 d0.may_leave (RepresentsOrWasLeft (file_place path) d0 base) quiet.run (λ c left. inr left);
  elsewhere = quiet_elsewhere path d0 d1 quiet;
}
