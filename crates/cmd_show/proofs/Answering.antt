-- The answer of `show`, from those of its parts.
use Rattle.std.{proofs.Common.{◌≡◌, ℕ, Bool, List, [], Option, Result, Ok, Err, sym, subst, ◌∙◌, inl, inr, arith}, specs.Io.KnownBytes.Appends}
use Rattle.cmd_status.specs.{declared.{fault.Fault.Fault, status.Status.Status}, Devices.Output, Ended.{CannotPrint, PassesAll}, Lines.WritesFront}
use Rattle.{cmd_status.proofs.Lines.{begun_after, begun_kept, nothing_begun, sent_after}, cmd_show.proofs.Stopping.{passes_le, print_later}}
use Rattle.cmd_show.specs.{Showing.{AllShown, IsCutShort, PacketAnswers, PacketPasses, SomeShown}, Written.{AddsLines, BeginsLines, WritesLines}}

all_out : (P : List ℕ → Type 0) (a b c : Option (List ℕ)) (rest : List ℕ) → AddsLines P [] rest a b → Appends b c rest → WritesLines P a c
all_out P a b c rest added went = record { lines = added.lines; are = added.are; written = sent_after a b c added.lines rest added.passed went }

cut_some : (full : Bool) (bytes lines : List ℕ) (fault : Fault) → IsCutShort full bytes lines fault → SomeShown full bytes lines
cut_some full bytes lines fault h1 = grind arith

some_out : (full : Bool) (P : List ℕ → Type 0) (bytes : List ℕ) (a b c : Option (List ℕ)) (rest : List ℕ) → ((lines : List ℕ) → P lines → SomeShown full bytes lines)
    → AddsLines P [] rest a b → WritesFront rest b c → BeginsLines (SomeShown full bytes) a c
some_out full P bytes a b c rest some added begun =
    record { lines = added.lines; are = some added.lines added.are; begun = begun_after a b c added.lines rest added.passed begun }

went_out : (full : Bool) (bytes rest : List ℕ) (old mid new : Output) (answer : Result Status Fault) → PacketPasses full bytes [] rest old mid answer
    → Appends mid.contents new.contents rest → PassesAll mid new → PacketAnswers full bytes old new answer
went_out full bytes rest old mid new (Ok status) right went flushed =
    (right.0, all_out (AllShown full bytes) old.contents mid.contents new.contents rest right.1 went, (flushed.0 ∙ right.2, flushed.1))
went_out full bytes rest old mid new (Err fault) (inl failed) went flushed =
    let none = subst (Appends mid.contents new.contents) failed.1 went in
    inl (
      subst (λ n. CannotPrint old.failures n fault) (sym flushed.0) failed.0,
      record { lines = failed.2.lines; are = failed.2.are; begun = begun_kept old.contents mid.contents new.contents failed.2.lines failed.2.begun none },
    )
went_out full bytes rest old mid new (Err fault) (inr short) went flushed =
    inr (all_out (λ lines. IsCutShort full bytes lines fault) old.contents mid.contents new.contents rest short.0 went, (flushed.0 ∙ short.1, flushed.1))

pub all_shown : (full : Bool) (bytes none rest : List ℕ) (old mid new : Output) (answer : Result Status Fault) → none ≡ [] → PacketPasses full bytes none rest old mid answer
    → Appends mid.contents new.contents rest → PassesAll mid new → PacketAnswers full bytes old new answer
all_shown full bytes none rest old mid new answer nothing so went flushed =
    went_out full bytes rest old mid new answer (subst (λ l. PacketPasses full bytes l rest old mid answer) nothing so) went flushed

begun_out : (full : Bool) (bytes rest : List ℕ) (old mid new : Output) (answer : Result Status Fault) → PacketPasses full bytes [] rest old mid answer
    → WritesFront rest mid.contents new.contents → BeginsLines (SomeShown full bytes) old.contents new.contents
begun_out full bytes rest old mid new (Ok status) right begun =
    some_out full (AllShown full bytes) bytes old.contents mid.contents new.contents rest (λ lines all. inr all) right.1 begun
begun_out full bytes rest old mid new (Err fault) (inl failed) begun =
    let none = nothing_begun mid.contents new.contents (subst (λ l. WritesFront l mid.contents new.contents) failed.1 begun) in
    record { lines = failed.2.lines; are = failed.2.are; begun = begun_kept old.contents mid.contents new.contents failed.2.lines failed.2.begun none }
begun_out full bytes rest old mid new (Err fault) (inr short) begun =
    some_out full (λ lines. IsCutShort full bytes lines fault) bytes old.contents mid.contents new.contents rest (λ lines cut. cut_some full bytes lines fault cut) short.0 begun

pub not_shown : (full : Bool) (bytes none rest : List ℕ) (old mid new : Output) (answer : Result Status Fault) (fault : Fault) → none ≡ [] → PacketPasses full bytes none rest old mid answer
    → WritesFront rest mid.contents new.contents → CannotPrint mid.failures new.failures fault → PacketAnswers full bytes old new (Err fault)
not_shown full bytes none rest old mid new answer fault nothing so begun failed = grind (arith, print_later, passes_le, begun_out)
