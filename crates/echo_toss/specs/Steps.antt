-- The steps of a system: how it is before a call and after, and what the call answers. A refused call changes nothing.
use Rattle.std.specs.Prelude.{◌≡◌, ◌⊎◌, ℕ, true, false, List, length, Option, Some, None, Result, Ok, Err, Vec}
use Rattle.std.specs.declared.alloc.Global.{Global}
use Rattle.echo_addr.specs.declared.address.Address.{Address}
use Rattle.echo_packet.specs.Message.{Message}
use Rattle.model_steps.specs.{declared.draft.Draft.Draft, declared.stamp.Stamp.Stamp, declared.packet.Packet.Packet, declared.outcome.Outcome.Outcome, declared.fault.PostFault.PostFault, declared.fault.ScanFault.ScanFault}
use Rattle.model_steps.specs.{SystemState.SystemState, SystemState.state_with, Posting.posted, Tossing.toss_outcome, Tossing.tossing, Scanning.scanned, Stamps.is_stamp, Purging.changed, Purging.purged}
use Rattle.base_file.specs.Purging.{whole}
use Rattle.echo_steps.specs.{declared.refusing.ReplyRule.ReplyRule, Refusals.refusal_by}
use Rattle.model_steps.specs.declared.fault.PostFault.TheVariants as post
use Rattle.model_steps.specs.declared.fault.ScanFault.TheVariants as scan

-- The fault of a posting is the refusal that applies first, if there is one. Out of memory may come in place of a known
-- serial or after it.
abbrev pub IsFaultOf : Option PostFault → PostFault → Type 0
IsFaultOf first post.Memory = (first ≡ None) ⊎ (first ≡ Some post.KnownSerial)
IsFaultOf first fault = first ≡ Some fault

-- A posting appends the message to the base, or a refusal changes nothing.
abbrev pub PostStep : {A : Type 0} → ReplyRule → SystemState → List ℕ → Draft → ℕ → Stamp → Result A PostFault → SystemState → Type 0
PostStep rule old tag draft serial stamp (Ok done) new =
    (refusal_by rule old.file old.base tag draft serial stamp ≡ None) × (new ≡ state_with old (Some (posted old.file tag draft serial stamp)))
PostStep rule old tag draft serial stamp (Err fault) new = IsFaultOf (refusal_by rule old.file old.base tag draft serial stamp) fault × (new ≡ old)

-- A toss appends the message to the base if its outcome is `Filed`. Otherwise, or out of memory, nothing changes.
abbrev pub TossStep : {E : Type 0} → SystemState → Address → Message → Result Outcome E → SystemState → Type 0
TossStep old sender packed (Ok answer) new =
    (answer ≡ toss_outcome old.file old.base sender packed) × (new ≡ state_with old (tossing old.file old.base sender packed))
TossStep old sender packed (Err refused) new = new ≡ old

-- A scan returns the packets and moves the cursor to the end of the base, or a refusal changes nothing.
abbrev pub ScanStep : SystemState → Stamp → Result (List Packet) ScanFault → SystemState → Type 0
ScanStep old stamp (Ok packets) new =
    (is_stamp stamp ≡ true) × (packets ≡ scanned old.file old.base old.cursor stamp)
    × (new ≡ record { file = old.file; base = old.base; cursor = length old.base })
ScanStep old stamp (Err scan.BadStamp) new = (is_stamp stamp ≡ false) × (new ≡ old)
ScanStep old stamp (Err scan.Memory) new = (is_stamp stamp ≡ true) × (new ≡ old)

-- A purge of all areas returns the number of changed messages, or a refusal that changes nothing.
abbrev pub PurgeStep : {E : Type 0} → SystemState → Result ℕ E → SystemState → Type 0
PurgeStep old (Ok count) new =
    (count ≡ changed whole old.base old.cursor) × (new ≡ record { file = old.file; base = purged whole old.base old.cursor; cursor = old.cursor })
PurgeStep old (Err refused) new = new ≡ old

-- The packets of an answer as a list.
abbrev pub listed : Result (Vec Packet Global) ScanFault → Result (List Packet) ScanFault
listed (Ok packets) = Ok packets.items
listed (Err fault) = Err fault
