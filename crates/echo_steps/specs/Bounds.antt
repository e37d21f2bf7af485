-- A store that holds too much, after calls that committed nothing.
use Rattle.std.specs.Prelude.{◌≡◌, ◌⊎◌, Some}
use Rattle.disk_io.specs.Disk.{Honestly}
use Rattle.base_file.specs.Base.{Base}
use Rattle.echo_addr.specs.declared.address.Address.{Address}
use Rattle.echo_filed.specs.Filed.{Filed}
use Rattle.echo_links.specs.Links.{LinkFile}
use Rattle.echo_packet.specs.{declared.limits.Limits.Limits, Message.IsMessage, Message.Message}
use Rattle.base_store.specs.Store.{CommitsNothing, GoesOn, LooksOn, StoreState}
use Rattle.model_steps.specs.Tossing.{tossing}

-- The store is full, or it has no room for a message that the call would add.
pub record IsTooMuch (Adds : Base → Filed → Type 0) (s : StoreState) : Type 0 where
  pub past : s.is_full ⊎ ((m : Filed) × (s.has_room m → ⊥) × Honestly s.disk ((base : Base) → s.keeps base → Adds base m))

-- The store at the time when it held too much. The calls before that succeeded and committed nothing.
pub record IsPastBound {T : Type 0} (state : T → StoreState) (Adds : Base → Filed → Type 0) (old : StoreState) : Type 0 where
  pub store : T
  pub commits : CommitsNothing old (state store)
  pub goes_on : GoesOn old (state store)
  pub much : IsTooMuch Adds (state store)

-- The store at the time when it was full. The looks before that succeeded.
pub record IsFullWhenRead {T : Type 0} (state : T → StoreState) (old : StoreState) : Type 0 where
  pub store : T
  pub looks : LooksOn old (state store)
  pub full : (state store).is_full

abbrev pub AddsNone : Base → Filed → Type 0
AddsNone base m = ⊥

-- The message that a toss of this one files.
abbrev pub AddsTossed : LinkFile → Address → Message → Base → Filed → Type 0
AddsTossed file sender packed base m = Some m ≡ tossing file base.messages sender packed

-- The message that a toss files for one that a packet within the limits may have.
abbrev pub AddsReceived : Limits → LinkFile → Base → Filed → Type 0
AddsReceived limits file base m = (sender : Address) × (packed : Message) × IsMessage limits.text packed × AddsTossed file sender packed base m
