-- The base file of the messages of a base folder.
use Rattle.std.specs.Prelude.{◌≡◌, ℕ, false}
use Rattle.{disk_io.specs.Device.Failed, base_file.specs.{Base.Base, BaseFile.is_countable}}
use Rattle.{base_file.specs.declared.fault.BaseFault.BaseFault, base_store.specs.declared.store_error.StoreError.StoreError}
use Rattle.{echo_filed.specs.Stored.{Stored, is_short_enough}, base_folder.specs.declared.send_error.SendError.SendError}
use Rattle.base_file.specs.declared.fault.BaseFault.TheVariants as fault
use Rattle.base_store.specs.declared.store_error.StoreError.TheVariants as error
use Rattle.base_folder.specs.declared.send_error.SendError.TheVariants as unsent

-- Memory ran out, four bytes can't count the parts of the base, or a read failed.
abbrev pub IsFileFault : Base → ℕ → ℕ → BaseFault → Type 0
IsFileFault base before now fault.Memory = Unit {0}
IsFileFault base before now fault.TooMany = is_countable base.messages base.cursor ≡ false
IsFileFault base before now fault.Read = Failed before now
IsFileFault base before now _ = ⊥

-- Such a fault, and the device that takes the file did not fail, or that device failed.
abbrev pub IsSendFault : Base → ℕ → ℕ → ℕ → ℕ → SendError → Type 0
IsSendFault base before now old new (unsent.Messages why) = IsFileFault base before now why × (new ≡ old)
IsSendFault base before now old new unsent.Device = Failed old new

-- Memory ran out, or four bytes can't count the message.
abbrev pub IsTooLong : Stored → BaseFault → Type 0
IsTooLong s fault.Memory = Unit {0}
IsTooLong s fault.TooMany = is_short_enough s ≡ false
IsTooLong s _ = ⊥

-- Memory ran out, a read failed, or four bytes can't count the message.
abbrev pub IsMessageFault : Stored → ℕ → ℕ → BaseFault → Type 0
IsMessageFault s before now fault.Read = Failed before now
IsMessageFault s before now why = IsTooLong s why

abbrev pub file_cause : StoreError → ℕ → BaseFault
file_cause error.Memory i = fault.Memory
file_cause error.TooMany i = fault.Memory
file_cause error.Device i = fault.Read
file_cause error.Damaged i = fault.Damaged i
