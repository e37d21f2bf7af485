-- Why a scan stopped.
use Rattle.std.specs.Prelude.{◌⊎◌, ◌<◌, ℕ, Result, Ok, Err}
use Rattle.cmd_store.specs.declared.command_error.CommandError.{CommandError, TheVariants.{Met, Store}}
use Rattle.station_scan.specs.declared.scan_error.ScanError.{ScanError, TheVariants.{Command, Placing, Staying, TooFar}}
use Rattle.station_scan.specs.declared.publish_error.PublishError.{PublishError, TheVariants.{Base, Reading, Staging, Packets}}
use Rattle.disk_io.specs.declared.disk_error.DiskError.TheVariants as disk
use Rattle.disk_atomic.specs.declared.placing_error.PlacingError.TheVariants as placing
use Rattle.base_store.specs.declared.store_error.StoreError.TheVariants as store

-- An error of publishing as an error of a scan.
abbrev pub stop_of : PublishError → ScanError
stop_of (Packets cause) = Placing cause
stop_of (Reading cause) = Command (Store cause)
stop_of (Staging cause) = Staying cause
stop_of (Base cause) = Command (Store cause)

-- The base was not committed.
abbrev pub IsOfBase : PublishError → Type 0
IsOfBase (Base cause) = Unit {0}
IsOfBase _ = ⊥

-- How many scanned messages the number in a packet's name can have, as it is read again: it has four bytes.
abbrev pub most : ℕ
most = 4294967295

-- Its packets did not get their paths, or its base was not committed. The reasons: a device failed, there was no memory, a path is in use,
-- too many messages were scanned before, or the store has too many bytes.
abbrev pub IsOfPlacing : Type 0 → Type 0 → Type 0 → ScanError → Type 0
IsOfPlacing failed taken far (Command (Met fault)) = ⊥
IsOfPlacing failed taken far (Command (Store store.Device)) = failed
IsOfPlacing failed taken far (Command (Store store.Damaged)) = ⊥
IsOfPlacing failed taken far (Command (Store _)) = Unit {0}
IsOfPlacing failed taken far (Placing placing.Device) = failed
IsOfPlacing failed taken far (Placing placing.Taken) = taken
IsOfPlacing failed taken far (Placing placing.Memory) = Unit {0}
IsOfPlacing failed taken far (Staying disk.Device) = failed
IsOfPlacing failed taken far (Staying disk.Memory) = Unit {0}
IsOfPlacing failed taken far TooFar = far

-- What an error says of the packets that were not put. The base is as before, and no staging file stays, unless it says so. Or the base is
-- committed. If the commit failed, each packet is whole.
abbrev pub TellsLeft : Type 0 → Type 0 → Type 0 → Type 0 → ScanError → Type 0
TellsLeft stays none comes whole (Staying left) = stays
TellsLeft stays none comes whole (Placing cause) = (stays × none) ⊎ comes
TellsLeft stays none comes whole (Command cause) = (stays × none) ⊎ whole
TellsLeft stays none comes whole TooFar = stays × none

-- The packets have no paths: there was no memory, or too many messages were scanned before.
abbrev pub IsUnplanned : ℕ → ScanError → Type 0
IsUnplanned from (Placing placing.Memory) = Unit {0}
IsUnplanned from TooFar = most < from
IsUnplanned from _ = ⊥

-- the result of publishing as the result of a scan
abbrev pub scan_done : Result (Unit {0}) PublishError → Result (Unit {0}) ScanError
scan_done (Ok done) = Ok done
scan_done (Err why) = Err (stop_of why)

-- the result of a command as the result of a scan
abbrev pub as_scan : Result (Unit {0}) CommandError → Result (Unit {0}) ScanError
as_scan (Ok done) = Ok done
as_scan (Err why) = Err (Command why)
