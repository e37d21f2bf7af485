-- The answers of loading a system.
use Rattle.std.specs.Prelude.{Result, Ok, Err}
use Rattle.base_file.specs.{declared.fault.BaseFault.BaseFault, Base.Base}
use Rattle.model_steps.specs.SystemState.{SystemState}

abbrev pub base_in : Result SystemState BaseFault → Result Base BaseFault
base_in (Ok s) = Ok (record { messages = s.base; cursor = s.cursor })
base_in (Err fault) = Err fault
