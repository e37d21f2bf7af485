-- The answer of loading the bytes of a base.
use Rattle.{std.proofs.Common.{◌≡◌, ◌≢◌, ◌<◌, ◌≤◌, ◌-◌, ◌^◌, ℕ, [], ap, Result, Ok, Err, arith, ⊎_elim}, disk_io.specs.Device.Failed, base_file.specs.Base.Base}
use Rattle.base_file.{specs.{BaseFile.Loaded, Loading.{AnswersLoad, CountsLoad}, declared.fault.BaseFault.BaseFault}, proofs.OneBase.ok_no_err}
use Rattle.base_file.specs.declared.fault.BaseFault.TheVariants as fault

abbrev pub base_in : Result Loaded BaseFault → Base
base_in (Ok loaded) = record { messages = loaded.0; cursor = loaded.1 }
base_in (Err why) = record { messages = []; cursor = 0 }

pub is_loaded : (base found : Base) (count : ℕ) → AnswersLoad (Ok found) (Ok (base.messages, base.cursor, count)) → base ≡ found
is_loaded base found count answers = ap (λ r. base_in r) answers.1

never_failed : Failed 0 0 → ⊥
never_failed failed = ⊎_elim (λ (more : 0 < 0). omega (arith, more)) (λ (at : (2 ^ 64 - 1 ≤ 0) × (0 ≡ 0)). omega (arith, at.0)) failed

-- loading a sound base fails only if memory runs out
pub refused_not : (x : Loaded) (f : BaseFault) → AnswersLoad (Err f) (Ok x) → CountsLoad {A = Base} (Err f) 0 0 → f ≢ fault.Memory → ⊥
refused_not x h2 answers counts other = grind (arith, ok_no_err, never_failed)
