-- Why packets were not written.
use Rattle.{std.{proofs.Common.{◌≡◌, ◌≤◌, ℕ, arith}, specs.Prelude.{Err, IsErrOf}}, base_store.specs.Store.StoreState, station.proofs.Failures.failed_wider}
use Rattle.station_scan.specs.{Publishing.HasPublishCause, Writing.{HasStopCause, publish_stop}, declared.passing.PassStop.{PassStop, TheVariants.Placing}}
use Rattle.station_scan.specs.declared.publish_error.PublishError.{PublishError, TheVariants.Packets}
use Rattle.disk_atomic.specs.declared.placing_error.PlacingError.TheVariants as placing

-- the staging files were removed
module _ {S T : Type 0} (state : S → StoreState) (s0 s1 s2 : StoreState) (f0 f1 f2 : ℕ) (run : s2.disk.is_honest → s1.disk.is_honest) where
  pub publish_stop_cause : (stop : PassStop) → HasStopCause {T = Unit {0}} state s0 s1 f0 f1 (Err stop) → f1 ≤ f2 → HasPublishCause {T = T} state s0 s2 f0 f2 (Err (publish_stop stop))
  publish_stop_cause stop h1 h2 = grind (arith, failed_wider)

-- a path in use stopped the pass
pub publish_stop_taken : (stop : PassStop) (why : PublishError) → why ≡ publish_stop stop → IsErrOf {T = Unit {0}} (Err why) (Packets placing.Taken) → IsErrOf {T = Unit {0}} (Err stop) (Placing placing.Taken)
publish_stop_taken h1 why is taken = grind arith
