-- A command, and a scan, that ended well.
use Rattle.std.proofs.Common.{◌≡◌, List, inl, inr, subst}
use Rattle.std.specs.Prelude.{Result, Ok, Err, OnOk}
use Rattle.{base_file.specs.Base.Base, disk_io.specs.Disk.{DiskState}, echo_links.specs.Links.LinkFile}
use Rattle.{cmd_status.specs.{declared.fault.Fault.Fault, Devices.Output}, cmd_store.specs.{Scanned.ScansOn, declared.command_error.CommandError.{CommandError, TheVariants.Met}}, echo_steps.specs.PacketsIn.state_in}
use Rattle.{disk_atomic.specs.StagingPaths.dotted, model_steps.specs.{PacketFiles.PacketFile, declared.stamp.Stamp.Stamp}}
use Rattle.station.specs.{Place.Place, Running.{RunsIn}}
use Rattle.station_scan.specs.{Scanning.{AreSentOut, IsPutAs, IsScanOn, ScansIn, packets_in}, Publishing.IsOnDisk, Stops.as_scan, declared.scan_error.ScanError.ScanError}
use Rattle.base_store.specs.Store.{all_scanned}
use Rattle.law_session.specs.{Kept.{HasPutOut, HoldsMade, PutsOut}, Session.ListsOne, declared.session.TheConstants.FIRST_OUT}

module _ {A : Type 0} (IsAnswer : LinkFile → Base → Type 0) (Makes May : LinkFile → Base → Base → Type 0) (place : Place) (Reads : LinkFile → Type 0) (Shut Stops : Fault → Type 0) (failed : Type 0) (old new : DiskState) (old_out new_out : Output) where
  pub holds-made : (result : Result A CommandError) → RunsIn IsAnswer Makes May place Reads Shut Stops failed old new old_out new_out result → OnOk result (HoldsMade place Reads Makes old new)
  holds-made (Err why) runs = tt
  holds-made (Ok value) (inl run) = record { file = run.file; read = run.read; kept = λ base is. (run.runs base is).kept }
  holds-made (Ok value) (inr (inl not)) = absurd (cc not.is)
  holds-made (Ok value) (inr (inr stopped)) = absurd (cc stopped.is)

module _ {D : Type 0} (state : D → DiskState) (stamp : Stamp) (place : Place) (Reads : LinkFile → Type 0) (failed : Type 0) (old new : DiskState) (old_out new_out : Output) where
  put-so : (file : LinkFile) (base : Base) → IsScanOn state stamp place FIRST_OUT.now ListsOne failed old new old_out new_out file base (Ok tt) → HasPutOut place stamp file base old new
  put-so file base on = by on.made on.answer on.put
    where
      by : (made : Result (List PacketFile) CommandError) → ScansOn stamp (state_in file base) old_out new_out made
          → IsPutAs state place FIRST_OUT.now (dotted file.system) ListsOne failed old new base (packets_in stamp file base) made (Ok tt) → HasPutOut place stamp file base old new
      by (Ok files) answer put = record {
        opened = put.opened;
        found = put.found;
        sent = subst (λ (l : List PacketFile). AreSentOut (ListsOne put.opened) place.is_own FIRST_OUT.now (dotted file.system) (IsOnDisk old) (place.represents (all_scanned base)) base.cursor put.found l put.opened new) answer.right.packets put.sent;
      }
      by (Err why) answer put = elim put.reported [ inl stopped ↦ absurd (cc stopped.0) | inr left ↦ absurd (cc left.1) ]

  pub puts-out : (Shut Stops : Fault → Type 0) (result : Result (Unit {0}) ScanError) → ScansIn state stamp place FIRST_OUT.now ListsOne Reads Shut Stops failed old new old_out new_out result → OnOk result (PutsOut place stamp Reads old new)
  puts-out Shut Stops (Err why) scans = tt
  puts-out Shut Stops (Ok done) (inl run) = record { file = run.file; read = run.read; put = λ base is. put-so run.file base (run.runs base is) }
  puts-out Shut Stops (Ok done) (inr not) = absurd (elim not.not_run [ inl shut ↦ never not.stopped not.is shut.fault shut.is | inr stopped ↦ never not.stopped not.is stopped.fault stopped.is ])
    where
      never : (stopped : Result (Unit {0}) CommandError) → Ok done ≡ as_scan stopped → (fault : Fault) → stopped ≡ Err (Met fault) → ⊥
      never (Ok more) is fault met = cc met
      never (Err why) is fault met = cc is
