-- What a command does at each link file that it reads, it does at the one of a path from which it reads all of them.
use Rattle.std.specs.Prelude.{ℕ, List, Option, Result, Ok, Err, IfOk}
use Rattle.{base_file.specs.Base.Base, cmd_status.specs.declared.fault.Fault.Fault, cmd_store.specs.{Coming.Coming, declared.command_error.CommandError.CommandError}, disk_io.specs.Disk.{DiskState, Files}, echo_links.specs.Links.LinkFile}
use Rattle.{model_steps.specs.declared.stamp.Stamp.Stamp, station.specs.{Links.AreLinks, Place.Place}, station_scan.specs.declared.scan_error.ScanError.ScanError}
use Rattle.law_stations.specs.{Commands.Command, OnDisks.{AsMay, ReadsLinks, TossesAsMay}, Scans.ScansAsMay}

module _ (place : Place) (Reads : LinkFile → Type 0) (links : List ℕ) (old new : DiskState) (reads : ReadsLinks Reads links old) where
  pub does-at : {A : Type 0} (IsCommand : Base → Command → Type 0) (result : Result A CommandError) → AsMay IsCommand place Reads old new result → AsMay IsCommand place (AreLinks old links) old new result
  does-at IsCommand result may i d path all at = may i d path (λ file read. all file (reads file read)) at

  pub tosses-at : (files left : List Coming) (result : Result (Option Fault) CommandError) → TossesAsMay files left place Reads old new result → TossesAsMay files left place (AreLinks old links) old new result
  tosses-at files left result may indexes i d path are all at = may indexes i d path are (λ file read. all file (reads file read)) at

  pub scans-at : (stamp : Stamp) (outbound : List ℕ) (IsTrue : Files → Type 0) (result : Result (Unit {0}) ScanError) → ScansAsMay stamp place outbound IsTrue Reads old new result → ScansAsMay stamp place outbound IsTrue (AreLinks old links) old new result
  scans-at stamp outbound IsTrue result may path i d n ended all off at ends none = may path i d n ended (λ file read. all file (reads file read)) off at ends none

-- what an answer that is `Ok` says in other words
pub ok-so : {T E : Type 0} (result : Result T E) (P Q : T → Type 0) → ((value : T) → P value → Q value) → IfOk result P → IfOk result Q
ok-so (Ok value) P Q so is = so value is
ok-so (Err why) P Q so is = is
