-- What the files of a station hold after a command, and after a scan.
use Rattle.std.specs.Prelude.{List}
use Rattle.{base_file.specs.Base.Base, base_store.specs.Store.all_scanned, disk_io.specs.Disk.{DiskState, Files}}
use Rattle.{disk_atomic.specs.{StagingPaths.dotted, declared.finishing.Left.Left}, echo_links.specs.Links.LinkFile}
use Rattle.model_steps.specs.{declared.stamp.Stamp.Stamp}
use Rattle.{station.specs.{Place.Place, Running.IsKept}, station_scan.specs.{Publishing.IsOnDisk, Scanning.{AreSentOut, packets_in}}}
use Rattle.law_session.specs.{Session.ListsOne, declared.session.TheConstants.FIRST_OUT}

-- With this link file, the files hold a base that the command makes of the one from before, as they are seen and after any crash.
pub record HoldsMade (place : Place) (Reads : LinkFile → Type 0) (Makes : LinkFile → Base → Base → Type 0) (old new : DiskState) : Type 0 where
  pub file : LinkFile
  pub read : Reads file
  pub kept : (base : Base) → place.represents base old.seen → IsKept place (Makes file base) new

-- The packets of a scan of this base are out, and the files hold the base with its cursor at the end.
pub record HasPutOut (place : Place) (stamp : Stamp) (file : LinkFile) (base : Base) (old new : DiskState) : Type 0 where
  pub opened : Files
  pub found : List Left
  pub sent : AreSentOut (ListsOne opened) place.is_own FIRST_OUT.now (dotted file.system) (IsOnDisk old) (place.represents (all_scanned base)) base.cursor found (packets_in stamp file base) opened new

pub record PutsOut (place : Place) (stamp : Stamp) (Reads : LinkFile → Type 0) (old new : DiskState) : Type 0 where
  pub file : LinkFile
  pub read : Reads file
  pub put : (base : Base) → place.represents base old.seen → HasPutOut place stamp file base old new
