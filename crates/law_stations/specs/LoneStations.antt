-- One station that gets any bytes as packet files.
use Rattle.std.specs.Prelude.{◌≡◌, ℕ, ◌⊎◌, ◌+◌, ◌-◌, List, [], ◌∷◌, ◌++◌, length, take, Option, Some, None, Ok}
use Rattle.base_file.specs.Base.{Base}
use Rattle.{echo_links.specs.{Links.LinkFile, LinkLines.LinksOf}, model_steps.specs.declared.stamp.Stamp.Stamp, cmd_status.specs.declared.fault.Fault.Fault}
use Rattle.cmd_store.specs.{declared.drafting.NewMessage.NewMessage, Coming.{Coming, Fails, Holds, Unknown}}
use Rattle.base_file.specs.declared.range.PurgeRange.{PurgeRange}
use Rattle.law_stations.specs.{Commands.{Posts, Purges, Scans, TossesAll}, Nets.{Net, Station, first_net, with_left}}

-- The net of the station alone, with the packet files of its scans; and the bytes of all input files of `toss`, in
-- order, and of those that it tossed whole.
pub record LoneStation : Type 0 where
  pub net : Net
  pub came : List (List ℕ)
  pub whole : List (List ℕ)

-- A station with this link file before the first command.
abbrev pub lone_station_at_first : List ℕ → LoneStation
lone_station_at_first links = record { net = first_net (links ∷ []); came = []; whole = [] }

-- The bytes of the files that can be used.
abbrev pub held_in : List Coming → List (List ℕ)
held_in [] = []
held_in (Holds bytes ∷ later) = bytes ∷ held_in later
held_in (Fails path ∷ later) = held_in later
held_in (Unknown ∷ later) = held_in later

-- Each file holds any bytes, or cannot be used.
abbrev pub AreAnyFiles : List Coming → Type 0
AreAnyFiles [] = Unit {0}
AreAnyFiles (Holds bytes ∷ later) = AreAnyFiles later
AreAnyFiles (Fails path ∷ later) = AreAnyFiles later
AreAnyFiles (Unknown ∷ later) = ⊥

-- The files that were tossed whole: all if nothing stopped the run, else those before the file that stopped it.
abbrev pub tossed_whole : List Coming → Option Fault → List Coming → List Coming
tossed_whole files None left = files
tossed_whole files (Some fault) left = take (length files - (length left + 1)) files

-- `toss` gets any files and commits the filed messages, even if a fault ended its run.
pub record TossesAny (files : List Coming) (s new : LoneStation) : Type 0 where
  pub any : AreAnyFiles files
  pub station : Station
  pub there : s.net.stations ≡ station ∷ []
  pub file : LinkFile
  pub links : LinksOf station.links (Ok file)
  pub next : Base
  pub tosses : TossesAll files file station.base next
  pub becomes : new ≡ record {
    net = with_left s.net 0 [] next;
    came = s.came ++ held_in files;
    whole = s.whole ++ held_in (tossed_whole files tosses.stopped tosses.left);
  }

-- A command at the station, and its inputs.
pub data LoneCommand : Type 0 where
  PostAlone : (words : NewMessage) (body : List ℕ) → LoneCommand
  ScanAlone : (stamp : Stamp) → LoneCommand
  PurgeAlone : (range : PurgeRange) → LoneCommand
  TossAny : (files : List Coming) → LoneCommand

-- The inputs of `toss` are the same as before.
abbrev pub NothingCame : LoneStation → LoneStation → Type 0
NothingCame s new = (new.came ≡ s.came) × (new.whole ≡ s.whole)

-- The command ends without a fault.
abbrev pub LeadsAlone : LoneCommand → LoneStation → LoneStation → Type 0
LeadsAlone (PostAlone words body) s new = Posts words body s.net 0 new.net × NothingCame s new
LeadsAlone (ScanAlone stamp) s new = Scans stamp s.net 0 new.net × NothingCame s new
LeadsAlone (PurgeAlone range) s new = Purges range s.net 0 new.net × NothingCame s new
LeadsAlone (TossAny files) s new = TossesAny files s new

-- The effect of a command. If it is refused, or a device fails before the commit, nothing changes.
abbrev pub HappensAlone : LoneCommand → LoneStation → LoneStation → Type 0
HappensAlone command s new = (new ≡ s) ⊎ LeadsAlone command s new

-- The effect of commands in order.
abbrev pub HappenAlone : List LoneCommand → LoneStation → LoneStation → Type 0
HappenAlone [] s new = new ≡ s
HappenAlone (command ∷ later) s new = (next : LoneStation) × HappensAlone command s next × HappenAlone later next new
