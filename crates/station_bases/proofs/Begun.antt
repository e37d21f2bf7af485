-- A folder that was begun, as an open station.
use Rattle.{std.{proofs.Common.{◌≤◌, ◌⊎◌, ℕ, Bool, List, Result, Ok, Err, ⊎_elim, inl, inr}, specs.Prelude.IfErr}, base_file.specs.Base.Base}
use Rattle.{disk_io.{specs.{Disk.{DiskState, Honestly}, Runs.{ChangesNothing, LeavesOnly}}, proofs.Moments.weaker_run}, base_log.proofs.Paths.not_own}
use Rattle.{base_log.specs.Moments.KeepsOutside, station_bases.specs.Opening.{IsBegun, IsLockedOut, IsOfFolder, IsShut}}
use Rattle.{station_bases.specs.InFolder.{IsFolderShut, IsOwnLinks, folder_place}, base_folder.specs.Wrong.IsSound}
use Rattle.{base_folder_store.specs.Held.{RepresentsBase, RepresentsBaseAlone, RepresentsBaseOrWasLeft}, echo_links.specs.Links.LinkFile}
use Rattle.{cmd_status.specs.declared.fault.Fault.Fault, base_store.{specs.Store.StoreState, proofs.Runs.quiet_disk}}
use Rattle.station.{proofs.Failures.{fails_wider, no_links_wider, not_locked}, specs.{Faults.FailsAt, Opening.{IsNotOpened, IsOpened}}}
use Rattle.station.specs.Place.{KeepsElsewhere, RepresentsOrWasLeft}

module _ (keyed : ℕ → ℕ → List ℕ → ℕ) (path : List ℕ) (d0 : DiskState) where
  elsewhere_of : (d1 : DiskState) → KeepsOutside path d0 d1 → KeepsElsewhere (folder_place keyed path) d0 d1
  elsewhere_of d1 kept = record {
    seen = λ m out. kept.seen m (not_own path m out);
    named = λ m out. kept.named m (not_own path m out);
    flushed = λ m out. kept.flushed m (not_own path m out);
    alone = λ m out. kept.alone m (not_own path m out);
    honest = kept.honest;
  }

  -- the state that a crash leaves
  left_as : (d1 : DiskState) (base : Base) → LeavesOnly d0 d1 (RepresentsBaseOrWasLeft keyed path d0 base) → LeavesOnly d0 d1 (RepresentsOrWasLeft (folder_place keyed path) d0 base)
  left_as d1 base run =
      weaker_run d0 d1 (RepresentsBaseOrWasLeft keyed path d0 base) (RepresentsOrWasLeft (folder_place keyed path) d0 base) run
      (λ c left. ⊎_elim (λ (alone : RepresentsBaseAlone keyed path d0 base c). inl (record { elsewhere = λ m out. alone.outside m (not_own path m out); represented = alone.represented })) (λ was. inr was) left)

  pub is_opened : (s : StoreState) (links : List ℕ) (strange : Bool) (file : LinkFile) (before now : ℕ) → s.is_ready → Honestly s.disk (IsBegun keyed links path strange d0 s file) → IsOfFolder keyed path d0 s → before ≤ now
      → IsOpened (folder_place keyed path) (λ file. IsOwnLinks links path strange d0 file) d0 before now s file
  is_opened s links strange file before now ready begun of later = record {
    ready = ready;
    read = λ honest. record { of_links = (begun honest).of_links; ours = (begun honest).ours };
    begun = λ honest. record { keeps = (begun honest).keeps; committed = (begun honest).committed; run = λ base represented. left_as s.disk base ((begun honest).run base represented) };
    of_place = record { own = λ m. (of.own m).0; represented = of.represented; elsewhere = elsewhere_of s.disk of.outside };
    later = later;
    sound = of.sound;
  }

  -- where the folder holds no base, nothing was changed
  pub shut_untouched : (d1 : DiskState) (links base : List ℕ) (strange : Bool) (failed : Type 0) (fault : Fault) → IsFolderShut links base path strange failed d0 d1 fault
      → (IsSound strange path d0.seen → ⊥) → ChangesNothing d0 d1
  shut_untouched d1 links base strange failed fault shut none = ⊎_elim (λ out. out.same) (λ not. not.folder.untouched none) shut

  -- the same reason for the failures of a whole run
  pub folder_shut_wider : (d1 : DiskState) (links base : List ℕ) (strange : Bool) (P F : Type 0) (fault : Fault) → (P → F) → IsFolderShut links base path strange P d0 d1 fault → IsFolderShut links base path strange F d0 d1 fault
  folder_shut_wider d1 links base strange P F fault more shut =
      ⊎_elim (λ (out : IsLockedOut links base P d0 d1 fault). inl (record { same = out.same; cause = ⊎_elim (λ none. inl (no_links_wider d0 links P F fault more none)) (λ at. inr (fails_wider base P F fault more at)) out.cause }))
      (λ (not : IsShut links base path strange P d0 d1 fault). inr (record {
        file = not.file;
        of_links = not.of_links;
        folder = record { why = not.folder.why; wrong = not.folder.wrong; left = not.folder.left; recorded = not.folder.recorded; cause = λ is. more (not.folder.cause is); untouched = not.folder.untouched };
      })) shut

  -- a lock was not taken
  pub folder_locked_out : {T : Type 0} (links base : List ℕ) (strange : Bool) (P Q F : Type 0) (result : Result T Fault) → (P → F) → (Q → F) → IfErr result (λ fault. FailsAt links P fault ⊎ FailsAt base Q fault)
      → IfErr result (IsFolderShut links base path strange F d0 d0)
  folder_locked_out links base strange P Q F (Ok done) first second fails = tt
  folder_locked_out links base strange P Q F (Err fault) first second fails = inl (record { same = quiet_disk d0; cause = not_locked d0 links base P Q F fault first second fails })

  pub is_not_opened : (d1 : DiskState) (links base : List ℕ) (strange : Bool) (failed : Type 0) (fault : Fault) → Honestly d1 (IsFolderShut links base path strange failed d0 d1 fault)
      → Honestly d1 ((b : Base) → RepresentsBase keyed path b d0.seen → LeavesOnly d0 d1 (RepresentsBaseOrWasLeft keyed path d0 b)) → KeepsOutside path d0 d1
      → IsNotOpened (folder_place keyed path) (IsFolderShut links base path strange failed d0 d1) d0 d1 fault
  is_not_opened d1 links base strange failed fault cause run outside = record {
    cause = cause;
    crash = λ honest b represented. left_as d1 b (run honest b represented);
    elsewhere = elsewhere_of d1 outside;
  }
