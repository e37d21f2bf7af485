-- A folder opened after a look at the disk.
use Rattle.{std.proofs.Common.{◌≡◌, ℕ, Bool, List, subst, sym, arith}, echo_addr.specs.declared.address.Address.Address, base_file.specs.Base.Base}
use Rattle.disk_io.{specs.{Disk.{DiskState, Files}, Runs.ChangesNothing}, proofs.Moments.nothing_twice}
use Rattle.{base_log.proofs.{Keeping.{outside_quiet, outside_twice}, Quiet.seen_quiet as seen_same}, base_folder.specs.Ours.{IsLeftAlone, IsNotOurs}}
use Rattle.base_folder.{specs.{Unopened.OpensOnly, Wrong.IsSound, declared.open_error.OpenError.OpenError}, proofs.Openings.opened_run_since}
use Rattle.{station_bases.specs.Opening.IsNotOpened, cmd_status.specs.declared.fault.Fault.Fault, base_folder_store.specs.Held.RepresentsBase}

pub quiet_represented : (keyed : ℕ → ℕ → List ℕ → ℕ) (path : List ℕ) (base : Base) (d e : DiskState) → ChangesNothing d e → RepresentsBase keyed path base d.seen → RepresentsBase keyed path base e.seen
quiet_represented keyed path base d e quiet represented = subst (λ (f : Files). RepresentsBase keyed path base f) (sym (seen_same d e quiet)) represented

left_alone : (d e f : DiskState) (why : OpenError) → ChangesNothing d e → IsLeftAlone e f why → IsLeftAlone d f why
left_alone d e f h4 quiet left = grind (arith, nothing_twice)

-- a refusal after a look, for the system that the link file names
pub not_opened : (own other : Address) (strange : Bool) (base path : List ℕ) (part failed : Type 0) (d e f : DiskState) (fault : Fault) → other ≡ own → (part → failed) → ChangesNothing d e
    → IsNotOpened other strange base path part e f fault → IsNotOpened own strange base path failed d f fault
not_opened own other strange base path part failed d e f fault same more quiet shut = record {
  why = shut.why;
  wrong = subst (λ (a : Address). IsNotOurs a strange path d.seen shut.why) same (subst (λ (files : Files). IsNotOurs other strange path files shut.why) (seen_same d e quiet) shut.wrong);
  left = left_alone d e f shut.why quiet shut.left;
  recorded = shut.recorded;
  cause = λ is. more (shut.cause is);
  untouched = λ none. nothing_twice d e f quiet (shut.untouched (λ sound. none (subst (λ (files : Files). IsSound strange path files) (seen_same d e quiet) sound)));
}

-- the same for a run
pub opens_since : (path : List ℕ) (d e f : DiskState) → ChangesNothing d e → OpensOnly path e f → OpensOnly path d f
opens_since path d e f quiet run = record {
  any_moment = λ honest keyed base represented. opened_run_since keyed path d e f base quiet (run.any_moment honest keyed base (quiet_represented keyed path base d e quiet represented));
  outside = outside_twice path d e f (outside_quiet path d e quiet) run.outside;
}
