-- A command that ran on a station leads to a net in which the station has the command's base.
use Rattle.std.{proofs.Common.{◌≡◌, ◌⊎◌, inl, inr, ⊎_elim, ◌∙◌, ℕ, List, Result, Ok, Err, refl, sym, subst, ap, arith}, specs.Prelude.IfErr}
use Rattle.{base_file.specs.Base.Base, disk_io.specs.{Disk.{DiskState, Files}, Runs.LeavesOnly}, echo_links.specs.{Links.LinkFile, LinkLines.LinksOf}}
use Rattle.model_run.{specs.Run.{change, nth}, proofs.{HarmLists.nth-changed as changed-there, Targets.some_same}}
use Rattle.{cmd_status.specs.{declared.fault.Fault.Fault, Devices.Output}, cmd_store.specs.declared.command_error.CommandError.{CommandError, TheVariants.Met}}
use Rattle.station.specs.{Place.{KeepsElsewhere, Place, SameElsewhere, RepresentsOrWasLeft}, Running.{IsRun, RunsIn, RepresentsAsBefore, RepresentsWhereMet}}
use Rattle.law_stations.specs.OnDisks.{AreAsMay, RefinesEvent, IsAfter, IsAsBefore, IsLinkedOn, IsStationAt, LeadsFarBy, ReadsLinks, ShowsStation}
use Rattle.law_stations.specs.{Commands.Command, Nets.with_base, Disks.Disks, Stopping.PartialEffect}

-- disks to which a command of this kind leads, on which the station has this base
pub record LeadsTo (IsCommand : Command → Type 0) (i : ℕ) (d : Disks) (next : Base) : Type 0 where
  pub after : Disks
  pub stations : after.net.stations ≡ change i (with_base next) d.net.stations
  pub command : Command
  pub is : IsCommand command
  pub leads : PartialEffect command d i after

-- the old base, or one that a command of this kind made
abbrev pub MadeOrHeld : (Command → Type 0) → ℕ → Disks → Base → Base → Type 0
MadeOrHeld IsCommand i d base next = (next ≡ base) ⊎ LeadsTo IsCommand i d next

module _ (place : Place) (links : List ℕ) (i : ℕ) (d : Disks) (old new : DiskState) (at : IsStationAt place links i old d) (kept : KeepsElsewhere place old new) where
  -- the base of the station
  abbrev pub base : Base
  base = at.shows.station.base

  -- the contents of the station's link file
  abbrev pub SaysIn : LinkFile → Type 0
  SaysIn file = LinksOf at.shows.station.links (Ok file)

  as-it-was : (c : Files) → c links ≡ old.seen links → place.represents base c → ShowsStation place links i c d
  as-it-was c linked represented =
      record { station = at.shows.station; there = at.shows.there; of_links = linked ∙ at.shows.of_links; represented = represented }

  pub says-so : (Reads : LinkFile → Type 0) → ReadsLinks Reads links old → (file : LinkFile) → Reads file → SaysIn file
  says-so Reads read file is =
      let of_links = read file is in subst (λ (b : List ℕ). LinksOf b (Ok file)) (some_same (sym of_links.seen ∙ at.shows.of_links)) of_links.judged

  outside-links : (c : Files) → SameElsewhere place old c → c links ≡ old.seen links
  outside-links c same = same links at.outside at.linked.named at.linked.flushed

  pub same-links : new.seen links ≡ old.seen links
  same-links = kept.seen links at.outside

  pub still-linked : IsLinkedOn links new
  still-linked = record { named = kept.named links at.outside at.linked.named; flushed = kept.flushed links at.outside at.linked.flushed }

  pub left-links : (c : Files) → new.may_leave c → c links ≡ old.seen links
  left-links c left = new.on_disk links still-linked.named still-linked.flushed c left ∙ same-links

  was-left : (c : Files) → RepresentsOrWasLeft place old base c → old.may_leave c ⊎ ShowsStation place links i c d
  was-left c (inl alone) = inr (as-it-was c (outside-links c alone.elsewhere) alone.represented)
  was-left c (inr was) = inl was

  is-as-before : RepresentsAsBefore place old new base → IsAsBefore place links i d new
  is-as-before it = grind (arith, as-it-was, same-links, still-linked, left-links)

  -- if a command met a fault
  module _ {A : Type 0} (IsAnswer : LinkFile → Base → Type 0) (Makes May : LinkFile → Base → Base → Type 0) (Reads : LinkFile → Type 0) (IsShut Stops : Fault → Type 0) (failed : Type 0) (result : Result A CommandError) where
    represented-so : IsRun IsAnswer Makes May place Reads failed old new result → (fault : Fault) → result ≡ Err (Met fault) → RepresentsAsBefore place old new base
    represented-so run fault is = subst (λ (r : Result A CommandError). IfErr r (RepresentsWhereMet place old new base)) is (run.runs base at.shows.represented).met

    pub stays : (out out_now : Output) → RunsIn IsAnswer Makes May place Reads IsShut Stops failed old new out out_now result → (fault : Fault) → result ≡ Err (Met fault)
        → IsAsBefore place links i d new ⊎ IsShut fault
    stays out out_now h1 fault h2 = grind (arith, is-as-before, represented-so)

  module _ (IsCommand : Command → Type 0) where
    pub led : (next : Base) (to : LeadsTo IsCommand i d next) → LeadsFarBy IsCommand i d to.after
    led next to = record { command = to.command; is = to.is; leads = to.leads }

    pub after-it : (next : Base) (to : LeadsTo IsCommand i d next) (c : Files) → c links ≡ old.seen links → place.represents next c → ShowsStation place links i c to.after
    after-it next to c linked represented = record {
      station = with_base next at.shows.station;
      there = ap (nth i) to.stations ∙ changed-there i (with_base next) at.shows.station d.net.stations at.shows.there;
      of_links = linked ∙ at.shows.of_links;
      represented = represented;
    }

    -- the disk after a command that made this base and committed it
    abbrev pub is-after : (next : Base) (to : LeadsTo IsCommand i d next) → place.represents next new.seen → ((c : Files) → new.may_leave c → place.represents next c) → IsAfter IsCommand place links i d new
    is-after next to seen represented = record {
      after = to.after;
      leads = led next to;
      at = record { shows = after-it next to new.seen same-links seen; linked = still-linked; outside = at.outside };
      on_disk = λ c since. after-it next to c (left-links c since) (represented c since);
    }

    may-be : (c : Files) → old.may_leave c ⊎ ShowsStation place links i c d → old.may_leave c ⊎ AreAsMay IsCommand place links i d c
    may-be c (inl was) = inl was
    may-be c (inr shows) = inr (record { after = d; leads = inl refl; shows = shows })

    module _ {A : Type 0} (IsAnswer : LinkFile → Base → Type 0) (Makes May : LinkFile → Base → Base → Type 0) (Reads : LinkFile → Type 0) (read : ReadsLinks Reads links old) (IsShut Stops : Fault → Type 0) (failed : Type 0) (result : Result A CommandError)
        (may : (file : LinkFile) (next : Base) → SaysIn file → May file base next → MadeOrHeld IsCommand i d base next)
        (makes : (file : LinkFile) (next : Base) → SaysIn file → Makes file base next → LeadsTo IsCommand i d next) where
      ran : IsRun IsAnswer Makes May place Reads failed old new result → RefinesEvent IsCommand place links i d old new result
      ran run = grind (arith, was-left, represented-so, same-links, still-linked, says-so, as-it-was, led, after-it, outside-links, ⊎_elim)

      not-run : (fault : Fault) → result ≡ Err (Met fault) → LeavesOnly old new (RepresentsOrWasLeft place old base) → RefinesEvent IsCommand place links i d old new result
      not-run fault is leaves = grind (arith, may-be, was-left, same-links, still-linked, ⊎_elim)

      pub does : (out out_now : Output) → RunsIn IsAnswer Makes May place Reads IsShut Stops failed old new out out_now result → RefinesEvent IsCommand place links i d old new result
      does out out_now h1 = grind (arith, ran, not-run)
