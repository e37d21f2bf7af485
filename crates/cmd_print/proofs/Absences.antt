-- The lines of the systems that a nodelist does not hold.
use Rattle.std.{specs.{Prelude.{AllPairs, Contains, ◌↔◌, true}, List.flat_map}, proofs.Common.{◌≡◌, ℕ, List, ◌++◌, Some, refl}}
use Rattle.{echo_addr.specs.declared.address.Address.Address, echo_links.specs.Links.LinkFile, echo_filed.specs.Sets.address_before}
use Rattle.{echo_nodelist.specs.declared.line.Line.Line, model_run.specs.Tidy.Carries, echo_verdict.specs.{declared.presence.Absence.Absence, Absent.IsAbsent}}
use Rattle.cmd_print.specs.{Checked.{AbsencesShown, absence_line}, Pushed.Pushes}

pub absences_pushed : (files : List LinkFile) (tag : List ℕ) (list : List Line) (absent : List (Address × Absence)) (old new : List ℕ)
    → AllPairs (λ (one later : Address × Absence). address_before one.0 later.0 ≡ true) absent
    → ((a : Address) (why : Absence) → Contains absent (a, why) ↔ (Carries files tag a × IsAbsent list a why))
    → new ≡ old ++ flat_map absence_line absent → Pushes (AbsencesShown files tag (Some list)) old new
absences_pushed files tag list absent old new ascending members whole = record {
  lines = flat_map absence_line absent;
  are = (absent, record { ascending = ascending; members = members }, refl);
  whole = whole;
}
