-- The lines of `check`.
use Rattle.std.specs.{Prelude.{◌≡◌, ℕ, ◌↔◌, true, AllPairs, Contains, List, [], ◌++◌, codes, decimal, Option, Some, None}, List.flat_map}
use Rattle.{echo_addr.specs.{declared.address.Address.Address, Address.address_text}, echo_charset.specs.Words.printed_word, echo_links.specs.Links.LinkFile}
use Rattle.{echo_filed.specs.Sets.address_before, echo_nodelist.specs.declared.line.Line.Line, model_run.specs.Tidy.Carries}
use Rattle.echo_verdict.specs.declared.{presence.Absence.{Absence, TheVariants.{Missing, Down}}, verdict.Verdict.{Verdict, TheVariants.{Yes, No}}}
use Rattle.echo_verdict.specs.{Absent.IsAbsent, Printed.fault_text}

-- The line of an area in order, with its numbers of systems and links; the tag is printed as a word.
abbrev pub yes_text : List ℕ → ℕ → ℕ → List ℕ
yes_text tag systems links = codes "yes " ++ (printed_word tag ++ (codes " " ++ (decimal systems ++ (codes " systems " ++ (decimal links ++ codes " links")))))

abbrev pub verdict_text : List ℕ → Verdict → List ℕ
verdict_text tag (Yes systems links) = yes_text tag systems links
verdict_text tag (No fault) = codes "no " ++ (printed_word tag ++ (codes " " ++ fault_text fault))

abbrev pub verdict_line : List ℕ → Verdict → List ℕ
verdict_line tag verdict = verdict_text tag verdict ++ codes "\n"

abbrev pub absence_word : Absence → List ℕ
absence_word Missing = codes "unlisted "
absence_word Down = codes "down "

abbrev pub absence_line : Address × Absence → List ℕ
absence_line (a, why) = absence_word why ++ (address_text a ++ codes "\n")

-- Exactly the carriers that the nodelist does not hold, ascending, with the reason.
pub record AreAbsent (files : List LinkFile) (tag : List ℕ) (list : List Line) (absent : List (Address × Absence)) : Type 0 where
  pub ascending : AllPairs (λ (one later : Address × Absence). address_before one.0 later.0 ≡ true) absent
  pub members : (a : Address) (why : Absence) → Contains absent (a, why) ↔ (Carries files tag a × IsAbsent list a why)

-- Their lines; none without a nodelist.
abbrev pub AbsencesShown : List LinkFile → List ℕ → Option (List Line) → List ℕ → Type 0
AbsencesShown files tag None lines = lines ≡ []
AbsencesShown files tag (Some list) lines = (absent : List (Address × Absence)) × AreAbsent files tag list absent × (lines ≡ flat_map absence_line absent)

-- The line of the verdict, and then those of the systems that the nodelist does not hold.
pub record CheckShown (files : List LinkFile) (tag : List ℕ) (list : Option (List Line)) (verdict : Verdict) (lines : List ℕ) : Type 0 where
  pub absent : List ℕ
  pub shown : AbsencesShown files tag list absent
  pub whole : lines ≡ verdict_line tag verdict ++ absent
