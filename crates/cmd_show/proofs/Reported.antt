-- The faulty lines of a file, and its first fault.
use Rattle.std.proofs.Common.{◌≡◌, ℕ, ◌+◌, Bool, true, false, cond, List, [], ◌∷◌, ◌++◌, refl, sym, ap, ◌∙◌, Option, Some, None, Result, Err, ◌⊎◌, append_assoc, append-nil, arith}
use Rattle.std.{proofs.lemmas.Bool.{cases_Bool, true≢false}, specs.{Prelude.{option_map, slice_get}, Option.option_or, List.list_any}}
use Rattle.echo_links.specs.{LinkLines.LinksOf, LinkLines.file_fault, LinkLines.file_lines, LinkLines.first_fault, LinkLines.is_system_line, LinkLines.line_fault, LinkLines.read_lines, declared.fault.LinkFault.LinkFault, Links.LinkFile}
use Rattle.echo_links.specs.declared.fault.LinkFault.TheVariants as fault
use Rattle.echo_links.proofs.LinkBytes.{no_lines_left}
use Rattle.cmd_show.specs.{FaultyLines.faults_of, FaultyLines.faulty_among, FaultyLines.faulty_lines, FaultyLines.good_with, FaultyLines.reported_lines, FaultyLines.reported_with, declared.faulty.FaultyLine.FaultyLine, declared.words.FaultyWord.FaultyWord, declared.judged.Judged.TheVariants.Faulty, Judging.IsJudged, Judging.is_memory, Before.IsBefore, Before.JudgesLine, Before.SaidBefore, Before.line_reported}

-- ---- line by line

-- this many lines were judged, these faulty ones were found, and these bytes are left
pub record ReportedLines (bytes : List ℕ) (number : ℕ) (rest : List ℕ) (b : SaidBefore) (found : List FaultyLine) : Type 0 where
  pub earlier : List (List ℕ)
  pub before : IsBefore earlier b
  pub reported : faulty_lines bytes ≡ found ++ faulty_among earlier (number + 1) (file_lines rest)

pub none_reported : (bytes : List ℕ) (b : SaidBefore) (found : List FaultyLine) → b ≡ record { system = false; name = false; tags = [] } → found ≡ [] → ReportedLines bytes 0 bytes b found
unfolding faulty_lines
none_reported bytes b found begun none = grind arith

line_first : (earlier : List (List ℕ)) (number : ℕ) (line : List ℕ) (later : List (List ℕ)) (new : SaidBefore) (wrong : Option FaultyWord) → JudgesLine earlier number line new wrong
    → (good : List (List ℕ)) × IsBefore good new × (faulty_among earlier number (line ∷ later) ≡ line_reported wrong ++ faulty_among good (number + 1) later)
line_first earlier number line later new wrong h1 = grind arith

pub one_reported : (bytes : List ℕ) (number : ℕ) (rest line after : List ℕ) (old new : SaidBefore) (found more : List FaultyLine) (wrong : Option FaultyWord)
    (so : ReportedLines bytes number rest old found) → file_lines rest ≡ line ∷ file_lines after → JudgesLine so.earlier (number + 1) line new wrong
    → more ≡ found ++ line_reported wrong → ReportedLines bytes (number + 1) after new more
one_reported bytes number rest line after old new found more wrong so next judged added = grind (arith, line_first, append_assoc)

pub all_reported : (bytes : List ℕ) (number : ℕ) (rest : List ℕ) (b : SaidBefore) (found : List FaultyLine) → ReportedLines bytes number rest b found → rest ≡ [] → found ≡ faulty_lines bytes
all_reported bytes number rest b found so none =
    sym (so.reported ∙ ap (λ ls. found ++ faulty_among so.earlier (number + 1) ls) (ap file_lines none ∙ no_lines_left) ∙ append-nil found)

-- ---- the first fault

first_of_lines : (earlier : List (List ℕ)) (number : ℕ) (lines : List (List ℕ)) (why : LinkFault) → first_fault earlier number lines ≡ Some why
    → option_map (λ (l : FaultyLine). l.fault) (slice_get (faulty_among earlier number lines) 0) ≡ Some why
first_of_lines earlier number [] why h = absurd (cc)
first_of_lines earlier number (line ∷ later) why h = by (first_of_lines (line ∷ earlier) (number + 1) later why) (line_fault earlier number line) refl
  where
    by : (first_fault (line ∷ earlier) (number + 1) later ≡ Some why
        → option_map (λ (l : FaultyLine). l.fault) (slice_get (faulty_among (line ∷ earlier) (number + 1) later) 0) ≡ Some why)
        → (o : Option LinkFault) → line_fault earlier number line ≡ o
        → option_map (λ (l : FaultyLine). l.fault) (slice_get (faulty_among earlier number (line ∷ later)) 0) ≡ Some why
    by behind None is =
        ap (λ f. option_map (λ (l : FaultyLine). l.fault) (slice_get (reported_with f line (faulty_among (good_with f line earlier) (number + 1) later)) 0)) is
        ∙ behind (sym (ap (λ f. option_or f (first_fault (line ∷ earlier) (number + 1) later)) is) ∙ h)
    by behind (Some f) is =
        ap (λ f. option_map (λ (l : FaultyLine). l.fault) (slice_get (reported_with f line (faulty_among (good_with f line earlier) (number + 1) later)) 0)) is
        ∙ sym (ap (λ f. option_or f (first_fault (line ∷ earlier) (number + 1) later)) is) ∙ h

of_lines : (first : Option LinkFault) (has : Bool) (why : LinkFault) → ((n : ℕ) → why ≡ fault.NoSystem n → ⊥)
    → option_or first (cond has None (Some (fault.NoSystem 0))) ≡ Some why → first ≡ Some why
of_lines first has why h1 h2 = grind arith

module _ (bytes : List ℕ) where
  of_a_line : (why : LinkFault) → file_fault bytes ≡ Some why → ((n : ℕ) → why ≡ fault.NoSystem n → ⊥)
      → option_map (λ (l : FaultyLine). l.fault) (slice_get (faulty_lines bytes) 0) ≡ Some why
  unfolding file_fault faulty_lines
  of_a_line why is other =
      first_of_lines [] 1 (file_lines bytes) why (of_lines (first_fault [] 1 (file_lines bytes)) (list_any is_system_line (read_lines bytes)) why other is)

  by_fault : (o : Option LinkFault) → file_fault bytes ≡ o → option_map (λ (l : FaultyLine). l.fault) (slice_get (reported_lines bytes o) 0) ≡ o
  by_fault o h1 = grind (arith, cases_Bool, of_a_line, true≢false)

  pub first_reported : option_map (λ (l : FaultyLine). l.fault) (slice_get (faults_of bytes) 0) ≡ file_fault bytes
  unfolding faults_of
  first_reported = by_fault (file_fault bytes) refl

  pub reported_with_fault : (why : LinkFault) (reported : List FaultyLine) → file_fault bytes ≡ Some why → reported ≡ reported_lines bytes (Some why) → reported ≡ faults_of bytes
  unfolding faults_of
  reported_with_fault why reported is so = so ∙ ap (reported_lines bytes) (sym is)

pub judged_faulty : (bytes : List ℕ) (why : LinkFault) (reported : List FaultyLine) (read : Result LinkFile LinkFault) → read ≡ Err why
    → (read ≡ Err fault.Memory) ⊎ LinksOf bytes read → is_memory why ≡ false → reported ≡ reported_lines bytes (Some why) → IsJudged bytes (Faulty reported)
judged_faulty bytes why reported read is judged other so = grind (arith, true≢false, reported_with_fault)
