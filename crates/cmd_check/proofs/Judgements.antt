-- The lines of a net with supposed and left out systems, from those of their parts.
use Rattle.std.proofs.Common.{◌≡◌, ◌⊎◌, inl, inr, ℕ, ◌&&◌, Bool, true, false, List, [], ◌∷◌, ◌++◌, Contains, length, Option, None, Ok, Err, Result, is_none, refl, sym, ap, subst, ◌∙◌, arith, append_assoc, append-nil}
use Rattle.{std.specs.List.{AllZip, count_by, flat_map}, echo_addr.specs.declared.address.Address.Address, echo_links.specs.Links.LinkFile}
use Rattle.{echo_nodelist.specs.declared.line.Line.Line, model_run.specs.{Tidy.Tidy, AnyState.NewMessagesAreInOrder}, cmd_status.specs.Devices.Output}
use Rattle.cmd_status.specs.{declared.{fault.Fault.Fault, status.Status.{Status, TheVariants.Good}}, Ended.{Answers, IsOutOfMemory}}
use Rattle.{cmd_status.{specs.Inputs.{AreLinkFiles, IsFirstFaultGiven, IsLinkFault, IsNodelistGiven}, proofs.Lines.alone}, cmd_print.specs.Pushed.Pushes}
use Rattle.cmd_check.specs.{CheckingAll.{IsAreaChecked, verdicts_status}, declared.supposing.Judged.{Judged, TheVariants.{Ended, Unknown}}}
use Rattle.cmd_check.specs.JudgedAreas.{AreAreasJudged, AreCutWithout, AreNetLines, AreTailLines, CutsShown, IsAreaJudged, IsVerdictLeft, JudgedNet, alone_line, cut_line, is_alone, judged_areas_line, tail_lines, without_line}
use Rattle.cmd_check.specs.Supposing.{AreJudgedTags, EndsOrUnknown, IsFirstUnknown, IsJudged, IsJudgingFault, IsKnownFault, IsKnownJudged, IsLeftShown, IsNetShown, IsPromisedSupposing, IsSupposingShown, IsWhole, IsWrittenFault, SupposingAnswers, ended_as}
use Rattle.cmd_check.proofs.{Checks.one_reading, Printing.answers_as, AllAreas.{all_yes, area_in_order, area_tidy, each_tag, in_order, of_tag, status_good}}
use Rattle.cmd_suppose.specs.{Assuming.assumed_line, Leaving.{first_unknown, texts_left}, Parts.AreCutOff}
use Rattle.cmd_suppose.specs.SupposedFiles.{AreSupposed, AreUnseen, IsSupposedFile, ReadsSupposed, supposed_here, unseen_line}

module _ (net : JudgedNet) (list : Option (List Line)) (more listed : Bool) where
  -- all lines of an area
  pub area_judged : (tag : List ℕ) (noes : ℕ) (old mid new : List ℕ)
      → Pushes (IsVerdictLeft (is_alone net.whole net.left tag) net.left list more tag noes) old mid
      → Pushes (AreTailLines net listed tag) mid new → Pushes (IsAreaJudged net list more listed tag noes) old new
  area_judged tag noes old mid new head tail = record {
    lines = head.lines ++ tail.lines;
    are = record { head = head.lines; judged = head.are; tail = tail.lines; are_tail = tail.are; whole = refl };
    whole = tail.whole ∙ ap (λ l. l ++ tail.lines) head.whole ∙ append_assoc old head.lines tail.lines;
  }

  verdict_in_order : (alone : Bool) (tag : List ℕ) (noes : ℕ) (lines : List ℕ) → IsVerdictLeft alone net.left list more tag noes lines → noes ≡ 0 → alone ≡ false
      → Tidy net.left tag × NewMessagesAreInOrder net.left tag
  verdict_in_order true tag noes lines is none other = absurd cc
  verdict_in_order false tag noes lines is none other = area_in_order net.left list more tag noes lines is none

  verdict_tidy : (alone : Bool) (tag : List ℕ) (noes : ℕ) (lines : List ℕ) → IsVerdictLeft alone net.left list more tag noes lines → (alone ≡ false → Tidy net.left tag) → noes ≡ 0
  verdict_tidy true tag noes lines is tidy = is.0
  verdict_tidy false tag noes lines is tidy = area_tidy net.left list more tag noes lines is (tidy refl)

  -- the lines of a net, and the status
  pub net_shown : (tags : List (List ℕ)) (noes : ℕ) (none lines : List ℕ) (status : Status) → none ≡ [] → Pushes (AreNetLines net list more listed tags noes) none lines
      → status ≡ verdicts_status noes → IsNetShown net list more listed tags lines status
  net_shown tags noes none lines status nothing pushed ended =
      let (front, areas, whole) = pushed.are in
      let Ordered : List ℕ → Type 0 = λ tag. is_alone net.whole net.left tag ≡ false → Tidy net.left tag × NewMessagesAreInOrder net.left tag in
      let Tidied : List ℕ → Type 0 = λ tag. is_alone net.whole net.left tag ≡ false → Tidy net.left tag in
      let one : (tag : List ℕ) (n : ℕ) (own : List ℕ) → IsAreaJudged net list more listed tag n own → n ≡ 0 → Ordered tag =
      λ tag n own is none. verdict_in_order (is_alone net.whole net.left tag) tag n is.head is.judged none in
      let back : (tag : List ℕ) (n : ℕ) (own : List ℕ) → IsAreaJudged net list more listed tag n own → Tidied tag → n ≡ 0 =
      λ tag n own is tidy. verdict_tidy (is_alone net.whole net.left tag) tag n is.head is.judged tidy in
      let ordered : status ≡ Good → (tag : List ℕ) → Contains tags tag → Ordered tag =
      λ good tag there. of_tag Ordered tags tag (in_order (IsAreaJudged net list more listed) Ordered one tags noes front areas (status_good noes (sym ended ∙ good))) there in
      record {
        noes = noes;
        printed = subst (AreNetLines net list more listed tags noes) (sym (alone none lines pushed.lines nothing pushed.whole)) pushed.are;
        status_is = ended;
        tidy = (
          λ good tag there has. (ordered good tag there has).0,
          λ tidy. ended ∙ ap verdicts_status (all_yes (IsAreaJudged net list more listed) Tidied back tags noes front areas (each_tag Tidied tags tidy)),
        );
        orderly = λ good tag there has. (ordered good tag there has).1;
      }

-- the line of an area without a verdict, and those of a verdict
pub alone_pushed : (alone : Bool) (left : List LinkFile) (list : Option (List Line)) (more : Bool) (tag old new : List ℕ) → alone ≡ true → new ≡ old ++ alone_line tag
    → Pushes (IsVerdictLeft alone left list more tag 0) old new
alone_pushed true left list more tag old new is pushed = record { lines = alone_line tag; are = (refl, refl); whole = pushed }
alone_pushed false left list more tag old new is pushed = absurd cc

pub verdict_pushed : (alone : Bool) (left : List LinkFile) (list : Option (List Line)) (more : Bool) (tag : List ℕ) (noes : ℕ) (old new : List ℕ) → alone ≡ false
    → Pushes (IsAreaChecked left list more tag noes) old new → Pushes (IsVerdictLeft alone left list more tag noes) old new
verdict_pushed true left list more tag noes old new is pushed = absurd cc
verdict_pushed false left list more tag noes old new is pushed = pushed

-- the lines of the areas, and that of their numbers
pub net_pushed : (net : JudgedNet) (list : Option (List Line)) (more listed : Bool) (tags : List (List ℕ)) (areas alone noes : ℕ) (asked : Bool) (old mid new : List ℕ)
    → Pushes (AreAreasJudged net list more listed tags noes) old mid → asked ≡ (listed && more) → areas ≡ length tags → alone ≡ count_by (is_alone net.whole net.left) tags
    → new ≡ mid ++ judged_areas_line asked areas alone noes → Pushes (AreNetLines net list more listed tags noes) old new
net_pushed net list more listed tags areas alone noes asked old mid new front is count lone pushed =
    let line : List ℕ = judged_areas_line (listed && more) (length tags) (count_by (is_alone net.whole net.left) tags) noes in
    let same : judged_areas_line asked areas alone noes ≡ line =
    ap (λ b. judged_areas_line b areas alone noes) is ∙ ap (λ n. judged_areas_line (listed && more) n alone noes) count
    ∙ ap (λ n. judged_areas_line (listed && more) (length tags) n noes) lone in
    record {
      lines = front.lines ++ line;
      are = (front.lines, front.are, refl);
      whole = pushed ∙ ap (λ l. mid ++ l) same ∙ ap (λ l. l ++ line) front.whole ∙ append_assoc old front.lines line;
    }

-- the lines after those of the verdict
pub tail_pushed : (net : JudgedNet) (listed : Bool) (tag : List ℕ) (here unseen : List Address) (old a b c new : List ℕ)
    → here ≡ supposed_here listed net.given tag net.assumed → AreUnseen net.whole tag net.out here unseen → a ≡ old ++ flat_map assumed_line here
    → b ≡ a ++ unseen_line unseen → Pushes (CutsShown net.out net.left tag) b c → new ≡ c ++ flat_map without_line net.out
    → Pushes (AreTailLines net listed tag) old new
tail_pushed net listed tag here unseen old a b c new same are first second third fourth =
    let (cut, is_cut, shown) = third.are in
    record {
      lines = tail_lines here unseen cut net.out;
      are = record {
        unseen = unseen;
        are_unseen = subst (λ (h : List Address). AreUnseen net.whole tag net.out h unseen) same are;
        cut = cut;
        are_cut = is_cut;
        whole = ap (λ h. tail_lines h unseen cut net.out) same;
      };
      whole = fourth ∙ ap (λ l. l ++ flat_map without_line net.out) (third.whole ∙ ap (λ l. b ++ l) shown)
          ∙ ap (λ l. (l ++ flat_map cut_line cut) ++ flat_map without_line net.out) (second ∙ ap (λ l. l ++ unseen_line unseen) first)
          ∙ append_assoc ((old ++ flat_map assumed_line here) ++ unseen_line unseen) (flat_map cut_line cut) (flat_map without_line net.out)
          ∙ append_assoc (old ++ flat_map assumed_line here) (unseen_line unseen) (flat_map cut_line cut ++ flat_map without_line net.out)
          ∙ append_assoc old (flat_map assumed_line here) (unseen_line unseen ++ (flat_map cut_line cut ++ flat_map without_line net.out));
    }

-- the lines of no parts, and of those that are cut off
pub none_cut : (out : List Address) (left : List LinkFile) (tag lines : List ℕ) → length out ≡ 0 → Pushes (CutsShown out left tag) lines lines
none_cut [] left tag lines none = record { lines = []; are = ([], refl, refl); whole = sym (append-nil lines) }
none_cut (a ∷ out) left tag lines none = absurd (omega (arith, none))

are_cut : (out : List Address) (left : List LinkFile) (tag : List ℕ) (cut : List (List Address)) → (length out ≡ 0 → ⊥) → AreCutOff left tag cut → AreCutWithout out left tag cut
are_cut [] left tag cut some are = absurd (some refl)
are_cut (a ∷ out) left tag cut some are = are

pub some_cut : (out : List Address) (left : List LinkFile) (tag : List ℕ) (cut : List (List Address)) (old new : List ℕ) → (length out ≡ 0 → ⊥) → AreCutOff left tag cut
    → new ≡ old ++ flat_map cut_line cut → Pushes (CutsShown out left tag) old new
some_cut out left tag cut old new some are pushed =
    record { lines = flat_map cut_line cut; are = (cut, are_cut out left tag cut some are, refl); whole = pushed }

-- a supposed system's file that is refused
pub supposed_refused : (files : List LinkFile) (tags : List (List ℕ)) (named : List Address) (missing listed : Bool) (out assumed : List Address) (fault : Fault)
    → AreSupposed files tags named missing assumed
    → IsOutOfMemory fault ⊎ ((texts : List (List ℕ)) × AllZip (IsSupposedFile listed files tags) assumed texts × IsLinkFault texts fault)
    → IsOutOfMemory fault ⊎ IsJudgingFault files tags named missing listed out fault
supposed_refused files tags named missing listed out assumed fault are (inl memory) = inl memory
supposed_refused files tags named missing listed out assumed fault are (inr found) =
    inr (inl (record { assumed = assumed; are_supposed = are; texts = found.0; are_texts = found.1; fault_is = found.2 }))

-- the answer on all files is that on the given ones
pub was_judged : (files : List LinkFile) (list : Option (List Line)) (more listed : Bool) (tags : List (List ℕ)) (named : List Address) (missing : Bool) (out assumed : List Address)
    (whole : List LinkFile) (old new : Output) (answer : Result Status Fault) → AreSupposed files tags named missing assumed → ReadsSupposed listed files tags assumed whole
    → Answers (IsLeftShown files whole assumed out list more listed tags) (IsLinkFault (texts_left out whole)) old new answer
    → Answers (IsJudged files list more listed tags named missing out) (IsJudgingFault files tags named missing listed out) old new answer
was_judged files list more listed tags named missing out assumed whole old new answer are reads shown =
    let is_whole : IsWhole files tags named missing listed assumed whole = record { are_supposed = are; reads = reads } in
    answers_as (IsLeftShown files whole assumed out list more listed tags) (IsJudged files list more listed tags named missing out)
    (IsLinkFault (texts_left out whole)) (IsJudgingFault files tags named missing listed out) old new answer
    (λ lines status is. record { assumed = assumed; whole = whole; is_whole = is_whole; shown = is })
    (λ fault is. inr (record { assumed = assumed; whole = whole; is_whole = is_whole; fault_is = is })) shown

-- the answer of a net is that of the command
pub ended_answers : (IsPart IsWhole : List ℕ → Status → Type 0) (IsFirst : Address → Type 0) (IsFault IsRefused : Fault → Type 0) (old new : Output) (answer : Result Status Fault)
    (result : Result Judged Fault) → ((lines : List ℕ) (a : Status) → IsPart lines a → IsWhole lines a) → ((fault : Fault) → IsFault fault → IsRefused fault)
    → Answers IsPart IsFault old new answer → result ≡ ended_as answer → EndsOrUnknown IsWhole IsFirst IsRefused old new result
ended_answers IsPart IsWhole IsFirst IsFault IsRefused old new (Ok status) result lines faults shown is =
    subst (EndsOrUnknown IsWhole IsFirst IsRefused old new) (sym is) (answers_as IsPart IsWhole IsFault IsRefused old new (Ok status) lines faults shown)
ended_answers IsPart IsWhole IsFirst IsFault IsRefused old new (Err fault) result lines faults shown is =
    subst (EndsOrUnknown IsWhole IsFirst IsRefused old new) (sym is) (answers_as IsPart IsWhole IsFault IsRefused old new (Err fault) lines faults shown)

-- the answer in the judged areas is that on the files
pub known_judged : (files : List LinkFile) (list : Option (List Line)) (more : Bool) (tag : Option (List ℕ)) (named : List Address) (missing : Bool) (out : List Address) (tags : List (List ℕ)) (listed : Bool)
    (old new : Output) (answer : Result Status Fault) → AreJudgedTags files tag out tags → listed ≡ is_none tag
    → Answers (IsJudged files list more listed tags named missing out) (IsJudgingFault files tags named missing listed out) old new answer
    → Answers (IsKnownJudged files list more tag named missing out) (IsKnownFault files tag named missing out) old new answer
known_judged files list more tag named missing out tags listed old new answer are is judged =
    answers_as (IsJudged files list more listed tags named missing out) (IsKnownJudged files list more tag named missing out)
    (IsJudgingFault files tags named missing listed out) (IsKnownFault files tag named missing out) old new answer
    (λ lines status shown. (tags, are, subst (λ (b : Bool). IsJudged files list more b tags named missing out lines status) is shown))
    (λ fault refused. (tags, are, subst (λ (b : Bool). IsJudgingFault files tags named missing b out fault) is refused)) judged

-- the answer for the given inputs
pub supposing_ended : (nodelist : Option (List ℕ)) (list : Option (List Line)) (more : Bool) (tag : Option (List ℕ)) (inputs : List (List ℕ)) (files : List LinkFile) (named : List Address)
    (missing : Bool) (out : List Address) (stopped : Option Fault) (old new : Output) (answer : Result Status Fault) (result : Result Judged Fault)
    → AreLinkFiles inputs files → IsNodelistGiven nodelist list → first_unknown files out ≡ None → stopped ≡ None
    → Answers (IsKnownJudged files list more tag named missing out) (IsKnownFault files tag named missing out) old new answer → result ≡ ended_as answer
    → SupposingAnswers nodelist more tag inputs named missing out stopped old new result
supposing_ended nodelist list more tag inputs files named missing out stopped old new answer result are is_list known whole judged is =
    ended_answers (IsKnownJudged files list more tag named missing out) (λ lines status. IsSupposingShown nodelist more tag inputs named missing out lines status × (stopped ≡ None))
    (λ a. IsFirstUnknown nodelist inputs out a × (stopped ≡ None)) (IsKnownFault files tag named missing out)
    (λ fault. IsFirstFaultGiven nodelist inputs stopped fault ⊎ IsWrittenFault tag inputs named missing out fault) old new answer result
    (λ lines status shown. (record { files = files; are_files = are; list = list; is_list = is_list; known = known; judged = shown }, whole))
    (λ fault refused. inr (record { files = files; are_files = are; fault_is = refused })) judged is

-- a 0 holds for each run
promised_at : (files : List LinkFile) (list : Option (List Line)) (more : Bool) (tag : Option (List ℕ)) (named : List Address) (missing : Bool) (out : List Address) (lines : List ℕ)
    (status : Status) → IsKnownJudged files list more tag named missing out lines status → status ≡ Good → IsPromisedSupposing files tag named missing out
promised_at files list more tag named missing out lines status (tags, are, judged) good =
    let (left, are_left, shown) = judged.shown in
    record {
      tags = tags;
      are_tags = are;
      assumed = judged.assumed;
      whole = judged.whole;
      is_whole = judged.is_whole;
      left = left;
      are_left = are_left;
      tidy = shown.tidy.0 good;
      orderly = shown.orderly good;
    }

pub headline_supposing : (nodelist : Option (List ℕ)) (more : Bool) (tag : Option (List ℕ)) (inputs : List (List ℕ)) (named : List Address) (missing : Bool) (out : List Address)
    (stopped : Option Fault) (old new : Output) (answer : Result Judged Fault) → SupposingAnswers nodelist more tag inputs named missing out stopped old new answer
    → answer ≡ Ok (Ended Good) → (links : List LinkFile) → AreLinkFiles inputs links → IsPromisedSupposing links tag named missing out
headline_supposing nodelist more tag inputs named missing out stopped old new (Ok (Ended status)) is good links are =
    let done = is.right.0 in
    let ended : status ≡ Good = cc in
    subst (λ (f : List LinkFile). IsPromisedSupposing f tag named missing out) (one_reading inputs done.files links done.are_files are)
    (promised_at done.files done.list more tag named missing out is.lines status done.judged ended)
headline_supposing nodelist more tag inputs named missing out stopped old new (Ok (Unknown a)) is good links are = absurd cc
headline_supposing nodelist more tag inputs named missing out stopped old new (Err fault) is good links are = absurd cc
