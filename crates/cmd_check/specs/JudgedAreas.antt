-- The lines of `check` on the areas of a net with supposed and left out systems.
use Rattle.std.specs.Prelude.{◌≡◌, ℕ, ◌-◌, ◌&&◌, Bool, true, false, not, List, [], ◌∷◌, ◌++◌, codes, decimal, length, Option, Result}
use Rattle.std.specs.List.{count_by, flat_map, list_any}
use Rattle.echo_addr.specs.{declared.address.Address.Address, Address.address_text}
use Rattle.{echo_charset.specs.Words.printed_word, echo_links.specs.Links.{LinkFile, has_area}, echo_nodelist.specs.declared.line.Line.Line}
use Rattle.{cmd_status.specs.{Devices.Output, declared.fault.Fault.Fault, Ended.Answers}, cmd_check.specs.CheckingAll.{AreEachChecked, IsAreaChecked}}
use Rattle.cmd_suppose.specs.{Assuming.{assumed_line, assumed_note, link_word}, Parts.AreCutOff}
use Rattle.cmd_suppose.specs.SupposedFiles.{AreUnseen, supposed_here, unseen_line, unseen_note}

-- The given files, these with those of the supposed systems, what is left of them, the supposed and the left out
-- systems.
pub record JudgedNet : Type 0 where
  pub given : List LinkFile
  pub whole : List LinkFile
  pub left : List LinkFile
  pub assumed : List Address
  pub out : List Address

abbrev pub judged_net : List LinkFile → List LinkFile → List LinkFile → List Address → List Address → JudgedNet
judged_net given whole left assumed out = record { given = given; whole = whole; left = left; assumed = assumed; out = out }

-- Whether only left out systems have the area.
abbrev pub is_alone : List LinkFile → List LinkFile → List ℕ → Bool
is_alone whole left tag = list_any (λ file. has_area file tag) whole && not (list_any (λ file. has_area file tag) left)

-- The line of an area that only left out systems have.
abbrev pub alone_line : List ℕ → List ℕ
alone_line tag = codes "alone " ++ (printed_word tag ++ codes "\n")

-- The line of a part that is cut off.
abbrev pub cut_line : List Address → List ℕ
cut_line part = codes "cut" ++ (flat_map link_word part ++ codes "\n")

-- The line of a left out system.
abbrev pub without_line : Address → List ℕ
without_line a = codes "without " ++ (address_text a ++ codes "\n")

-- The lines after those of the verdict.
abbrev pub tail_lines : List Address → List Address → List (List Address) → List Address → List ℕ
tail_lines here unseen cut out = flat_map assumed_line here ++ (unseen_line unseen ++ (flat_map cut_line cut ++ flat_map without_line out))

-- The parts that are cut off, if systems are left out.
abbrev pub AreCutWithout : List Address → List LinkFile → List ℕ → List (List Address) → Type 0
AreCutWithout [] left tag cut = cut ≡ []
AreCutWithout (a ∷ out) left tag cut = AreCutOff left tag cut

-- The lines of these parts.
abbrev pub CutsShown : List Address → List LinkFile → List ℕ → List ℕ → Type 0
CutsShown out left tag lines = (cut : List (List Address)) × AreCutWithout out left tag cut × (lines ≡ flat_map cut_line cut)

-- The lines of the verdict on what is left, and 1 if it is a no. An area that only left out systems have has no verdict.
abbrev pub IsVerdictLeft : Bool → List LinkFile → Option (List Line) → Bool → List ℕ → ℕ → List ℕ → Type 0
IsVerdictLeft true left list more tag noes lines = (noes ≡ 0) × (lines ≡ alone_line tag)
IsVerdictLeft false left list more tag noes lines = IsAreaChecked left list more tag noes lines

-- The lines after those of the verdict on an area.
pub record AreTailLines (net : JudgedNet) (listed : Bool) (tag : List ℕ) (lines : List ℕ) : Type 0 where
  pub unseen : List Address
  pub are_unseen : AreUnseen net.whole tag net.out (supposed_here listed net.given tag net.assumed) unseen
  pub cut : List (List Address)
  pub are_cut : AreCutWithout net.out net.left tag cut
  pub whole : lines ≡ tail_lines (supposed_here listed net.given tag net.assumed) unseen cut net.out

-- All lines of an area, and 1 if its verdict is a no.
pub record IsAreaJudged (net : JudgedNet) (list : Option (List Line)) (more listed : Bool) (tag : List ℕ) (noes : ℕ) (lines : List ℕ) : Type 0 where
  pub head : List ℕ
  pub judged : IsVerdictLeft (is_alone net.whole net.left tag) net.left list more tag noes head
  pub tail : List ℕ
  pub are_tail : AreTailLines net listed tag tail
  pub whole : lines ≡ head ++ tail

-- The lines of each of these areas, and the number of verdicts that are a no.
abbrev pub AreAreasJudged : JudgedNet → Option (List Line) → Bool → Bool → List (List ℕ) → ℕ → List ℕ → Type 0
AreAreasJudged net list more listed = AreEachChecked (IsAreaJudged net list more listed)

-- The last line: the number of areas, and the numbers of those with a yes and with a no. Some have no verdict. The line
-- is empty if it is not requested.
abbrev pub judged_areas_line : Bool → ℕ → ℕ → ℕ → List ℕ
judged_areas_line false areas alone noes = []
judged_areas_line true areas alone noes =
    codes "areas " ++ (decimal areas ++ (codes " yes " ++ (decimal (areas - alone - noes) ++ (codes " no " ++ (decimal noes ++ codes "\n")))))

-- All lines of a net, and the number of verdicts that are a no.
abbrev pub AreNetLines : JudgedNet → Option (List Line) → Bool → Bool → List (List ℕ) → ℕ → List ℕ → Type 0
AreNetLines net list more listed tags noes lines =
    (front : List ℕ) × AreAreasJudged net list more listed tags noes front
    × (lines ≡ front ++ judged_areas_line (listed && more) (length tags) (count_by (is_alone net.whole net.left) tags) noes)

-- The notes on the supposed systems, those behind which nothing was seen, and the left out ones.
abbrev pub without_note : List ℕ → Address → List ℕ
without_note begin a = begin ++ without_line a

abbrev pub supposed_notes : List ℕ → List Address → List Address → List Address → List ℕ
supposed_notes begin assumed unseen out = flat_map (assumed_note begin) assumed ++ (unseen_note begin unseen ++ flat_map (without_note begin) out)

-- The right result of printing these notes.
abbrev pub PrintsSupposed : List ℕ → List Address → List Address → List Address → Output → Output → Result (Unit {0}) Fault → Type 0
PrintsSupposed begin assumed unseen out old new answer = Answers (λ lines done. lines ≡ supposed_notes begin assumed unseen out) (λ fault. ⊥) old new answer
