-- The answer of `check` with supposed systems, and with left out ones.
use Rattle.std.specs.{Prelude.{◌≡◌, ◌↔◌, ◌⊎◌, ℕ, Bool, false, List, [], ◌∷◌, Contains, filter, is_none, Option, Some, None, Result, Ok, Err}, List.AllZip}
use Rattle.{echo_addr.specs.declared.address.Address.Address, echo_links.specs.Links.{LinkFile, upper}, echo_nodelist.specs.declared.line.Line.Line}
use Rattle.{model_run.specs.{Tidy.Tidy, AnyState.NewMessagesAreInOrder}, cmd_status.specs.{Devices.Output, declared.{fault.Fault.Fault, status.Status.Status}}}
use Rattle.cmd_status.specs.{declared.status.Status.TheVariants.Good, Ended.Answers, Inputs.{AreLinkFiles, IsFirstFaultGiven, IsLinkFault, IsNodelistGiven}}
use Rattle.cmd_check.specs.{AreaTags.AreAllTags, CheckingAll.verdicts_status, JudgedAreas.{AreNetLines, JudgedNet, is_alone, judged_net}}
use Rattle.cmd_check.specs.declared.supposing.Judged.{Judged, TheVariants.{Ended, Unknown}}
use Rattle.cmd_suppose.specs.{Leaving.{AreLeft, first_unknown, is_judged, texts_left}, SupposedFiles.{AreSupposed, IsSupposedFile, ReadsSupposed}}

-- The judged areas: that of the tag, or those of all that a file has that concern the left out systems.
abbrev pub AreJudgedTags : List LinkFile → Option (List ℕ) → List Address → List (List ℕ) → Type 0
AreJudgedTags files (Some tag) out tags = tags ≡ upper tag ∷ []
AreJudgedTags files None out tags = (all : List (List ℕ)) × AreAllTags files all × (tags ≡ filter (is_judged files out) all)

-- The supposed systems, the link file of each, and these as they are read.
pub record IsWhole (files : List LinkFile) (tags : List (List ℕ)) (named : List Address) (missing listed : Bool) (assumed : List Address) (whole : List LinkFile) : Type 0 where
  pub are_supposed : AreSupposed files tags named missing assumed
  pub reads : ReadsSupposed listed files tags assumed whole

-- Each judged area that has a verdict has the property.
abbrev pub InEachArea : JudgedNet → List (List ℕ) → (List ℕ → Type 0) → Type 0
InEachArea net tags Holds = (tag : List ℕ) → Contains tags tag → is_alone net.whole net.left tag ≡ false → Holds tag

-- The lines on a net. The status is 0 exactly if each area with a verdict is tidy in what is left. Then each new message
-- of these areas is in order, if each supposed system has its file.
pub record IsNetShown (net : JudgedNet) (list : Option (List Line)) (more listed : Bool) (tags : List (List ℕ)) (lines : List ℕ) (status : Status) : Type 0 where
  pub noes : ℕ
  pub printed : AreNetLines net list more listed tags noes lines
  pub status_is : status ≡ verdicts_status noes
  pub tidy : (status ≡ Good) ↔ InEachArea net tags (Tidy net.left)
  pub orderly : status ≡ Good → InEachArea net tags (NewMessagesAreInOrder net.left)

-- The same of what is left of these files.
abbrev pub IsLeftShown : List LinkFile → List LinkFile → List Address → List Address → Option (List Line) → Bool → Bool → List (List ℕ) → List ℕ → Status → Type 0
IsLeftShown given whole assumed out list more listed tags lines status =
    (left : List LinkFile) × AreLeft out whole left × IsNetShown (judged_net given whole left assumed out) list more listed tags lines status

-- The lines on files that were read, for these words of the command line.
pub record IsJudged (files : List LinkFile) (list : Option (List Line)) (more listed : Bool) (tags : List (List ℕ)) (named : List Address) (missing : Bool) (out : List Address) (lines : List ℕ) (status : Status) : Type 0 where
  pub assumed : List Address
  pub whole : List LinkFile
  pub is_whole : IsWhole files tags named missing listed assumed whole
  pub shown : IsLeftShown files whole assumed out list more listed tags lines status

-- The link file of a supposed system has the fault.
pub record IsSupposedFault (files : List LinkFile) (tags : List (List ℕ)) (named : List Address) (missing listed : Bool) (fault : Fault) : Type 0 where
  pub assumed : List Address
  pub are_supposed : AreSupposed files tags named missing assumed
  pub texts : List (List ℕ)
  pub are_texts : AllZip (IsSupposedFile listed files tags) assumed texts
  pub fault_is : IsLinkFault texts fault

-- What is left of a link file has the fault.
pub record IsLeftFault (files : List LinkFile) (tags : List (List ℕ)) (named : List Address) (missing listed : Bool) (out : List Address) (fault : Fault) : Type 0 where
  pub assumed : List Address
  pub whole : List LinkFile
  pub is_whole : IsWhole files tags named missing listed assumed whole
  pub fault_is : IsLinkFault (texts_left out whole) fault

-- The fault of a file that is written for the judgement.
abbrev pub IsJudgingFault : List LinkFile → List (List ℕ) → List Address → Bool → Bool → List Address → Fault → Type 0
IsJudgingFault files tags named missing listed out fault =
    IsSupposedFault files tags named missing listed fault ⊎ IsLeftFault files tags named missing listed out fault

-- The lines on files that were read, in the judged areas.
abbrev pub IsKnownJudged : List LinkFile → Option (List Line) → Bool → Option (List ℕ) → List Address → Bool → List Address → List ℕ → Status → Type 0
IsKnownJudged files list more tag named missing out lines status =
    (tags : List (List ℕ)) × AreJudgedTags files tag out tags × IsJudged files list more (is_none tag) tags named missing out lines status

-- The fault of a file that is written for the judgement of these areas.
abbrev pub IsKnownFault : List LinkFile → Option (List ℕ) → List Address → Bool → List Address → Fault → Type 0
IsKnownFault files tag named missing out fault =
    (tags : List (List ℕ)) × AreJudgedTags files tag out tags × IsJudgingFault files tags named missing (is_none tag) out fault

-- The lines for the given inputs. Each left out address is known.
pub record IsSupposingShown (nodelist : Option (List ℕ)) (more : Bool) (tag : Option (List ℕ)) (inputs : List (List ℕ)) (named : List Address) (missing : Bool) (out : List Address) (lines : List ℕ) (status : Status) : Type 0 where
  pub files : List LinkFile
  pub are_files : AreLinkFiles inputs files
  pub list : Option (List Line)
  pub is_list : IsNodelistGiven nodelist list
  pub known : first_unknown files out ≡ None
  pub judged : IsKnownJudged files list more tag named missing out lines status

-- No file is of this left out address or lists it, and it is the first such.
pub record IsFirstUnknown (nodelist : Option (List ℕ)) (inputs : List (List ℕ)) (out : List Address) (a : Address) : Type 0 where
  pub files : List LinkFile
  pub are_files : AreLinkFiles inputs files
  pub list : Option (List Line)
  pub is_list : IsNodelistGiven nodelist list
  pub unknown : first_unknown files out ≡ Some a

-- The fault of a file that is written for these inputs.
pub record IsWrittenFault (tag : Option (List ℕ)) (inputs : List (List ℕ)) (named : List Address) (missing : Bool) (out : List Address) (fault : Fault) : Type 0 where
  pub files : List LinkFile
  pub are_files : AreLinkFiles inputs files
  pub fault_is : IsKnownFault files tag named missing out fault

-- The answer of a net in which each left out address is known.
abbrev pub ended_as : Result Status Fault → Result Judged Fault
ended_as (Ok status) = Ok (Ended status)
ended_as (Err fault) = Err fault

-- The right answer after an unknown address, or any other one.
abbrev pub EndsOrUnknown : (List ℕ → Status → Type 0) → (Address → Type 0) → (Fault → Type 0) → Output → Output → Result Judged Fault → Type 0
EndsOrUnknown IsRight IsUnknown IsRefused old new (Ok (Ended status)) = Answers IsRight IsRefused old new (Ok status)
EndsOrUnknown IsRight IsUnknown IsRefused old new (Ok (Unknown a)) = IsUnknown a × (new ≡ old)
EndsOrUnknown IsRight IsUnknown IsRefused old new (Err fault) = Answers IsRight IsRefused old new (Err fault)

-- The right result of judging a net with supposed and left out systems.
abbrev pub SupposingAnswers : Option (List ℕ) → Bool → Option (List ℕ) → List (List ℕ) → List Address → Bool → List Address → Option Fault → Output → Output → Result Judged Fault → Type 0
SupposingAnswers nodelist more tag inputs named missing out stopped old new answer =
    EndsOrUnknown (λ lines status. IsSupposingShown nodelist more tag inputs named missing out lines status × (stopped ≡ None))
    (λ a. IsFirstUnknown nodelist inputs out a × (stopped ≡ None))
    (λ fault. IsFirstFaultGiven nodelist inputs stopped fault ⊎ IsWrittenFault tag inputs named missing out fault) old new answer

-- The promise of a 0: each judged area that has a verdict is tidy in what is left of the files and of those of the
-- supposed systems, and each new message of it is in order.
pub record IsPromisedSupposing (files : List LinkFile) (tag : Option (List ℕ)) (named : List Address) (missing : Bool) (out : List Address) : Type 0 where
  pub tags : List (List ℕ)
  pub are_tags : AreJudgedTags files tag out tags
  pub assumed : List Address
  pub whole : List LinkFile
  pub is_whole : IsWhole files tags named missing (is_none tag) assumed whole
  pub left : List LinkFile
  pub are_left : AreLeft out whole left
  pub tidy : InEachArea (judged_net files whole left assumed out) tags (Tidy left)
  pub orderly : InEachArea (judged_net files whole left assumed out) tags (NewMessagesAreInOrder left)
