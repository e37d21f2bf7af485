-- The input files of a command: their parts, and the fault that it reports first.
use Rattle.std.specs.Prelude.{◌≡◌, ℕ, ◌⊎◌, List, [], ◌∷◌, ◌++◌, Option, Some, None, Ok, Err}
use Rattle.base_file.specs.{declared.fault.BaseFault.BaseFault, BaseFile.BaseFaultOf, BaseFile.LoadOf}
use Rattle.echo_filed.specs.Filed.{Filed}
use Rattle.echo_links.specs.{declared.fault.LinkFault.LinkFault, Links.LinkFile, LinkLines.LinksOf}
use Rattle.echo_nodelist.specs.{declared.fault.NodeFault.NodeFault, declared.line.Line.Line, Nodelist.NodelistFaultOf, Nodelist.NodelistOf}
use Rattle.cmd_status.specs.declared.fault.Fault.{Fault, TheVariants.Base, TheVariants.Link, TheVariants.Nodelist}

-- Each input is a link file without fault, and these are their parts, in order.
abbrev pub AreLinkFiles : List (List ℕ) → List LinkFile → Type 0
AreLinkFiles [] [] = Unit {0}
AreLinkFiles (bytes ∷ inputs) (file ∷ files) = LinksOf bytes (Ok file) × AreLinkFiles inputs files
AreLinkFiles _ _ = ⊥

-- The first faulty link file of the inputs has the fault.
pub record IsLinkFault (inputs : List (List ℕ)) (fault : Fault) : Type 0 where
  pub before : List (List ℕ)
  pub bytes : List ℕ
  pub later : List (List ℕ)
  pub whole : inputs ≡ before ++ bytes ∷ later
  pub files : List LinkFile
  pub good : AreLinkFiles before files
  pub why : LinkFault
  pub is : fault ≡ Link why
  pub of_bytes : LinksOf bytes (Err why)

-- The messages of a base file. Without a file the base is empty.
abbrev pub IsBaseGiven : Option (List ℕ) → List Filed → ℕ → Type 0
IsBaseGiven None messages cursor = (messages ≡ []) × (cursor ≡ 0)
IsBaseGiven (Some bytes) messages cursor = (size : ℕ) × LoadOf bytes (Ok (messages, cursor, size))

-- The base file has the fault.
abbrev pub IsBaseFault : Option (List ℕ) → Fault → Type 0
IsBaseFault None fault = ⊥
IsBaseFault (Some bytes) fault = (why : BaseFault) × (fault ≡ Base why) × BaseFaultOf bytes why

-- The input is a nodelist of these lines. Without an input there are no lines.
abbrev pub IsNodelistGiven : Option (List ℕ) → Option (List Line) → Type 0
IsNodelistGiven None None = Unit {0}
IsNodelistGiven (Some bytes) (Some lines) = NodelistOf bytes lines
IsNodelistGiven _ _ = ⊥

-- The first faulty line of the given nodelist has the fault.
abbrev pub IsNodelistFault : Option (List ℕ) → Fault → Type 0
IsNodelistFault None fault = ⊥
IsNodelistFault (Some bytes) fault = (why : NodeFault) × (fault ≡ Nodelist why) × NodelistFaultOf bytes why

-- The first fault of the nodelist, then of the link files, then of the read that stopped after them.
abbrev pub IsFirstFaultGiven : Option (List ℕ) → List (List ℕ) → Option Fault → Fault → Type 0
IsFirstFaultGiven nodelist inputs stopped fault =
    IsNodelistFault nodelist fault
    ⊎ (((list : Option (List Line)) × IsNodelistGiven nodelist list × IsLinkFault inputs fault)
    ⊎ ((list : Option (List Line)) × (files : List LinkFile) × IsNodelistGiven nodelist list × AreLinkFiles inputs files × (stopped ≡ Some fault)))
