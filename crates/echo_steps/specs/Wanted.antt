-- Whether a received message is echomail from a link, independent of the base.
use Rattle.std.specs.Prelude.{◌≡◌, false, ℕ, not, List, if◌then◌else◌, Option, Some, None}
use Rattle.echo_addr.specs.declared.address.Address.{Address}
use Rattle.echo_packet.specs.Message.{Message}
use Rattle.echo_text.specs.Echo.{FrontOf}
use Rattle.echo_links.specs.Links.{LinkFile, has_area, is_link}
use Rattle.echo_filed.specs.{Filed.Filed, Filed.key_of, declared.key.Key.Key}
use Rattle.base_file.specs.Base.{is_known}
use Rattle.echo_steps.specs.declared.{tossing.Decision.Decision, tossing.Decision.TheVariants.Left, tossing.Decision.TheVariants.New, receiving.Reading.Reading, receiving.Reading.TheVariants.Unwanted, receiving.Reading.TheVariants.Wanted}
use Rattle.model_steps.specs.{declared.outcome.Outcome.Outcome, Tossing.toss_outcome, Tossing.tossing}
use Rattle.model_steps.specs.declared.outcome.Outcome.TheVariants as outcome

-- Why the link file does not allow filing a message with this tag.
abbrev pub refused_by : LinkFile → List ℕ → Address → Option Outcome
refused_by file tag sender =
    if not (has_area file tag) then Some outcome.NoArea
    else if not (is_link file tag sender) then Some outcome.NotLinked
    else None

-- The text is echomail with this tag and these kept lines, and the sender is a link of its area.
pub record IsWanted (file : LinkFile) (sender : Address) (packed : Message) (tag : List ℕ) (kept : List (List ℕ)) : Type 0 where
  pub front : FrontOf packed.text tag kept
  pub allowed : refused_by file tag sender ≡ None

-- With any base, the message has this outcome and is not filed.
abbrev pub IsUnwanted : LinkFile → Address → Message → Outcome → Type 0
IsUnwanted file sender packed answer = (base : List Filed) → (answer ≡ toss_outcome file base sender packed) × (None ≡ tossing file base sender packed)

abbrev pub IsRead : LinkFile → Address → Message → Reading → Type 0
IsRead file sender packed (Wanted front) = IsWanted file sender packed front.tag front.kept
IsRead file sender packed (Unwanted answer) = IsUnwanted file sender packed answer

-- A message to file, and its key.
pub record IsNew (file : LinkFile) (base : List Filed) (sender : Address) (packed : Message) (key : Key) (m : Filed) : Type 0 where
  pub answer : outcome.Filed ≡ toss_outcome file base sender packed
  pub message : Some m ≡ tossing file base sender packed
  pub own_key : key ≡ key_of m
  pub new : is_known base key ≡ false

abbrev pub IsVerdict : LinkFile → List Filed → Address → Message → Decision → Type 0
IsVerdict file base sender packed (New key m) = IsNew file base sender packed key m
IsVerdict file base sender packed (Left answer) = (answer ≡ toss_outcome file base sender packed) × (None ≡ tossing file base sender packed)

-- A message to file has its own key.
abbrev pub HasOwnKey : Decision → Type 0
HasOwnKey (New key m) = key ≡ key_of m
HasOwnKey (Left answer) = Unit {0}
