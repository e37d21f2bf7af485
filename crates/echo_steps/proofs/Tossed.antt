use Rattle.std.proofs.Common.{◌≡◌, ℕ, Bool, true, false, List, refl, subst, ◌∙◌, Option, Some, None, not, if◌then◌else◌, Result, Ok, Err, IfOk, ◌⊎◌, inl, inr, arith}
use Rattle.echo_addr.specs.declared.address.{Address.Address, NetNode.NetNode}
use Rattle.echo_packet.specs.Message.{Message}
use Rattle.echo_text.{specs.{declared.fault.TextFault.TextFault, Echo.{EchoOf, EchoText, FrontOf}, Refusal.text_refusal}, proofs.SaidAfter.front_accepted}
use Rattle.echo_text.specs.declared.fault.TextFault.TheVariants as text
use Rattle.echo_links.specs.Links.{LinkFile, has_area, is_link}
use Rattle.echo_filed.{specs.{Filed.{Filed, key_of}, Written.echo_of, declared.key.Key.Key}, proofs.Texts.says_one}
use Rattle.base_file.specs.Base.{is_known}
use Rattle.model_steps.specs.{Tossing.IsOutcome, Tossing.received, Tossing.toss_outcome, Tossing.tossing, Tossing.where_filed, declared.outcome.Outcome.Outcome}
use Rattle.model_steps.specs.declared.outcome.Outcome.TheVariants as outcome
use Rattle.model_steps.proofs.FirstRefusals.{outcome_is_first}
use Rattle.echo_steps.specs.Wanted.{IsNew, IsUnwanted, IsWanted, refused_by}

not_filed : (file : LinkFile) (sender : Address) (packed : Message) (o : Outcome) → ((m : Filed) → where_filed o m ≡ None) → ((base : List Filed) → IsOutcome file base sender packed o)
    → IsUnwanted file sender packed o
unfolding tossing
not_filed file sender packed o none is = λ base. grind (arith, outcome_is_first file base sender packed o)

pub no_echo : (file : LinkFile) (sender : Address) (packed : Message) → text_refusal packed.text ≡ Some text.NotEcho → IsUnwanted file sender packed outcome.NotEcho
no_echo file sender packed h = not_filed file sender packed outcome.NotEcho (λ m. refl) (λ base. h)

pub bad_tag : (file : LinkFile) (sender : Address) (packed : Message) → text_refusal packed.text ≡ Some text.BadTag → IsUnwanted file sender packed outcome.BadTag
bad_tag file sender packed h = not_filed file sender packed outcome.BadTag (λ m. refl) (λ base. h)

tag_said : (text tag : List ℕ) (kept : List (List ℕ)) → FrontOf text tag kept → tag ≡ (echo_of text).tag
unfolding echo_of
tag_said text tag kept h = h.tag_is

kept_said : (text tag : List ℕ) (kept : List (List ℕ)) → FrontOf text tag kept → kept ≡ (echo_of text).kept
unfolding echo_of
kept_said text tag kept h = h.kept_lines

front_said : (text tag : List ℕ) (kept : List (List ℕ)) → FrontOf text tag kept
    → record { tag = tag; kept = kept; seen = (echo_of text).seen; path = (echo_of text).path } ≡ echo_of text
front_said text tag kept h = λ i. record { tag = tag_said text tag kept h i; kept = kept_said text tag kept h i; seen = (echo_of text).seen; path = (echo_of text).path }

abbrev choice : Bool → Bool → Option Outcome
choice area link = if not area then Some outcome.NoArea else if not link then Some outcome.NotLinked else None

refused : (area link : Bool) (o : Outcome) → choice area link ≡ Some o
    → ((area ≡ false) × (outcome.NoArea ≡ o)) ⊎ ((area ≡ true) × (link ≡ false) × (outcome.NotLinked ≡ o))
refused true true o h = absurd (cc)
refused true false o h = inr (refl, refl, cc)
refused false link o h = inl (refl, cc)

accepted : (area link : Bool) → choice area link ≡ None → (area ≡ true) × (link ≡ true)
accepted true true h = (refl, refl)
accepted true false h = absurd (cc)
accepted false link h = absurd (cc)

pub link_refused : (file : LinkFile) (sender : Address) (packed : Message) (own : List ℕ) (kept : List (List ℕ)) (o : Outcome) → FrontOf packed.text own kept
    → refused_by file own sender ≡ Some o → IsUnwanted file sender packed o
link_refused file sender packed own kept o front h =
    let P : Outcome → Type 0 = λ x. IsUnwanted file sender packed x in
    let none = front_accepted packed.text own kept front in
    let tag : own ≡ (echo_of packed.text).tag = tag_said packed.text own kept front in
    let A : List ℕ → Type 0 = λ t. has_area file t ≡ true in
    let N : List ℕ → Type 0 = λ t. has_area file t ≡ false in
    let L : List ℕ → Type 0 = λ t. is_link file t sender ≡ false in
    elim (refused (has_area file own) (is_link file own sender) o h) [
      | inl area ↦ subst P area.1 (not_filed file sender packed outcome.NoArea (λ m. refl) (λ base. (none, subst N tag area.0)))
      | inr link ↦ subst P link.2 (not_filed file sender packed outcome.NotLinked (λ m. refl) (λ base. (none, subst A tag link.0, subst L tag link.1)))
    ]

wanted_area : (file : LinkFile) (sender : Address) (packed : Message) (own : List ℕ) (kept : List (List ℕ)) → IsWanted file sender packed own kept
    → (has_area file (echo_of packed.text).tag ≡ true) × (is_link file (echo_of packed.text).tag sender ≡ true)
wanted_area file sender packed own kept h = grind (arith, tag_said, accepted)

pub known_left : (file : LinkFile) (base : List Filed) (sender : Address) (packed : Message) (tag : List ℕ) (kept : List (List ℕ)) (key : Key) → IsWanted file sender packed tag kept → key ≡ key_of (received sender packed)
    → is_known base key ≡ true → (outcome.Known ≡ toss_outcome file base sender packed) × (None ≡ tossing file base sender packed)
unfolding tossing
known_left file base sender packed tag kept key h is known = grind (arith, wanted_area file sender packed tag kept h, front_accepted packed.text tag kept h.front, outcome_is_first file base sender packed outcome.Known)

pub found_new : (file : LinkFile) (base : List Filed) (sender : Address) (packed : Message) (tag : List ℕ) (kept : List (List ℕ)) (key : Key) (m : Filed) → IsWanted file sender packed tag kept
    → key ≡ key_of (received sender packed) → is_known base key ≡ false → m ≡ received sender packed → IsNew file base sender packed key m
unfolding tossing
found_new file base sender packed tag kept key m h is new made =
    let both = wanted_area file sender packed tag kept h in
    grind (arith, front_accepted packed.text tag kept h.front, outcome_is_first file base sender packed outcome.Filed)

pub refused_text : (packed : Message) (bytes : List ℕ) (f : TextFault) → bytes ≡ packed.text → (f ≡ text.Memory → ⊥)
    → (text_refusal bytes ≡ Some f) ⊎ ((text_refusal bytes ≡ None) × (f ≡ text.Memory)) → text_refusal packed.text ≡ Some f
refused_text packed bytes f is other h = grind arith

pub key_received : {E : Type 0} (r : Result Key E) (packed : Message) (date to_name from_name subject tag : List ℕ) (kept : List (List ℕ))
    → date ≡ packed.date → to_name ≡ packed.to_name → from_name ≡ packed.from_name → subject ≡ packed.subject → FrontOf packed.text tag kept
    → IfOk r (λ key. (s : Option Address) (seen path : List NetNode)
    → key ≡ key_of (record { sender = s; date = date; to_name = to_name; from_name = from_name; subject = subject; echo = record { tag = tag; kept = kept; seen = seen; path = path } }))
    → IfOk r (λ key. (s : Address) → key ≡ key_of (received s packed))
unfolding received
key_received (Ok key) packed date to_name from_name subject tag kept d t f j front h = λ s.
    let k = front_said packed.text tag kept front in
    h (Some s) (echo_of packed.text).seen (echo_of packed.text).path ∙ (λ i. key_of (record { sender = Some s; date = d i; to_name = t i; from_name = f i; subject = j i; echo = k i }))
key_received (Err e) packed date to_name from_name subject tag kept d t f j front h = tt

pub made_received : (sender : Address) (packed : Message) (date to_name from_name subject : List ℕ) (e : EchoText)
    → date ≡ packed.date → to_name ≡ packed.to_name → from_name ≡ packed.from_name → subject ≡ packed.subject → ((n : ℕ) × EchoOf packed.text e n)
    → record { sender = Some sender; date = date; to_name = to_name; from_name = from_name; subject = subject; echo = e } ≡ received sender packed
unfolding received
made_received sender packed date to_name from_name subject e d t f j says = grind (arith, says_one)
