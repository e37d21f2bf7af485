-- Serials that are looked for.
use Rattle.std.proofs.Common.{◌≡◌, ℕ, zero, suc, ◌+◌, ◌-◌, ◌%◌, ◌^◌, ◌<◌, ◌⊎◌, inl, inr, true, false, List, Some, None, refl, subst, sym, arith}
use Rattle.{std.proofs.lemmas.Bool.{cases_Bool, cases_order}, echo_filed.specs.Filed.Filed, echo_links.specs.Links.LinkFile}
use Rattle.model_steps.specs.{declared.{draft.Draft.Draft, fault.PostFault.PostFault, stamp.Stamp.Stamp}, Posting.{IsPostFault, post_refusal}}
use Rattle.{model_steps.proofs.{FirstRefusals.refusal_first, Posted.allowed}, cmd_store.specs.Serials.{IsFirstFree, is_taken, serial_after}}
use Rattle.model_steps.specs.declared.fault.PostFault.TheVariants as post

abbrev pub AreTaken : LinkFile → List Filed → ℕ → ℕ → Type 0
AreTaken file base start steps = (k : ℕ) → k < steps → is_taken file base (serial_after start k) ≡ true

pub one_more : (file : LinkFile) (base : List Filed) (start steps : ℕ) → AreTaken file base start steps → is_taken file base (serial_after start steps) ≡ true
    → AreTaken file base start (steps + 1)
one_more file base start steps before here k within = elim (cases_order k steps) [
  | inl same ↦ subst (λ (n : ℕ). is_taken file base (serial_after start n) ≡ true) (sym same) here
  | inr (inl less) ↦ before k less
  | inr (inr more) ↦ absurd (omega (arith, within, more))
]

pub next_step : (start steps serial : ℕ) → serial ≡ serial_after start steps → (serial + 1) % 2 ^ 32 ≡ serial_after start (steps + 1)
next_step start steps serial is = omega (arith, is)

pub first_here : (file : LinkFile) (base : List Filed) (start steps serial : ℕ) → serial ≡ serial_after start steps → AreTaken file base start steps
    → is_taken file base serial ≡ false → IsFirstFree file base start serial
first_here file base start steps serial is before free = record { steps = steps; is = is; before = before; ends = inl free }

first_from : (file : LinkFile) (base : List Filed) (start left steps : ℕ) → steps + left ≡ 2 ^ 32 - 1 → AreTaken file base start steps
    → (serial : ℕ) × IsFirstFree file base start serial
first_from file base start zero steps whole before =
    (serial_after start steps, record { steps = steps; is = refl; before = before; ends = inr (omega (arith, whole)) })
first_from file base start (suc left) steps whole before = elim (cases_Bool (is_taken file base (serial_after start steps))) [
  | inl here ↦ first_from file base start left (steps + 1) (omega (arith, whole)) (one_more file base start steps before here)
  | inr free ↦ (serial_after start steps, first_here file base start steps (serial_after start steps) refl before free)
]

pub first_of_all : (file : LinkFile) (base : List Filed) (start : ℕ) → (serial : ℕ) × IsFirstFree file base start serial
first_of_all file base start = first_from file base start (2 ^ 32 - 1) 0 (omega arith) (λ k within. absurd (omega (arith, within)))

-- a refusal that does not depend on the serial applies to any serial
pub any_serial : (file : LinkFile) (base : List Filed) (tag : List ℕ) (draft : Draft) (serial other : ℕ) (stamp : Stamp) (why : PostFault)
    → IsPostFault file base tag draft serial stamp why → (why ≡ post.KnownSerial → ⊥)
    → (why ≡ post.Memory) ⊎ (post_refusal file base tag draft other stamp ≡ Some why)
any_serial file base tag draft serial other stamp post.Memory is unless = inl refl
any_serial file base tag draft serial other stamp post.KnownSerial is unless = absurd (unless refl)
any_serial file base tag draft serial other stamp post.NoArea is unless =
    inr ((refusal_first file base tag draft other stamp post.NoArea).1 ((refusal_first file base tag draft serial stamp post.NoArea).0 is))
any_serial file base tag draft serial other stamp post.ByteZero is unless =
    inr ((refusal_first file base tag draft other stamp post.ByteZero).1 ((refusal_first file base tag draft serial stamp post.ByteZero).0 is))
any_serial file base tag draft serial other stamp post.FieldTooLong is unless =
    inr ((refusal_first file base tag draft other stamp post.FieldTooLong).1 ((refusal_first file base tag draft serial stamp post.FieldTooLong).0 is))
any_serial file base tag draft serial other stamp post.BadStamp is unless =
    inr ((refusal_first file base tag draft other stamp post.BadStamp).1 ((refusal_first file base tag draft serial stamp post.BadStamp).0 is))
any_serial file base tag draft serial other stamp post.BadReply is unless =
    inr ((refusal_first file base tag draft other stamp post.BadReply).1 ((refusal_first file base tag draft serial stamp post.BadReply).0 is))

pub refused_first : (file : LinkFile) (base : List Filed) (tag : List ℕ) (draft : Draft) (start serial : ℕ) (stamp : Stamp) (why : PostFault)
    → IsPostFault file base tag draft serial stamp why → (why ≡ post.KnownSerial → ⊥)
    → (why ≡ post.Memory) ⊎ ((free : ℕ) × IsFirstFree file base start free × (post_refusal file base tag draft free stamp ≡ Some why))
refused_first file base tag draft start serial stamp why is unless =
    let found = first_of_all file base start in
    elim (any_serial file base tag draft serial found.0 stamp why is unless) [
      | inl memory ↦ inl memory
      | inr refused ↦ inr (found.0, found.1, refused)
    ]

pub free_where_allowed : (file : LinkFile) (base : List Filed) (tag : List ℕ) (draft : Draft) (serial : ℕ) (stamp : Stamp)
    → post_refusal file base tag draft serial stamp ≡ None → is_taken file base serial ≡ false
free_where_allowed file base tag draft serial stamp may =
    let all = allowed file base tag draft serial stamp may in
    all.new

pub taken_where_known : (file : LinkFile) (base : List Filed) (tag : List ℕ) (draft : Draft) (start steps serial : ℕ) (stamp : Stamp) (why : PostFault)
    → serial ≡ serial_after start steps → IsPostFault file base tag draft serial stamp why → why ≡ post.KnownSerial → is_taken file base (serial_after start steps) ≡ true
taken_where_known file base tag draft start steps serial stamp why at is known =
    let refused = subst (IsPostFault file base tag draft serial stamp) known is in
    let all = (refusal_first file base tag draft serial stamp post.KnownSerial).0 refused in
    subst (λ (n : ℕ). is_taken file base n ≡ true) at all.5
