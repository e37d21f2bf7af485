use Rattle.std.proofs.{Common.{ℕ, Bool, Option, Some, None, MatchOption, ◌≡◌, ◌∙◌, refl}, lemmas.Option.MatchOption-at_some}
use Rattle.model_graph.specs.{declared.pinching.Pinch.Pinch, Rows.linked, Pinches.IsPinch, Pinches.FirstPinch}
use Rattle.model_graph.proofs.{Cycles.Polygons-from_Parted, Members.ℕ-can_tell, PinchSearch.Simple-from_graph, PinchSearch.Parted-from_no_pinch, Rings.NamedLoop-written}
use Rattle.model_graph.proofs.polygons.find_loop.Goals as goal

first_of : (links : ℕ → ℕ → Bool) (found : Option Pinch) (pinch : Pinch) → found ≡ Some pinch → MatchOption found ((b a c : ℕ) → ¬ IsPinch links b a c) (λ pinch. FirstPinch links pinch.at pinch.one pinch.other) → FirstPinch links pinch.at pinch.one pinch.other
first_of links found pinch is = MatchOption-at_some ((b a c : ℕ) → ¬ IsPinch links b a c) (λ (pinch : Pinch). FirstPinch links pinch.at pinch.one pinch.other) pinch is

none_of : (links : ℕ → ℕ → Bool) (found : Option Pinch) → ((pinch : Pinch) → found ≡ Some pinch → ⊥) → MatchOption found ((b a c : ℕ) → ¬ IsPinch links b a c) (λ pinch. FirstPinch links pinch.at pinch.one pinch.other) → (b a c : ℕ) → ¬ IsPinch links b a c
none_of links None none h = h
none_of links (Some pinch) none h = absurd (none pinch refl)

pub returns-in_default : goal.returns-in_default
returns-in_default c =
    let links = linked c.args.graph.now in
    let simple = Simple-from_graph c.args.graph.now c.first_pinch.ensures.sound in
    Polygons-from_Parted ℕ-can_tell links simple (Parted-from_no_pinch links simple (none_of links c.in_ok-pinch.field-0 c.in_default.not-Some c.in_ok-pinch.ensures.first))

pub returns : goal.returns
returns c =
    let links = linked c.args.graph.now in
    let simple = Simple-from_graph c.args.graph.now c.first_pinch.ensures.sound in
    let pinch : Pinch = c.in-Some.pinch in
    let first = first_of links c.in_ok-pinch.field-0 pinch c.in-Some.is c.in_ok-pinch.ensures.first in
    let made = c.in_ok-ring.ensures in
    NamedLoop-written links simple pinch.at pinch.one pinch.other made.0 c.deref.result.now c.in_ok-round.round.items first made.2 (c.deref.ensures.value ∙ made.1) c.in_ok-round.ensures
