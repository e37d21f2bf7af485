use Rattle.{std.proofs.Common.{◌+◌, ℕ, List, subst, sym}, echo_addr.specs.declared.address.Address.Address, cmd_suppose.specs.Parts.{AreGrouped, IsGroup}}
use Rattle.cmd_suppose.proofs.{Groups.{group_listed, group_more, group_same}, parts.grouped.Goals.{then-labels-place+in_ok-part+in_ok-push, else-labels-place}}
use Rattle.cmd_suppose.proofs.parts.grouped.Goals as goal

pub places-preserved : goal.places-preserved
places-preserved c =
    let carriers : List Address = c.args.carriers.now in
    let labels : List ℕ = c.args.labels.now in
    let place = c.places.place in
    elim c.if-labels-place.branch [
      | then-labels-place+in_ok-part+in_ok-push w ↦
          subst (λ v. AreGrouped carriers labels (place + 1) v.items) (sym w.parts-is)
          (group_more carriers labels place c.places.parts.items w.push.new.self.items w.new.result w.if-labels-place.true
          (subst (IsGroup carriers labels place) (sym w.new.ensures)
          (group_listed carriers labels place c.in_ok-pairs.field-0.items c.from_pairs-members.result w.in_ok-part.part.items c.in_ok-pairs.ensures c.from_pairs-members.ensures
          w.in_ok-part.ensures.ascending w.in_ok-part.ensures.members))
          w.in_ok-push.ensures.items c.places.invariant)
      | else-labels-place w ↦
          subst (λ v. AreGrouped carriers labels (place + 1) v.items) (sym w.parts-is)
          (group_same carriers labels place c.places.parts.items w.if-labels-place.false c.places.invariant)
    ]
