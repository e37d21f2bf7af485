use Rattle.std.proofs.Common.{◌≡◌, ◌+◌, ◌<◌, ◌++◌, ℕ, Option, Some, None, List, [], ◌∷◌, length, set, slice_index_or, sym, ap, ◌∙◌, subst, ◌≤◌, arith}
use Rattle.std.proofs.lemmas.List.{get_or_read}
use Rattle.model_graph.specs.Blocks.{block_of, LastMembers}
use Rattle.model_graph.proofs.{Rows.LastMembers-made, Rows.LastMembers-left_out, blocks.block_lists.Goals.then-block-members+in_ok-push, blocks.block_lists.Goals.else-block-members+in_ok-push-2}
use Rattle.model_graph.proofs.blocks.block_lists.Goals as goal

pub members-preserved : goal.members-preserved
members-preserved c =
    let block : ℕ → ℕ = block_of c.args.blocks.now in
    let x : ℕ = c.members.member in
    let n : ℕ = c.args.members in
    let previous : List (Option ℕ) = c.members.previous.items in
    let last : List (Option ℕ) = c.members.last.items in
    let at : c.block-block.result ≡ block x = c.block-block.ensures in
    elim c.if-block-members.branch [
      | then-block-members+in_ok-push w ↦
          let found : Option ℕ = w.index.result.now in
          let inside : block x < n = omega arith in
          let held : c.block-block.result < length last = omega (arith, c.members.invariant.all_blocks) in
          let read : found ≡ slice_index_or last (block x) None = get_or_read last c.block-block.result found held w.index.ensures None ∙ ap (λ k. slice_index_or last k None) at in
          let made = LastMembers-made block n x previous last found c.members.invariant inside read in
          subst (λ (now : List (Option ℕ)). LastMembers block n (x + 1) now c.if-block-members.last.items) (sym (ap (λ v. v.items) w.previous-is ∙ w.in_ok-push.ensures.items))
          (subst (λ (now : List (Option ℕ)). LastMembers block n (x + 1) (previous ++ found ∷ []) now) (sym (ap (λ v. v.items) w.last-is ∙ ap (λ k. set last k (Some x)) at)) made)
      | else-block-members+in_ok-push-2 w ↦
          let past : n ≤ block x = omega arith in
          let made = LastMembers-left_out block n x previous last c.members.invariant past in
          subst (λ (now : List (Option ℕ)). LastMembers block n (x + 1) now c.if-block-members.last.items) (sym (ap (λ v. v.items) w.previous-is ∙ w.in_ok-push-2.ensures.items))
          (subst (λ (now : List (Option ℕ)). LastMembers block n (x + 1) (previous ++ None ∷ []) now) (sym (ap (λ v. v.items) w.last-is)) made)
    ]
