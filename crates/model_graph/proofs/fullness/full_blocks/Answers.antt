use Rattle.std.proofs.Common.{◌≡◌, ◌<◌, ℕ, Bool, false, IsTrue, List, length, get_or, refl, sym, ap, ◌∙◌, subst, ◌+◌, arith}
use Rattle.std.proofs.lemmas.{Bool.false≢true, List.get_or_read, List.get_or_past, List.length-set}
use Rattle.model_graph.{specs.{Rows.linked, Blocks.{block_of, top_of, IsFullyLinked}}, proofs.Rows.{marked_more, unmarked, kept_marks}}
use Rattle.model_graph.proofs.fullness.full_blocks.Goals.{then-block-members+then-index+then-not-is_fully_linked, else-block-members}
use Rattle.model_graph.proofs.fullness.full_blocks.Goals as goal

pub members-preserved : goal.members-preserved
members-preserved c =
    let block : ℕ → ℕ = block_of c.args.blocks.now in
    let P : ℕ → Type 0 = IsFullyLinked (linked c.args.graph.now) block (top_of c.args.blocks.now) in
    let x : ℕ = c.members.member in
    let old : List Bool = c.members.full.items in
    let b : ℕ = c.block-block.result in
    let at : b ≡ block x = c.block-block.ensures in
    let more : (now : List Bool) → ((k : ℕ) → IsTrue (get_or now k false) → IsTrue (get_or old k false)) → (IsTrue (get_or now (block x) false) → P x) →
    length now ≡ length old → (length now ≡ length c.args.graph.now) × ((y : ℕ) → y < x + 1 → IsTrue (get_or now (block y) false) → P y) =
    λ now kept here same. (same ∙ c.members.invariant.0, marked_more P block old now x c.members.invariant.1 kept here) in
    elim c.if-block-members.branch [
      | then-block-members+then-index+then-not-is_fully_linked w ↦ grind (arith, get_or, kept_marks, unmarked, length-set)
      | else-block-members w ↦
          subst (λ (now : List Bool). (length now ≡ length c.args.graph.now) × ((y : ℕ) → y < x + 1 → IsTrue (get_or now (block y) false) → P y)) (sym (ap (λ v. v.items) w.full-is))
          (more old (λ k is. is)
          (grind (arith, get_or, get_or_read, false≢true, get_or_past)) refl)
    ]
