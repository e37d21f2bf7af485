use Rattle.std.proofs.{Common.{◌≡◌, ◌≢◌, ◌<◌, ◌+◌, ◌∙◌, ℕ, Option, None, Some, List, length, sym, subst, ap, arith}, lemmas.{Option.none-some, List.get_or_read}}
use Rattle.model_graph.{specs.{Levels.level_of, Parts.AreLabelled, Rows.linked}, proofs.{Floods.some_from, Labels.labelled_more}}
use Rattle.model_graph.proofs.parts.part_labels.Goals.{then-is_none+in_ok-spread, else-is_none}
use Rattle.model_graph.proofs.parts.part_labels.Goals as goal

not_none : (o : Option ℕ) (m : ℕ) → o ≡ Some m → o ≢ None
not_none o m is none = none-some m (sym none ∙ is)

pub members-preserved : goal.members-preserved
members-preserved c =
    let before : List (Option ℕ) = c.members.labels.items in
    let i : ℕ = c.members.member in
    elim c.if-is_none.branch [
      | then-is_none+in_ok-spread w ↦ subst (λ (now : List (Option ℕ)). record {
        same_length : length now ≡ length c.args.graph.now;
        earlier : (k : ℕ) → k < i + 1 → level_of now k ≢ None;
        labelled : AreLabelled (linked c.args.graph.now) now;
      }) (sym (ap (λ v. v.items) w.labels-is)) record {
        same_length = omega (arith, w.in_ok-spread.ensures.same_length, c.members.invariant.same_length);
        earlier = labelled_more before w.spread.new.labels.items i c.members.invariant.earlier w.in_ok-spread.ensures.kept (not_none (level_of w.spread.new.labels.items i) i w.in_ok-spread.ensures.rooted);
        labelled = w.in_ok-spread.ensures.labelled;
      }
      | else-is_none w ↦ subst (λ (now : List (Option ℕ)). record {
        same_length : length now ≡ length c.args.graph.now;
        earlier : (k : ℕ) → k < i + 1 → level_of now k ≢ None;
        labelled : AreLabelled (linked c.args.graph.now) now;
      }) (sym (ap (λ v. v.items) w.labels-is)) record {
        same_length = c.members.invariant.same_length;
        earlier =
            (let some = some_from c.index.result.now w.if-is_none.ensures in
            let inside : i < length before = omega (arith, c.members.invariant.same_length) in
            labelled_more before before i c.members.invariant.earlier (λ k m e. e)
            (not_none (level_of before i) some.0 (sym (get_or_read before i c.index.result.now inside c.index.ensures None) ∙ some.1)));
        labelled = c.members.invariant.labelled;
      }
    ]
