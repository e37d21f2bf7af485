use Rattle.{std.proofs.{Common.{◌∙◌, ◌∷◌, [], Bor, List, ap, map, ℕ}, lemmas.List.map-append}, cmd_repair.proofs.Cutting.{cut_all, cut_more}}
use Rattle.cmd_repair.proofs.gathering.ids_of.Goals as goal

pub ids-preserved : goal.ids-preserved
ids-preserved c = λ ids many gathers.
    let bytes : Bor (List ℕ) → List ℕ = λ id. id.now in
    let items = c.deref-size-items.result.now in
    cut_more ids (map bytes c.ids.all.items) (map bytes c.push.new.self.items) c.ids.rest.now c.split_at.result.0.now c.split_at.result.1.now items c.args.gathered.now.lengths.items c.ids.size-index c.min.result
    (c.ids.invariant ids many gathers) c.deref-size-items.ensures.value c.ids-test.true c.min.ensures c.split_at.ensures.front c.split_at.ensures.back
    (ap (map bytes) c.in_ok-push.ensures.items ∙ map-append bytes c.ids.all.items (c.split_at.result.0 ∷ []))

pub returns : goal.returns
returns c = λ ids many gathers.
    let bytes : Bor (List ℕ) → List ℕ = λ id. id.now in
    let items = c.deref-size-items.result.now in
    cut_all ids (map bytes c.ids.all.items) c.ids.rest.now items c.args.gathered.now.lengths.items c.ids.size-index (c.ids.invariant ids many gathers) c.deref-size-items.ensures.value c.ids-test.false
