use Rattle.std.proofs.{Common.{◌≡◌, ◌+◌, ◌/◌, ◌<◌, List, length, arith, [], ◌∷◌, ◌++◌, sym, ap, subst, ◌∙◌}, lemmas.List.Elements.Contains-append_left}
use Rattle.std.specs.Prelude.{Contains}
use Rattle.base_store.specs.{Expected.are_set, Expected.place_in, declared.expected.NumberedDigest.NumberedDigest}
use Rattle.base_store.proofs.{Found.{AreOnly, HasAllSet, added_one, only_more, passed_one}, expected.find_all.Goals.{then-are_set+in_ok-push, else-are_set}}
use Rattle.base_store.proofs.expected.find_all.Goals as goal

pub returns-in_err-push-clause-kept : goal.returns-in_err-push-clause-kept
returns-in_err-push-clause-kept c = λ p had. subst (λ (l : List NumberedDigest). Contains l p) (sym c.in_err-push.ensures.items) (c.entries.invariant.kept p had)

pub entries-preserved : goal.entries-preserved
entries-preserved c =
    let low = c.args.low.now in
    let high = c.args.high.now in
    let piece = c.args.piece.now in
    let from = c.args.from in
    let i = c.entries.i in
    let was = c.args.places.now.items in
    let before = c.entries.places.items in
    let inside : i < length piece / 16 = omega arith in
    elim c.if-are_set.branch [
      | then-are_set+in_ok-push w ↦
          let one : record { number = from + i; digest = c.stored_digest-digest.result } ≡ place_in piece from i = λ t. record { number = from + i; digest = c.stored_digest-digest.ensures t } in
          let items : c.if-are_set.places.items ≡ before ++ (place_in piece from i ∷ []) =
          ap (λ v. v.items) w.places-is ∙ w.in_ok-push.ensures.items ∙ ap (λ (p : NumberedDigest). before ++ (p ∷ [])) one in
          record {
            kept = λ p had. subst (λ (l : List NumberedDigest). Contains l p) (sym items) (Contains-append_left before (place_in piece from i ∷ []) p (c.entries.invariant.kept p had));
            found = subst (λ (l : List NumberedDigest). HasAllSet low high piece from (i + 1) l) (sym items) (added_one low high piece from i before c.entries.invariant.found);
            only = subst (λ (l : List NumberedDigest). AreOnly piece from was l) (sym items) (only_more piece from i was before inside c.entries.invariant.only);
          }
      | else-are_set w ↦
          let items : c.if-are_set.places.items ≡ before = ap (λ v. v.items) w.places-is in
          record {
            kept = λ p had. subst (λ (l : List NumberedDigest). Contains l p) (sym items) (c.entries.invariant.kept p had);
            found = subst (λ (l : List NumberedDigest). HasAllSet low high piece from (i + 1) l) (sym items)
                (passed_one low high piece from i before (ap (are_set low high) (sym c.stored_digest-digest.ensures) ∙ sym c.are_set.ensures ∙ w.if-are_set.false) c.entries.invariant.found);
            only = subst (λ (l : List NumberedDigest). AreOnly piece from was l) (sym items) c.entries.invariant.only;
          }
    ]
