use Rattle.std.proofs.{Common.{◌∙◌, Global, inl, List, map, refl, subst, sym, Vec, ℕ}, lemmas.{List.length-map, Result.err_from_is_err_and}}
use Rattle.{std.specs.Option.option_copied, cmd_print.specs.Pushed.Pushes, cmd_check.specs.CheckingAll.{AreAreasChecked, verdicts_status}}
use Rattle.cmd_check.proofs.AllAreas.{were_checked}
use Rattle.cmd_check.proofs.checking_all.check_areas_read.Goals as goal

pub returns-in_err-print_rest : goal.returns-in_err-print_rest
returns-in_err-print_rest g c nodelist inputs is_list are =
    let p = err_from_is_err_and c.from_residual-in_err-print_rest.result c.from_residual-in_err-print_rest.ensures.1 in
    let bytes : Vec ℕ Global → List ℕ = λ tag. tag.items in
    let found : List (Vec ℕ Global) = c.in_ok-tags.tags.items in
    let pushed = subst (λ (t : List (Vec ℕ Global)). Pushes (AreAreasChecked c.args.links.now (option_copied c.args.list) c.args.more (map bytes t) c.in_ok-noes.noes) c.new-lines.result.items c.push_areas.new.lines.items)
    c.deref.ensures.value c.in_ok-noes.ensures.lines in
    let count = c.len.ensures ∙ (c.in_ok-tags.tags.ok.0 ∙ sym (length-map found bytes)) in
    let right = were_checked nodelist _ c.args.more inputs c.args.links.now (map bytes found) c.in_ok-noes.noes _ _ _ _ (verdicts_status c.in_ok-noes.noes)
    is_list are c.in_ok-tags.ensures count c.new-lines.ensures.items pushed c.in_ok-push_areas_line.ensures refl in
    rw (p.1, p.2) (inl (
      c.in_err-print_rest.ensures.err,
      record { lines = c.push_areas_line.new.lines.items; answer = verdicts_status c.in_ok-noes.noes; right = (right, refl); begun = c.in_err-print_rest.ensures.begun },
    ))

pub returns : goal.returns
returns g c nodelist inputs is_list are =
    let bytes : Vec ℕ Global → List ℕ = λ tag. tag.items in
    let found : List (Vec ℕ Global) = c.in_ok-tags.tags.items in
    let pushed = subst (λ (t : List (Vec ℕ Global)). Pushes (AreAreasChecked c.args.links.now (option_copied c.args.list) c.args.more (map bytes t) c.in_ok-noes.noes) c.new-lines.result.items c.push_areas.new.lines.items)
    c.deref.ensures.value c.in_ok-noes.ensures.lines in
    let count = c.len.ensures ∙ (c.in_ok-tags.tags.ok.0 ∙ sym (length-map found bytes)) in
    let right = were_checked nodelist _ c.args.more inputs c.args.links.now (map bytes found) c.in_ok-noes.noes _ _ _ _ c.status_of_verdicts.result
    is_list are c.in_ok-tags.ensures count c.new-lines.ensures.items pushed c.in_ok-push_areas_line.ensures c.status_of_verdicts.ensures in
    record {
      lines = c.push_areas_line.new.lines.items;
      right = (right, refl);
      written = c.in_ok-print_rest.ensures.bytes;
      flushed = (c.in_ok-print_rest.ensures.ok, c.in_ok-print_rest.ensures.passed);
    }
