use Rattle.std.proofs.{Common.◌∙◌, Common.[], Common.sym, lemmas.List.append-nil}
use Rattle.base_folder.proofs.looking.is_steady.Goals as goal

pub returns-then-len-clause-same : goal.returns-then-len-clause-same
returns-then-len-clause-same c same =
    let records = c.deref-then-len.result.now in
    c.begins_with.ensures.front [] (c.deref.ensures.value ∙ sym same ∙ sym c.deref-then-len.ensures.value ∙ sym (append-nil records))
