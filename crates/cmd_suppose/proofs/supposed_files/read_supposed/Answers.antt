use Rattle.std.proofs.{Common.◌∙◌, Common.List, Common.subst, Common.ℕ, lemmas.Result.err_from_is_err_and}
use Rattle.cmd_suppose.{specs.SupposedFiles.ReadsMore, proofs.SupposedTexts.{behind_none, texts_refused}}
use Rattle.cmd_suppose.proofs.supposed_files.read_supposed.Goals as goal

pub push_files-requires : goal.push_files-requires
push_files-requires c = rw c.as_slice.ensures.value c.requires

pub returns-clause-ok : goal.returns-clause-ok
returns-clause-ok c =
    let added = rw c.as_slice.ensures.value at c.in_ok-push_files.ensures in
    let same = behind_none _ _ added.texts c.new-texts.ensures.items added.whole in (
      added.texts,
      added.are,
      subst (λ (t : List (List ℕ)). ReadsMore t c.args.links.now.items c.read_more.new.links.items) (c.deref.ensures.value ∙ same) c.in_ok-read_more.ensures.ok,
    )

pub returns-in_err-read_more-clause-err : goal.returns-in_err-read_more-clause-err
returns-in_err-read_more-clause-err c =
    let p = err_from_is_err_and c.from_residual-in_err-read_more.result c.from_residual-in_err-read_more.ensures.1 in
    let added = rw c.as_slice.ensures.value at c.in_ok-push_files.ensures in
    rw (p.1, p.2) (texts_refused _ _ _ _ _ _ _ _ added c.new-texts.ensures.items c.deref.ensures.value c.in_err-read_more.ensures.err)
