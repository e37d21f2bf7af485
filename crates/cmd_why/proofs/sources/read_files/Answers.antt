use Rattle.{std.proofs.{Common.{◌∙◌, ◌+◌, ap, arith, refl}, lemmas.List.take_all}, echo_links.specs.LinkLines.file_of, cmd_why.proofs.OfBytes.read_more}
use Rattle.cmd_why.proofs.sources.read_files.Goals as goal

pub sources-preserved : goal.sources-preserved
sources-preserved c =
    let file_is = c.in_ok-file.ensures ∙ ap file_of c.as_slice.ensures in
    read_more c.args.sources.now c.sources.files.items c.push.new.self.items c.in_ok-file.file c.sources.source-index (c.sources.source-index + 1) c.source-item.result
    refl c.in_ok-push.ensures.items file_is c.sources-test.true c.source-item.is c.sources.invariant

pub returns : goal.returns
returns c = grind (arith, take_all)
