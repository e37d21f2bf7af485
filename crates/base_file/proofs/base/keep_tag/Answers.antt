use Rattle.std.specs.Map.{values_of}
use Rattle.base_file.proofs.Entries.{tag_of_one}
use Rattle.base_file.proofs.base.keep_tag.Goals as goal

pub returns-then-is_tag_of_last-clause-found : goal.returns-then-is_tag_of_last-clause-found
returns-then-is_tag_of_last-clause-found g c =
    tag_of_one c.args.tags.now c.args.tag.now (values_of c.args.entries.now.entries) c.requires.own
    (c.is_tag_of_last.ensures c.if-is_tag_of_last.true)
