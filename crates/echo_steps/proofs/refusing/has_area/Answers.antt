use Rattle.std.proofs.Common.{sym}
use Rattle.echo_steps.proofs.LongTags.{no_long_tag}
use Rattle.echo_steps.proofs.refusing.has_area.Goals as goal

pub returns-then-tag-gt-MAX_TAG : goal.returns-then-tag-gt-MAX_TAG
returns-then-tag-gt-MAX_TAG c = sym (no_long_tag c.args.links.now c.system.ensures.file c.args.tag.now c.if-tag-gt-MAX_TAG.true)
