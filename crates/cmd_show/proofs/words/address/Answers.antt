use Rattle.{std.proofs.Common.{subst, sym}, echo_links.{specs.LinkReading.IsWordOf, proofs.LinkBytes.word_read}}
use Rattle.cmd_show.proofs.words.address.Goals as goal

pub returns : goal.returns
returns c =
    subst (IsWordOf c.args.word.now) (sym c.ok.ensures.value)
    (word_read c.args.word.now c.parse.result (λ a. (c.parse.ensures.ok a).0) (λ f. (c.parse.ensures.err f).0))
