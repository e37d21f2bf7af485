use Rattle.cmd_why.{specs.Shown.{posting_and_moves, shown_run}, proofs.Harms.reported-harm}
use Rattle.cmd_why.proofs.laws.shown_runs_break_the_promise.Goals as goal

pub returns : goal.returns
returns c = record {
  harm = λ files tag shown is breaks.
      reported-harm (shown_run files shown.poster tag shown.moves) tag shown.id shown.harm
      (c.bases_are_what_was_filed.ensures.places files (posting_and_moves shown.poster tag shown.moves))
      (c.bases_are_what_was_filed.ensures.number files (posting_and_moves shown.poster tag shown.moves))
      c.stub_laws.ensures.keep_keys breaks is;
  breaks = λ files tag shown is breaks.
      c.harms_break_the_promise.ensures (shown_run files shown.poster tag shown.moves) tag
      (reported-harm (shown_run files shown.poster tag shown.moves) tag shown.id shown.harm
      (c.bases_are_what_was_filed.ensures.places files (posting_and_moves shown.poster tag shown.moves))
      (c.bases_are_what_was_filed.ensures.number files (posting_and_moves shown.poster tag shown.moves))
      c.stub_laws.ensures.keep_keys breaks is);
}
