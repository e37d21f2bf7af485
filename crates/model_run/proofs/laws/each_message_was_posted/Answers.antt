use Rattle.std.proofs.Common.{sym, ap, ◌∙◌, arith}
use Rattle.model_run.{specs.Orderly.tag_of, proofs.{TosserLaws.the_laws, Areas.key-tag, Origins.run-traced}}
use Rattle.model_run.proofs.laws.each_message_was_posted.Goals as goal

pub returns : goal.returns
returns c = λ files fit events s h m i.
    let (f, at_f, rest) = (run-traced the_laws files fit events).systems s h m i in
    let (o, at_o, own, key, content) = rest in (
      f,
      at_f,
      (
        o,
        at_o,
        record { own = own; area = sym (key-tag o) ∙ (ap tag_of key ∙ key-tag m) },
        grind arith,
      ),
    )
