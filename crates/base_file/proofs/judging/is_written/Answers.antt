use Rattle.std.proofs.Common.{◌∙◌, ap}
use Rattle.std.specs.Prelude.{bytes_eq}
use Rattle.echo_text.proofs.OneReading.{one_text}
use Rattle.echo_filed.specs.Written.{text_of}
use Rattle.echo_filed.proofs.Texts.{text_is_text}
use Rattle.base_file.proofs.judging.is_written.Goals as goal

pub returns : goal.returns
returns c =
    let e = c.args.echo.now in
    c.eq-same.ensures
    ∙ ap (λ l. bytes_eq l c.args.text.now)
    (c.as_slice.ensures.value ∙ one_text e c.overwrite_text.new.text.items (text_of e) c.in_ok-overwrite_text.ensures (text_is_text e c.requires))
