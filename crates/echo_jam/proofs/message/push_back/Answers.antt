use Rattle.std.proofs.{Common.ℕ, Common.◌++◌, Common.◌∙◌, Common.ap, lemmas.Result.on_ok_weaker}
use Rattle.echo_filed.specs.{Filed.Filed, Stored.long}
use Rattle.echo_jam.specs.{JamMessage.jam_attribute, Moment.seconds_of}
use Rattle.echo_stored.proofs.Joins.{joined}
use Rattle.echo_jam.proofs.message.push_back.Goals as goal

pub returns : goal.returns
returns c =
    let m = c.args.message.now in
    let written = c.date_seconds.ensures ∙ ap (λ (f : Filed). seconds_of f.date) c.message.view_is in
    let kind = c.jam_attribute.ensures ∙ ap (λ (f : Filed). jam_attribute c.args.scanned f.sender) c.message.view_is in
    on_ok_weaker c.push_place.result
    (λ last.
    joined _ (long (seconds_of m.date) ++ (long 0 ++ long 0)) _ _ _ (c.in_ok-push_moments.ensures ∙ ap (λ (n : ℕ). c.args.header.now.items ++ (long n ++ (long 0 ++ long 0))) written)
    (joined _ (long c.args.number ++ (long (jam_attribute c.args.scanned m.sender) ++ long 0)) _ _ _ (c.in_ok-push_number.ensures ∙ ap (λ (n : ℕ). c.push_moments.new.header.items ++ (long c.args.number ++ (long n ++ long 0))) kind)
    last))
    c.push_place.ensures
