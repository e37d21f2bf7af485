use Rattle.std.{proofs.{Common.◌&&◌, lemmas.Bool.and_parts}, specs.Prelude.{not, slice_range, ◌==◌}}
use Rattle.echo_jam.specs.Moment.{is_pair, month_of}
use Rattle.echo_jam.proofs.moment.time_of.Goals as goal

pub pair-requires-3-clause-digits : goal.pair-requires-3-clause-digits
pair-requires-3-clause-digits c =
    let date = c.args.date.now in
    let front = is_pair date 0 && (is_pair date 7 && not (month_of (slice_range date 3 6) == 0)) in
    let both = and_parts front (is_pair date 11 && (is_pair date 14 && is_pair date 17)) c.requires in
    let later = and_parts (is_pair date 11) (is_pair date 14 && is_pair date 17) both.1 in
    (and_parts (is_pair date 14) (is_pair date 17) later.1).1
