use Rattle.echo_nodelist.proofs.LookingBack.{tell_none, tell_some}
use Rattle.echo_nodelist.proofs.place.locate.Goals as goal

pub returns-in_default-after : goal.returns-in_default-after
returns-in_default-after c = λ earlier stands.
    tell_none c.args.number earlier c.in-Entry.keyword c.in-Entry.system c.in-Entry.fields c.args.line.now c.in-Entry.is
    (c.in_default-after.ensures earlier c.in-Entry.fields stands)

pub returns : goal.returns
returns c = λ earlier stands.
    let after = c.in-Some.ensures earlier c.in-Entry.fields stands in
    tell_some c.args.number earlier c.in-Entry.keyword c.in-Entry.system c.in-Entry.fields c.args.line.now c.in-Some.here c.address.result
    c.in-Entry.is after (c.address.ensures earlier c.in-Entry.fields after)
