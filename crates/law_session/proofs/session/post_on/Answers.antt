use Rattle.law_session.proofs.session.post_on.Goals as goal

pub returns : goal.returns
returns g c = c.post_as_may.ensures.does tt
