use Rattle.law_session.proofs.session.scan_on.Goals as goal

pub returns : goal.returns
returns g c = (c.scan_as_may.new.scan.listing, c.scan_as_may.ensures.does tt)
