use Rattle.std.proofs.Common.{subst, sym, arith}
use Rattle.echo_text.specs.Echo.{IsEcho}
use Rattle.echo_filed.specs.Filed.{Filed}
use Rattle.model_steps.proofs.Posted.{posted_id, posted_is_echo, posted_own, posting_posted}
use Rattle.model_steps.proofs.laws.posting_laws.Goals as goal

pub returns-clause-echo : goal.returns-clause-echo
returns-clause-echo c = λ file base tag draft serial stamp m h is.
    let p = posting_posted file base tag draft serial stamp m is in
    let P : Filed → Type 0 = λ x. IsEcho x.echo in
    subst P (sym p.is) (posted_is_echo file base tag draft serial stamp h p.allowed)

pub returns-clause-own : goal.returns-clause-own
returns-clause-own c = posted_own

pub returns-clause-id : goal.returns-clause-id
returns-clause-id c = grind (arith, posting_posted, posted_id)

pub returns-clause-new : goal.returns-clause-new
returns-clause-new c = λ file base tag draft serial stamp m is. (posting_posted file base tag draft serial stamp m is).allowed.new
