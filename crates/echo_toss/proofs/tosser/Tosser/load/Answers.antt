use Rattle.std.proofs.{Common.IfSome, Common.Ok, Common.Result, Common.subst, Common.arith, lemmas.Result.err_from_is_err_and}
use Rattle.echo_packet.specs.Header.{AreBytes}
use Rattle.base_file.specs.{declared.fault.BaseFault.BaseFault as Fault, Base.Base, BaseFile.LoadOf, BaseFile.Loaded, Loading.AnswersLoad}
use Rattle.echo_toss.proofs.tosser.Tosser.load.Goals as goal

pub returns-in_err-base-clause-only : goal.returns-in_err-base-clause-only
returns-in_err-base-clause-only g c = grind (arith, err_from_is_err_and)

pub returns-clause-only : goal.returns-clause-only
returns-clause-only g c =
    let P : Base → Type 0 = λ base.
    (other : Result Loaded Fault) → IfSome (g.R.Read.remaining c.args.reader.now) (λ bytes. AreBytes bytes → LoadOf bytes other → AnswersLoad (Ok base) other) in
    subst P c.new.ensures c.in_ok-base.ensures.only
