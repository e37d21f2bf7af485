use Rattle.std.proofs.{Common.{◌≡◌, Bool, true, false, cond, List, refl, Option, Some, None, arith}, lemmas.Bool.{cond-false, not-false, not_from_true}}
use Rattle.echo_addr.specs.declared.address.Address.{Address}
use Rattle.echo_packet.specs.Message.{Message}
use Rattle.echo_text.specs.declared.fault.TextFault.{TextFault}
use Rattle.model_steps.specs.{Tossing.IsToBeFiled, Tossing.outcome_after, Tossing.outcome_of_filed, Tossing.received, Tossing.toss_outcome, Tossing.tossing, Tossing.where_filed, declared.outcome.Outcome.Outcome}
use Rattle.model_steps.specs.declared.outcome.Outcome.TheVariants as outcome
use Rattle.echo_links.specs.Links.{LinkFile, has_area, is_link}
use Rattle.echo_filed.specs.Filed.{Filed, key_of}
use Rattle.base_file.specs.Base.{is_known}

some_filed : (o : Outcome) (x m : Filed) → where_filed o x ≡ Some m → (o ≡ outcome.Filed) × (m ≡ x)
some_filed o x m h1 = grind arith

failed : (b : Bool) (o : Outcome) (rest : Outcome) → (o ≡ outcome.Filed → ⊥) → cond b o rest ≡ outcome.Filed → (b ≡ false) × (rest ≡ outcome.Filed)
failed true o rest other h = absurd (other h)
failed false o rest other h = (refl, h)

record IsToFile (file : LinkFile) (base : List Filed) (sender : Address) (m : Filed) : Type 0 where
  area : has_area file m.echo.tag ≡ true
  link : is_link file m.echo.tag sender ≡ true
  new : is_known base (key_of m) ≡ false

to_file : (file : LinkFile) (base : List Filed) (sender : Address) (m : Filed) → outcome_of_filed file base sender m ≡ outcome.Filed → IsToFile file base sender m
to_file file base sender m h = grind (arith, failed, not-false)

after_text : (file : LinkFile) (base : List Filed) (sender : Address) (m : Filed) (o : Option TextFault)
    → outcome_after file base sender m o ≡ outcome.Filed → (o ≡ None) × (outcome_of_filed file base sender m ≡ outcome.Filed)
after_text file base sender m o h1 = grind arith

pub tossing_received : (file : LinkFile) (base : List Filed) (sender : Address) (packed : Message) (m : Filed)
    → tossing file base sender packed ≡ Some m → IsToBeFiled file base sender packed × (m ≡ received sender packed)
unfolding tossing toss_outcome received
tossing_received file base sender packed m h = grind (arith, some_filed, after_text, to_file)

pub received_tossing : (file : LinkFile) (base : List Filed) (sender : Address) (packed : Message) → IsToBeFiled file base sender packed
    → tossing file base sender packed ≡ Some (received sender packed)
unfolding tossing toss_outcome received
received_tossing file base sender packed h = grind (arith, cond-false, not_from_true)
