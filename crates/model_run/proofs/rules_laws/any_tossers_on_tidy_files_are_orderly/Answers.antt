use Rattle.std.proofs.Common.{IsTrue}
use Rattle.echo_links.specs.Links.{same_address}
use Rattle.model_run.{proofs.{Eras.every_run-orderly, TosserPremises.Tells-can, TosserLaws.{the_laws, tidy_net}}, specs.AreaNets.net_of}
use Rattle.model_run.proofs.rules_laws.any_tossers_on_tidy_files_are_orderly.Goals as goal

pub returns : goal.returns
returns g c = λ can_keys files tag tidy same compares run.
    every_run-orderly (Tells-can same_address the_laws.addresses) can_keys (net_of files tag) (tidy_net files tag tidy)
    (λ a b. IsTrue (same a b)) compares run
