use Rattle.{std.proofs.Common.{List, ℕ, All, subst, sym}, station.proofs.StagingPaths.{IsPlain, plain_address}}
use Rattle.station.proofs.paths.system_name.Goals as goal

pub returns-clause-plain : goal.returns-clause-plain
returns-clause-plain c =
    subst (λ (l : List ℕ). All IsPlain l) (sym c.in_ok-name.ensures) (plain_address c.system.result _ c.system.ensures.own c.system.ensures.file.address)
