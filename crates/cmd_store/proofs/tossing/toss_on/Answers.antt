use Rattle.{std.proofs.{Common.arith, lemmas.Result.err_from_is_err_and}, cmd_status.specs.Devices.device_of, cmd_store.proofs.Commits.makes_then}
use Rattle.{cmd_store.proofs.{Runs.{none_before, tosses}, Bounded.full_after}, echo_steps.proofs.Bounds.handed_many}
use Rattle.cmd_store.proofs.tossing.toss_on.Goals as goal

pub returns-in_err-commit-clause-crash : goal.returns-in_err-commit-clause-crash
returns-in_err-commit-clause-crash g c =
    makes_then _ _ _ _ c.toss_files.ensures.commits c.in_ok-stopped.ensures.goes_on
    (λ before base kept. tosses (g.P.PacketFiles.is_honest c.toss_files.new.packets) c.args.noting c.args.limits (device_of g.P.Reader.Read.remaining g.P.Reader.Source.failures) c.args.links.now base (g.P.PacketFiles.coming c.args.packets.now) _ _ c.in_ok-stopped.stopped _
    (none_before (g.P.PacketFiles.is_honest c.toss_files.new.packets) c.args.noting c.args.limits (device_of g.P.Reader.Read.remaining g.P.Reader.Source.failures) c.args.links.now base (g.P.PacketFiles.coming c.args.packets.now) _ _ _ _ _ c.new-lines.ensures.items
    (c.in_ok-stopped.ensures.tossed before base kept)))
    c.commit.ensures.either

pub returns-clause-crash : goal.returns-clause-crash
returns-clause-crash g c =
    makes_then _ _ _ _ c.toss_files.ensures.commits c.in_ok-stopped.ensures.goes_on
    (λ before base kept. tosses (g.P.PacketFiles.is_honest c.toss_files.new.packets) c.args.noting c.args.limits (device_of g.P.Reader.Read.remaining g.P.Reader.Source.failures) c.args.links.now base (g.P.PacketFiles.coming c.args.packets.now) _ _ c.in_ok-stopped.stopped _
    (none_before (g.P.PacketFiles.is_honest c.toss_files.new.packets) c.args.noting c.args.limits (device_of g.P.Reader.Read.remaining g.P.Reader.Source.failures) c.args.links.now base (g.P.PacketFiles.coming c.args.packets.now) _ _ _ _ _ c.new-lines.ensures.items
    (c.in_ok-stopped.ensures.tossed before base kept)))
    c.commit.ensures.either

pub returns-in_err-stopped-clause-many : goal.returns-in_err-stopped-clause-many
returns-in_err-stopped-clause-many g c = grind (arith, err_from_is_err_and, handed_many)

pub returns-in_err-commit-clause-many : goal.returns-in_err-commit-clause-many
returns-in_err-commit-clause-many g c =
    let p = err_from_is_err_and c.from_residual-in_err-commit.result c.from_residual-in_err-commit.ensures.1 in
    rw (p.1, p.2) (λ is.
    full_after g.T.Store.state _ _ _ c.toss_files.new.store c.toss_files.ensures.commits c.in_ok-stopped.ensures.goes_on
    (record { full = c.in_err-commit.ensures.many is; commits = c.in_err-commit.ensures.refused is }))
