use Rattle.{std.proofs.Common.{ℕ, sym, subst}, base_store.specs.Store.all_scanned, station_bases.{specs.Entries.HoldEntries, proofs.EntryMore.scanned}}
use Rattle.station_bases.proofs.entries.Entries.move_to_end.Goals as goal

pub returns-clause-held : goal.returns-clause-held
returns-clause-held c = λ file base held.
    subst (λ (n : ℕ). HoldEntries file (record c.args.self.now { cursor = n }) (all_scanned base)) (sym c.count-self.ensures) (scanned file c.args.self.now base c.requires held)
