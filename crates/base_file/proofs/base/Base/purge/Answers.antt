use Rattle.std.proofs.Common.{ℕ, subst, sym, arith}
use Rattle.base_file.specs.Entries.{AreEntries}
use Rattle.base_file.proofs.{Purges.count_left, StubBases.{end_within, left_entries}}
use Rattle.base_file.proofs.base.Base.purge.Goals as goal

pub invariant_of-self : goal.invariant_of-self
invariant_of-self g c =
    let i = c.self.inside in
    let range = c.args.range.now in
    let e = c.end-end.result in
    let least = end_within range.below i.cursor in
    subst (λ (n : ℕ). AreEntries c.put_stubs.new.entries.entries i.tags i.cursor n) (sym c.front_after-self-inside.ensures)
    (left_entries range.area e i.entries.entries c.put_stubs.new.entries.entries i.tags i.cursor i.purged (omega (arith, least, c.end-end.ensures)) c.self.invariant
    c.put_stubs.ensures.keys c.put_stubs.ensures.values)

pub returns-clause-count : goal.returns-clause-count
returns-clause-count g c = grind (arith, count_left)
