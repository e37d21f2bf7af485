use Rattle.std.specs.Prelude.{Contains}
use Rattle.base_store.{specs.declared.expected.NumberedDigest.NumberedDigest, proofs.Found.{AreOnly, HasAllSet}}
use Rattle.base_store.proofs.expected.find_all.Given as goal

abbrev pub invariant-entries : goal.invariant-entries
invariant-entries l = record {
  kept : (p : NumberedDigest) → Contains l.fn.places.items p → Contains l.places.items p;
  found : HasAllSet l.low l.high l.piece l.from l.i l.places.items;
  only : AreOnly l.piece l.from l.fn.places.items l.places.items;
}
