use Rattle.std.proofs.Common.{◌≡◌, ◌≤◌, ◌++◌, map, take, drop}
use Rattle.indexmap.specs.IndexMap.{keys, values}
use Rattle.base_file.specs.Purging.{left_in, lines_left_in}
use Rattle.base_file.proofs.purging.put_stubs.Given as goal

abbrev pub invariant-places : goal.invariant-places
invariant-places g l = record {
  above : l.start ≤ l.i;
  same_keys : keys l.entries ≡ keys l.initial.entries;
  to_do : l.lines.items ≡ lines_left_in l.range.area (take l.i (values l.initial.entries));
  done : values l.entries
      ≡ take l.i (values l.initial.entries)
      ++ (map (left_in l.range.area) (drop l.i (take l.end (values l.initial.entries))) ++ drop l.end (values l.initial.entries));
}
