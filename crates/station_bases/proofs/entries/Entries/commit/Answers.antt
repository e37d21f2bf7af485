use Rattle.std.{proofs.Common.{◌≡◌, ◌+◌, ◌++◌, ℕ, List, length, take, drop, Option, refl, sym, ap, subst, ◌∙◌, arith}, specs.Prelude.IsSome}
use Rattle.{disk_io.specs.Disk.bytes_in, station_bases.{specs.Entries.{file_bytes, message_bytes}, proofs.EntryMore.{held_still, put_same, put_within}}}
use Rattle.station_bases.proofs.entries.Entries.commit.Goals as goal

pub returns-clause-held : goal.returns-clause-held
returns-clause-held g c honest = λ base held.
    let d0 = g.D.Disk.state c.args.disk.now in
    let d1 = g.D.Disk.state c.put_around.new.disk in
    let path = c.args.path.now in
    let e = c.args.self.now in
    let f = record e { end = c.in-Some.end; waiting = c.clear.new.self; ahead = c.new-ahead.result } in
    let file = bytes_in (d0.seen path) in
    let on = c.in_ok-put_around.ensures.replaced honest in
    let reach = c.requires.can.legible (c.put_around.ensures.changes.honest honest) in
    let is : bytes_in (d1.seen path) ≡ file_bytes file e =
    ap bytes_in on.seen ∙ (λ i. (c.deref.ensures.value ∙ c.in_ok-head.ensures.head) i ++ (drop 16 (take e.end file) ++ c.deref-2.ensures.value i)) in
    let end : c.in-Some.end ≡ e.end + length e.waiting.items = omega (arith, c.in-Some.ensures, c.len.ensures) in
    held_still file (bytes_in (d1.seen path)) e f base
    (put_same file (bytes_in (d1.seen path)) e f reach.long c.requires.can.indexed.head is end c.clear.ensures.items) refl refl refl refl held

pub returns-clause-can : goal.returns-clause-can
returns-clause-can g c =
    let d0 = g.D.Disk.state c.args.disk.now in
    let d1 = g.D.Disk.state c.put_around.new.disk in
    let path = c.args.path.now in
    let e = c.args.self.now in
    let f = record e { end = c.in-Some.end; waiting = c.clear.new.self; ahead = c.new-ahead.result } in
    let was = c.requires.can.indexed in
    let head = was.head in
    let end : c.in-Some.end ≡ e.end + length e.waiting.items = omega (arith, c.in-Some.ensures, c.len.ensures) in
    record {
      look = record {
        indexed = record { even = was.even; chains = was.chains; head = omega (arith, end, head); fits = omega (arith, c.in-Some.ensures) };
        legible = λ honest.
            let file = bytes_in (d0.seen path) in
            let on = c.in_ok-put_around.ensures.replaced honest in
            let reach = c.requires.can.legible (c.put_around.ensures.changes.honest honest) in
            let is : bytes_in (d1.seen path) ≡ file_bytes file e =
            ap bytes_in on.seen ∙ (λ i. (c.deref.ensures.value ∙ c.in_ok-head.ensures.head) i ++ (drop 16 (take e.end file) ++ c.deref-2.ensures.value i)) in
            record {
              there = subst (λ (s : Option (List ℕ)). IsSome s) (sym on.seen) refl;
              long = put_within file (bytes_in (d1.seen path)) e f reach.long head is end;
            };
      };
      part = λ honest. c.new-ahead.ensures (message_bytes (bytes_in (d1.seen path)) f);
    }
