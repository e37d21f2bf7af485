use Rattle.std.proofs.Common.{◌≡◌, ◌∙◌, ◌-◌, ◌≤◌, set, subst, sym, Option, arith}
use Rattle.std.proofs.lemmas.List.{length-map}
use Rattle.std.specs.Prelude.{IfSome}
use Rattle.indexmap.specs.IndexMap.{values}
use Rattle.echo_filed.specs.{Filed.Filed, Stubs.stub_of}
use Rattle.base_file.proofs.Purges.{changed_goes_on, changed_lines_on, from_place, from_stubs, never_empty, same_goes_on, same_lines_on}
use Rattle.base_file.proofs.purging.put_stubs.Goals as goal

pub put_stub-requires-clause-own : goal.put_stub-requires-clause-own
put_stub-requires-clause-own g c =
    let reported = changed_lines_on c.args.range.now.area (values c.args.entries.now) (values c.places.entries) c.places.i c.args.end c.index.result.now (omega arith) (omega arith) (subst (λ n. c.args.end ≤ n) (sym (length-map c.args.entries.now.entries (λ e. e.1))) c.requires.within)
    c.places.invariant.done c.index.ensures c.places.lines.items c.pop.new.self.items c.in-Some.own c.places.invariant.to_do (sym c.changes.ensures ∙ c.if-changes.true) c.in-Some.ensures.items in
    let P : Option Filed → Type 0 = λ o. IfSome o (λ m. c.in-Some.own ≡ (stub_of m).echo.kept) in
    subst P (sym c.index.ensures) reported.1

pub places-preserved-in-Some : goal.places-preserved-in-Some
places-preserved-in-Some g c =
    let reported = changed_lines_on c.args.range.now.area (values c.args.entries.now) (values c.places.entries) c.places.i c.args.end c.index.result.now (omega arith) (omega arith) (subst (λ n. c.args.end ≤ n) (sym (length-map c.args.entries.now.entries (λ e. e.1))) c.requires.within)
    c.places.invariant.done c.index.ensures c.places.lines.items c.pop.new.self.items c.in-Some.own c.places.invariant.to_do (sym c.changes.ensures ∙ c.if-changes.true) c.in-Some.ensures.items in
    let P : Option Filed → Type 0 = λ o. IfSome o (λ m. values c.put_stub.new.entries ≡ set (values c.places.entries) (c.places.i - 1) (stub_of m)) in
    let written = subst P c.index.ensures c.put_stub.ensures.values in
    record {
      above = omega arith;
      same_keys = c.put_stub.ensures.keys ∙ c.places.invariant.same_keys;
      to_do = reported.0;
      done = changed_goes_on c.args.range.now.area (values c.args.entries.now) (values c.places.entries) c.places.i c.args.end c.index.result.now (omega arith) (omega arith) (subst (λ n. c.args.end ≤ n) (sym (length-map c.args.entries.now.entries (λ e. e.1))) c.requires.within)
          c.places.invariant.done c.index.ensures (values c.put_stub.new.entries) (sym c.changes.ensures ∙ c.if-changes.true) written;
    }

pub places-preserved-in_default : goal.places-preserved-in_default
places-preserved-in_default g c = grind (arith, never_empty c.args.range.now.area, length-map)

pub places-preserved : goal.places-preserved
places-preserved g c =
    let stub = sym c.changes.ensures ∙ c.if-changes.false in
    record {
      above = omega arith;
      same_keys = c.places.invariant.same_keys;
      to_do = same_lines_on c.args.range.now.area (values c.args.entries.now) (values c.places.entries) c.places.i c.args.end c.index.result.now (omega arith) (omega arith) (subst (λ n. c.args.end ≤ n) (sym (length-map c.args.entries.now.entries (λ e. e.1))) c.requires.within)
          c.places.invariant.done c.index.ensures c.places.lines.items c.places.invariant.to_do stub;
      done = same_goes_on c.args.range.now.area (values c.args.entries.now) (values c.places.entries) c.places.i c.args.end c.index.result.now (omega arith) (omega arith) (subst (λ n. c.args.end ≤ n) (sym (length-map c.args.entries.now.entries (λ e. e.1))) c.requires.within)
          c.places.invariant.done c.index.ensures stub;
    }

pub returns-clause-values : goal.returns-clause-values
returns-clause-values g c = grind (arith, from_place, from_stubs c.args.range.now.area)
