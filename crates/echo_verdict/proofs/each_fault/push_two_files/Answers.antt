use Rattle.std.proofs.{Common.{◌≡◌, ◌++◌, ◌∙◌, List, ap, map}, lemmas.Result.on_ok_weaker}
use Rattle.echo_verdict.specs.declared.each_fault.Kind.TheVariants as kinds
use Rattle.echo_verdict.{specs.{declared.link.Link.Link, AllFaults.fault_of, Firsts.OccursTwice}, proofs.Drawings.links_in_order}
use Rattle.echo_verdict.proofs.each_fault.push_two_files.Goals as goal

pub returns : goal.returns
returns c =
    let found : List Link = c.in_ok-found.found.items in
    on_ok_weaker c.push_faults.result
    (λ whole. record {
      found = found;
      in_order = links_in_order (λ l. (l.from ≡ l.to) × OccursTwice c.args.systems.now l.from) found c.in_ok-found.ensures.ascending c.in_ok-found.ensures.members;
      whole = whole ∙ ap (λ (ls : List Link). c.args.all.now.items ++ map (fault_of kinds.TwoFiles) ls) c.deref.ensures.value;
    })
    c.push_faults.ensures
