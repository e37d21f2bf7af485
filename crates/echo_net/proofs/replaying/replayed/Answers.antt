use Rattle.std.proofs.{Common.◌∙◌, Common.List, Common.[], Common.map, Common.take, Common.sym, Common.ap, Common.subst, Common.arith, lemmas.List.take_all}
use Rattle.echo_addr.specs.declared.address.Address.{Address}
use Rattle.model_run.specs.{Event.run_event, Run.Run, Run.run_of}
use Rattle.echo_net.specs.Worlds.{IsWorldOf, LeadsToFirst, WorldState, own_addresses}
use Rattle.echo_net.proofs.{Counted.counts-more, Runs.addresses-first, Runs.event-more, Runs.first-run, Taken.run-taken}
use Rattle.echo_net.proofs.replaying.replayed.Goals as goal

pub events-init : goal.events-init
events-init g c =
    let A : List Address → Type 0 = λ all. LeadsToFirst c.in_ok-receivers.receivers.first.entries all in
    let W : WorldState → Type 0 = λ w. IsWorldOf w (run_of c.args.files.items []) in
    record {
      leads = subst A
          (sym (ap own_addresses c.in_ok-systems.ensures ∙ addresses-first c.args.files.items ∙ ap (map (λ f. f.system)) (sym c.deref.ensures.value)))
          c.in_ok-receivers.ensures;
      run = subst W
          (sym (λ i. record { systems = c.in_ok-systems.ensures i; packets = c.new-2.ensures.items i }))
          (first-run c.args.files.items);
      counts = c.new-counts.ensures.items;
    }

pub events-preserved : goal.events-preserved
events-preserved g c =
    let before = c.events.invariant in
    let A : List Address → Type 0 = λ all. LeadsToFirst c.in_ok-receivers.receivers.first.entries all in
    let R : Run → Type 0 = λ run. IsWorldOf c.happen.new.world run in
    let are = run-taken c.args.files.items (map run_event (take c.events.event-index c.args.events.now)) in
    record {
      leads = subst A (sym c.in_ok-happen.ensures.addresses) before.leads;
      run = subst R (event-more c.args.files.items c.args.events.now c.events.event-index c.event-item.result c.events-test.true c.event-item.is)
          (c.in_ok-happen.ensures.run _ before.run are);
      counts = counts-more c.args.files.items c.args.events.now c.events.event-index c.event-item.result c.events.counts.items c.push.new.self.items c.packets.result
          c.events-test.true c.event-item.is before.counts c.in_ok-push.ensures.items
          (c.packets.ensures _ (c.in_ok-happen.ensures.run _ before.run are));
    }

pub returns-clause-world : goal.returns-clause-world
returns-clause-world g c = grind (arith, take_all)

pub returns-clause-counts : goal.returns-clause-counts
returns-clause-counts g c = grind (arith, take_all)
