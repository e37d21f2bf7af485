use Rattle.std.{proofs.{Common.{◌≡◌, ◌∙◌, List, ℕ, Result, Ok, Err, sym, ap, subst}, lemmas.Result.on_ok_weaker}, specs.Prelude.OnOk}
use Rattle.model_run.specs.{Event.run_event, declared.event.Event.Event, Run.Run, Run.after_event}
use Rattle.model_run.specs.declared.event.Event.TheVariants as event
use Rattle.echo_net.specs.Worlds.{IsWorldOf, WorldState, after_posting, with_change}
use Rattle.echo_net.proofs.{Deliveries.delivery-run, Runs.posted-run, Runs.purged-run, Runs.scanned-run}
use Rattle.echo_net.proofs.happening.happen.Goals as goal

both_ok : {A E : Type 0} (P Q : Type 0) (r : Result A E) → OnOk r P → OnOk r Q → OnOk r (P × Q)
both_ok P Q (Ok x) p q = (p, q)
both_ok P Q (Err e) p q = tt

known : (world : WorldState) (run : Run) (event named : Event) → event ≡ named → IsWorldOf world (after_event run (run_event named)) → IsWorldOf world (after_event run (run_event event))
known world run event named e = subst (λ (x : Event). IsWorldOf world (after_event run (run_event x))) (sym e)

pub returns-in-Post-clause-run : goal.returns-in-Post-clause-run
returns-in-Post-clause-run g c =
    on_ok_weaker c.post.result
    (λ posted run is taken.
    let now = posted ∙ ap (λ (t : List ℕ). with_change c.args.world.now c.in-Post.system (after_posting t c.in-Post.draft c.in-Post.serial c.in-Post.stamp)) c.as_slice.ensures in
    let W : WorldState → Type 0 = λ w. IsWorldOf w (after_event run (run_event (event.Post c.in-Post.system c.in-Post.tag c.in-Post.draft c.in-Post.serial c.in-Post.stamp))) in
    known c.post.new.world run c.args.event.now _ c.in-Post.is
    (subst W (sym now) (posted-run c.args.world.now run c.in-Post.system c.in-Post.tag c.in-Post.draft c.in-Post.serial c.in-Post.stamp is)))
    c.post.ensures.posted

pub returns-in-Purge-clause-run : goal.returns-in-Purge-clause-run
returns-in-Purge-clause-run g c =
    on_ok_weaker c.purge.result
    (λ purged run is taken.
    let W : WorldState → Type 0 = λ w. IsWorldOf w (after_event run (run_event (event.Purge c.in-Purge.system))) in
    known c.purge.new.world run c.args.event.now _ c.in-Purge.is (subst W (sym purged) (purged-run c.args.world.now run c.in-Purge.system is)))
    c.purge.ensures.purged

pub returns-in-Scan-clause-run : goal.returns-in-Scan-clause-run
returns-in-Scan-clause-run g c =
    on_ok_weaker c.scan.result
    (λ both run is taken.
    let W : WorldState → Type 0 = λ w. IsWorldOf w (after_event run (run_event (event.Scan c.in-Scan.system c.in-Scan.stamp))) in
    known c.scan.new.world run c.args.event.now _ c.in-Scan.is (subst W (sym both.0) (scanned-run c.args.world.now run c.in-Scan.system c.in-Scan.stamp is both.1)))
    (both_ok _ _ c.scan.result c.scan.ensures.scanned c.scan.ensures.fit)

pub returns-in-Deliver-clause-run : goal.returns-in-Deliver-clause-run
returns-in-Deliver-clause-run g c =
    on_ok_weaker c.deliver.result
    (λ all run is taken. known c.deliver.new.world run c.args.event.now _ c.in-Deliver.is
    (delivery-run c.args.world.now c.deliver.new.world run c.in-Deliver.packet is taken all.0.0 all.0.1 all.1))
    (both_ok _ _ c.deliver.result (both_ok _ _ c.deliver.result c.deliver.ensures.none c.deliver.ensures.again) c.deliver.ensures.first)
