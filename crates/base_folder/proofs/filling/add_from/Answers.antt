use Rattle.{std.proofs.Common.{◌≡◌, ◌+◌, ◌-◌, ℕ, Result, Ok, Err, inl, refl, subst, arith}, base_folder_store.{specs.Opened.held_by, proofs.Causes.handed_on}}
use Rattle.base_folder.specs.{Filled.{FillsOnly, HasFillCause, HoldsFront}, declared.fill_error.FillError.FillError}
use Rattle.base_folder.proofs.Fillings.{by_error, cause_since, fills_fewer, fills_none, fills_twice, reads_none, reads_twice, shows_before, shows_later}
use Rattle.base_folder.proofs.filling.add_from.Goals as goal

pub add_next-requires : goal.add_next-requires
add_next-requires g c = grind arith

pub messages-init : goal.messages-init
messages-init g c = grind (arith, fills_none, reads_none)

pub messages-preserved : goal.messages-preserved
messages-preserved g c =
    let d = g.D.Disk.state c.args.disk.now in
    let e = g.D.Disk.state c.messages.disk in
    let k = g.D.Disk.state c.add_next.new.disk in
    let a = g.M.MessageSource.state c.args.messages.now in
    let b = g.M.MessageSource.state c.messages.messages in
    let z = g.M.MessageSource.state c.add_next.new.messages in
    let was = c.messages.invariant in
    let says = c.in_ok-add_next.ensures in
    record {
      kept = fills_twice g.H.Digest.keyed c.args.folder.now c.messages.folder c.add_next.new.folder d e k (c.messages.i - c.args.from) 1 (c.messages.i + 1 - c.args.from) (Ok tt) (omega (arith, c.messages.auto.i)) was.kept says.kept;
      held = λ honest base cursor shows front. says.added honest base cursor (shows_later a b z base was.reads.looks shows)
          (was.held (says.kept.adds.run.outside.honest honest) base cursor (shows_before a b z base says.reads.looks shows) front);
      reads = reads_twice a b z (Ok tt) was.reads says.reads;
      cause = omega (arith, was.cause, says.cause.cause.later);
    }

pub returns-in_err-add_next-clause-kept : goal.returns-in_err-add_next-clause-kept
returns-in_err-add_next-clause-kept g c =
    let d = g.D.Disk.state c.args.disk.now in
    let k = g.D.Disk.state c.add_next.new.disk in
    let keyed = g.H.Digest.keyed in
    let why = c.in_err-add_next.field-0.0 in
    let so_far = c.messages.i - c.args.from in
    fills_fewer keyed c.args.folder.now c.add_next.new.folder d k (so_far + 1) (c.args.to - c.args.from) why c.from_residual.result c.from_residual.ensures.1
    (fills_twice keyed c.args.folder.now c.messages.folder c.add_next.new.folder d (g.D.Disk.state c.messages.disk) k so_far 1 (so_far + 1) (Err why) refl c.messages.invariant.kept c.in_err-add_next.ensures.kept)

pub returns-in_err-add_next-clause-reads : goal.returns-in_err-add_next-clause-reads
returns-in_err-add_next-clause-reads g c = grind (arith, by_error, reads_twice)

pub returns-in_err-add_next-clause-cause : goal.returns-in_err-add_next-clause-cause
returns-in_err-add_next-clause-cause g c =
    let a = g.D.Disk.failures c.args.disk.now in
    let z = g.D.Disk.failures c.add_next.new.disk in
    by_error (λ (r : Result (Unit {0}) FillError). HasFillCause a z r) c.in_err-add_next.field-0.0 c.from_residual.result c.from_residual.ensures.1
    (cause_since a (g.D.Disk.failures c.messages.disk) z (Err c.in_err-add_next.field-0.0) c.messages.invariant.cause c.in_err-add_next.ensures.cause)

pub returns-in_err-add_next-clause-many : goal.returns-in_err-add_next-clause-many
returns-in_err-add_next-clause-many g c = λ honest base cursor shows front is.
    let a = g.M.MessageSource.state c.args.messages.now in
    let b = g.M.MessageSource.state c.messages.messages in
    let z = g.M.MessageSource.state c.add_next.new.messages in
    let was = c.messages.invariant in
    let next = c.in_err-add_next.ensures.many base (shows_later a b z base was.reads.looks shows) (handed_on _ _ c.from_residual.result c.from_residual.ensures.1 is) in
    record {
      disk = c.messages.disk;
      folder = c.messages.folder;
      at = was.kept.adds.path;
      full = inl (record {
        place = c.messages.i;
        cursor = cursor;
        message = next.0;
        holds = was.held (c.add_next.ensures.kept.adds.run.outside.honest honest) base cursor (shows_before a b z base c.add_next.ensures.reads.looks shows) front;
        is = next.1;
        lacks = next.2;
      });
    }

pub returns-clause-kept : goal.returns-clause-kept
returns-clause-kept g c =
    let end : c.messages.i ≡ c.args.to = omega (arith, c.requires.order) in
    subst (λ (n : ℕ). FillsOnly {T = Unit {0}} g.H.Digest.keyed (n - c.args.from) c.args.folder.now c.messages.folder (g.D.Disk.state c.args.disk.now) (g.D.Disk.state c.messages.disk) (Ok tt)) end c.messages.invariant.kept

pub returns-clause-added : goal.returns-clause-added
returns-clause-added g c = λ honest base cursor shows front.
    let end : c.messages.i ≡ c.args.to = omega (arith, c.requires.order) in
    subst (λ (n : ℕ). HoldsFront g.H.Digest.keyed (held_by (g.D.Disk.state c.messages.disk) c.messages.folder) base.messages n cursor) end (c.messages.invariant.held honest base cursor shows front)
