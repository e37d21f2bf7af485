use Rattle.{std.proofs.{Common.{◌≡◌, ◌<◌, ◌≤◌, ⊎_elim, ℕ, arith, subst, sym}, lemmas.Bool.cases_lt}, base_store.proofs.Runs.quiet_disk}
use Rattle.{disk_io.proofs.Moments.nothing_twice, base_folder_store.{specs.{Opened.held_by, Vouched.IsVouched}, proofs.Legible.held_quiet}}
use Rattle.base_folder.proofs.{Lookings.err_is, Readings.{looked_quiet, parts_quiet, not_behind, not_past, vouched_quiet}}
use Rattle.base_folder.proofs.reading.judge_messages.Goals as goal

pub messages-init : goal.messages-init
messages-init g c = record {
  inside = not_behind c.args.first c.count-count.result c.start_number-i.result c.start_number-i.ensures.within c.start_number-i.ensures.behind;
  vouched = λ honest j from below.
      let start = not_past c.args.first c.count-count.result c.start_number-i.result c.start_number-i.ensures.within c.start_number-i.ensures.behind in
      absurd (omega (arith, from, below, start));
  parts = λ honest. c.new-buffers.ensures _ _;
  quiet = quiet_disk (g.D.Disk.state c.args.disk.now);
  cause = omega arith;
}

pub judge_message-requires-clause-looked : goal.judge_message-requires-clause-looked
judge_message-requires-clause-looked g c = looked_quiet (g.D.Disk.state c.args.disk.now) (g.D.Disk.state c.messages.disk) c.args.folder.now c.messages.invariant.quiet c.requires

pub judge_message-requires-clause-parts : goal.judge_message-requires-clause-parts
judge_message-requires-clause-parts g c honest =
    let d0 = g.D.Disk.state c.args.disk.now in
    let d1 = g.D.Disk.state c.messages.disk in
    let folder = c.args.folder.now in
    parts_quiet d0 d1 folder c.messages.buffers (held_quiet d0 d1 folder c.messages.invariant.quiet) (c.messages.invariant.parts honest)

pub messages-preserved : goal.messages-preserved
messages-preserved g c =
    let keyed = g.H.Digest.keyed in
    let folder = c.args.folder.now in
    let d0 = g.D.Disk.state c.args.disk.now in
    let d1 = g.D.Disk.state c.messages.disk in
    let inv = c.messages.invariant in
    let quiet = c.judge_message.ensures.quiet in
    let i = c.messages.i in
    record {
      inside = omega arith;
      vouched = λ honest j from below.
          ⊎_elim (λ (e : j < i). inv.vouched (quiet.honest honest) j from e)
          (λ (e : i ≤ j).
          let same : i ≡ j = omega (arith, e, below) in
          subst (λ (n : ℕ). IsVouched keyed (held_by d0 folder) n) same (vouched_quiet keyed d0 d1 folder inv.quiet i (c.in_ok-judge_message.ensures.vouched honest)))
          (cases_lt j i);
      parts = λ honest. parts_quiet d1 d0 folder c.judge_message.new.buffers (sym (held_quiet d0 d1 folder inv.quiet)) (c.judge_message.ensures.parts honest);
      quiet = nothing_twice d0 d1 (g.D.Disk.state c.judge_message.new.disk) inv.quiet quiet;
      cause = omega (arith, inv.cause, c.judge_message.ensures.cause.later);
    }

pub returns-in_err-judge_message-clause-damaged : goal.returns-in_err-judge_message-clause-damaged
returns-in_err-judge_message-clause-damaged g c honest = grind (arith, err_is, held_quiet)

pub returns-clause-vouched : goal.returns-clause-vouched
returns-clause-vouched g c honest = λ j from below. c.messages.invariant.vouched honest j from (omega (arith, below, c.count-count.ensures, c.messages-test.false))
