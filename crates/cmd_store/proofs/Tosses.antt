-- Packets that are tossed into a store, as packets that are tossed at a system.
use Rattle.std.proofs.Common.{◌≡◌, ◌++◌, ℕ, Bool, true, false, List, Option, Some, None, Result, Ok, Err, refl, sym, subst, inl, arith}
use Rattle.{base_file.specs.Base.Base, echo_links.specs.Links.LinkFile, echo_packet.specs.declared.limits.Limits.Limits}
use Rattle.{cmd_status.specs.{declared.fault.Fault.{Fault, TheVariants.{OutOfMemory, TossMemory}}, Devices.Device}, model_steps.specs.SystemState.SystemState}
use Rattle.base_store.specs.{Store.StoreState, declared.store_error.StoreError.StoreError}
use Rattle.echo_steps.specs.{PacketsIn.{HoldsUnlessFailed, cause_in, packet_answer, state_in, stop_in}, declared.step_error.StoppedToss.StoppedToss}
use Rattle.echo_steps.specs.{declared.{fault.TossFault.TossFault, step_error.TossStepError.TossStepError, tally.Tally.Tally}, PacketSteps.{CountsToss, PacketStep}}
use Rattle.cmd_store.specs.{Lines.tally_line, TossedPacket.{ReportsPacket, TossRun, TossesPacketBy, fault_of}, NotedPacket.NotesPacket}
use Rattle.cmd_store.specs.Tossed.{ReportsIn, ReportsStop, TossesNext, run_at}
use Rattle.echo_steps.specs.declared.step_error.TossStepError.TheVariants as toss

-- the notes on a packet, or no notes if its messages are not noted
abbrev pub NotesIf : Bool → Limits → SystemState → Option (List ℕ) → Result Tally TossFault → SystemState → List ℕ → List ℕ → Type 0
NotesIf true limits old before answer new text noted = NotesPacket limits old before answer new text noted
NotesIf false limits old before answer new text noted = noted ≡ text

pub no_line : (noting : Bool) (run : TossRun) (d : Device) → TossesPacketBy noting run d d (Some OutOfMemory) run
no_line true run d = inl (refl, refl, refl, refl)
no_line false run d = inl (refl, refl, refl, refl)

pub packet_by : (noting : Bool) (old new : TossRun) (reader left : Device) (stopped : Option Fault) (answer : Result Tally TossFault) (noted : List ℕ) → new.limits ≡ old.limits
    → PacketStep old.limits old.system reader.contents left.contents answer new.system → CountsToss answer reader.failures left.failures
    → NotesIf noting old.limits old.system reader.contents answer new.system old.lines noted → ReportsPacket noted new.lines answer stopped → TossesPacketBy noting old reader left stopped new
packet_by noting old new reader left stopped answer noted h1 h2 h3 h4 h5 = grind arith

next_stopped : (noting : Bool) (limits : Limits) (file : LinkFile) (base next : Base) (reader left : Device) (lines noted more : List ℕ) (old new : StoreState) (tally : Tally) (why : TossStepError) (result : Result (Option Fault) StoreError)
    → PacketStep limits (state_in file base) reader.contents left.contents (Err (record { tally = tally; cause = cause_in why })) (state_in file next)
    → NotesIf noting limits (state_in file base) reader.contents (Err (record { tally = tally; cause = cause_in why })) (state_in file next) lines noted
    → HoldsUnlessFailed {A = Unit {0}} old (Err why) new next → CountsToss (Err (record { tally = tally; cause = cause_in why })) reader.failures left.failures → ReportsStop noted more tally why result
    → TossesNext noting limits file base reader left lines more result new
next_stopped noting limits file base next reader left lines noted more old new tally (toss.Packet why) result step notes holds device (is, added) =
    subst (λ (r : Result (Option Fault) StoreError). TossesNext noting limits file base reader left lines more r new) (sym is) (record {
      next = next;
      run = run_at limits file next more;
      packet = packet_by noting (run_at limits file base lines) (run_at limits file next more) reader left (Some (fault_of why)) (Err (record { tally = tally; cause = why })) noted refl step device notes (refl, added);
      state = refl;
      same = refl;
      added = refl;
      keeps = holds;
    })
next_stopped noting limits file base next reader left lines noted more old new tally (toss.Store cause) result step notes holds device is =
    let all = noted ++ tally_line tally in
    subst (λ (r : Result (Option Fault) StoreError). TossesNext noting limits file base reader left lines more r new) (sym is) (record {
      next = next;
      run = run_at limits file next all;
      packet = packet_by noting (run_at limits file base lines) (run_at limits file next all) reader left (Some TossMemory) (Err (record { tally = tally; cause = cause_in (toss.Store cause) })) noted refl step device notes (refl, refl);
      state = refl;
      same = refl;
      added = tt;
      keeps = tt;
    })

pub next_tossed : (noting : Bool) (limits : Limits) (file : LinkFile) (base next : Base) (reader left : Device) (lines noted more : List ℕ) (old new : StoreState) (answer : Result Tally StoppedToss) (result : Result (Option Fault) StoreError)
    → PacketStep limits (state_in file base) reader.contents left.contents (packet_answer answer) (state_in file next)
    → NotesIf noting limits (state_in file base) reader.contents (packet_answer answer) (state_in file next) lines noted
    → HoldsUnlessFailed old (stop_in answer) new next → CountsToss (packet_answer answer) reader.failures left.failures → ReportsIn noted more answer result
    → TossesNext noting limits file base reader left lines more result new
next_tossed noting limits file base next reader left lines noted more old new (Ok tally) result step notes holds device (is, added) =
    subst (λ (r : Result (Option Fault) StoreError). TossesNext noting limits file base reader left lines more r new) (sym is) (record {
      next = next;
      run = run_at limits file next more;
      packet = packet_by noting (run_at limits file base lines) (run_at limits file next more) reader left None (Ok tally) noted refl step device notes (refl, added);
      state = refl;
      same = refl;
      added = refl;
      keeps = holds;
    })
next_tossed noting limits file base next reader left lines noted more old new (Err stopped) result step notes holds device reports =
    next_stopped noting limits file base next reader left lines noted more old new stopped.tally stopped.stop result step notes holds device reports

pub next_unread : (noting : Bool) (limits : Limits) (file : LinkFile) (base : Base) (d : Device) (lines more : List ℕ) (new : StoreState) → more ≡ lines → new.keeps base
    → TossesNext noting limits file base d d lines more (Ok (Some OutOfMemory)) new
next_unread noting limits file base d lines more new same kept = record {
  next = base;
  run = run_at limits file base lines;
  packet = no_line noting (run_at limits file base lines) d;
  state = refl;
  same = refl;
  added = sym same;
  keeps = kept;
}

pub next_from : (noting by : Bool) (limits : Limits) (file : LinkFile) (base : Base) (reader left : Device) (lines start more : List ℕ) (result : Result (Option Fault) StoreError) (new : StoreState) → noting ≡ by → start ≡ lines
    → TossesNext by limits file base reader left start more result new → TossesNext noting limits file base reader left lines more result new
next_from noting by limits file base reader left lines start more result new is same t =
    subst (λ (b : Bool). TossesNext b limits file base reader left lines more result new) (sym is) (subst (λ (l : List ℕ). TossesNext by limits file base reader left l more result new) same t)
