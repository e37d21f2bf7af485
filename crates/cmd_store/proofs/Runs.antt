-- A run of `toss` on a store, from its packets to its end.
use Rattle.{std.{proofs.Common.{◌≡◌, ℕ, Bool, List, [], Option, Result, Ok, Err, subst}, specs.Prelude.OnOk}, base_file.specs.Base.Base}
use Rattle.{echo_links.specs.Links.LinkFile, echo_packet.specs.declared.limits.Limits.Limits, cmd_status.specs.declared.fault.Fault.Fault}
use Rattle.{cmd_status.specs.Devices.{Device, Output}, base_store.specs.{Store.StoreState, declared.store_error.StoreError.StoreError}}
use Rattle.cmd_store.specs.{Coming.Coming, declared.command_error.CommandError.CommandError, Answered.HasCommitted}
use Rattle.cmd_store.specs.Tossed.{Tosses, TossesFiles, TossesOn, TossesTo}

pub none_before : {R : Type 0} (honest : Type 0) (noting : Bool) (limits : Limits) (device : R → Device) (file : LinkFile) (base : Base) (files left : List Coming) (none more : List ℕ) (result : Result (Option Fault) StoreError) (new : StoreState) → none ≡ []
    → TossesFiles honest noting limits device file base files left none more result new → TossesFiles honest noting limits device file base files left [] more result new
none_before honest noting limits device file base files left none more result new is t = subst (λ (l : List ℕ). TossesFiles honest noting limits device file base files left l more result new) is t

pub tosses : {R : Type 0} (honest : Type 0) (noting : Bool) (limits : Limits) (device : R → Device) (file : LinkFile) (base : Base) (files left : List Coming) (more : List ℕ) (stopped : Option Fault) (mid : StoreState)
    → TossesFiles honest noting limits device file base files left [] more (Ok stopped) mid → (next : Base) × Tosses honest noting limits device file files base next × mid.keeps next
tosses honest noting limits device file base files left more stopped mid t =
    (t.next, record { stopped = stopped; left = left; run = t.run; each = t.each; state = t.state }, t.keeps)

-- the lines of a run and the committed base belong to one run
pub tosses_to : {R : Type 0} (honest : Type 0) (noting : Bool) (limits : Limits) (device : R → Device) (file : LinkFile) (base : Base) (files left : List Coming) (old new : Output) (store : StoreState) (result : Result (Option Fault) CommandError)
    → TossesOn honest noting limits device file base files left old new result store → OnOk result (HasCommitted (TossesTo honest noting limits device file base files left old new result) store)
tosses_to honest noting limits device file base files left old new store (Ok fault) t = record {
  next = t.next;
  made = record { tossed = record { run = t.run; stopped = t.stopped; each = t.each; ends = t.ends }; state = t.state };
  keeps = t.committed.0;
  committed = t.committed.1;
}
tosses_to honest noting limits device file base files left old new store (Err why) t = tt
