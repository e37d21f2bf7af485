-- Packet files tossed into a store in order.
use Rattle.{std.proofs.Common.{◌≡◌, ◌≤◌, ℕ, Bool, List, Option, Some, None, Result, Ok, Err, refl, subst, arith}, base_file.specs.Base.Base}
use Rattle.cmd_store.{proofs.Tossings.{each_ended, each_more, each_refused, each_stopped}, specs.{Coming.{Coming, OpensNext}, TossRuns.TossesEachBy}}
use Rattle.{cmd_store.specs.{TossedPacket.{TossRun, TossesPacketBy}, Tossed.{TossesFiles, TossesNext, run_at, stopped_in}}, disk_io.specs.Disk.Honestly}
use Rattle.{echo_links.specs.Links.LinkFile, echo_packet.specs.declared.limits.Limits.Limits, cmd_status.specs.{declared.fault.Fault.Fault, Devices.Device}}
use Rattle.base_store.specs.{Store.{CommitsNothing, GoesOn, StoreState}, declared.store_error.StoreError.StoreError}
use Rattle.{base_store.proofs.Runs.{commits_none, goes_on_twice, looks_commit, looks_go_on, no_look}, echo_steps.specs.PacketsIn.state_in}

-- The remaining files have the same effect on the current base as all files on the first base. This also holds for
-- later files that are honest only if the present ones are.
abbrev pub GoesTo : {P R : Type 0} → (P → Type 0) → Bool → Limits → (R → Device) → LinkFile → Base → Base → List Coming → List Coming → List ℕ → List ℕ → P → Type 0
GoesTo {P} honest noting limits device file base next files left lines more at =
    (last : P) → (honest last → honest at) → (stopped : Option Fault) (rest : List Coming) (new : TossRun)
    → TossesEachBy (honest last) (TossesPacketBy noting) device left (run_at limits file next more) stopped rest new
    → TossesEachBy (honest last) (TossesPacketBy noting) device files (run_at limits file base lines) stopped rest new

pub record HasTossedFiles {P R : Type 0} (honest : P → Type 0) (noting : Bool) (limits : Limits) (device : R → Device) (file : LinkFile) (old mid : StoreState) (first now : ℕ) (files left : List Coming) (lines more : List ℕ) (at : P) : Type 0 where
  pub each : Honestly mid.disk ((base : Base) → old.keeps base → (next : Base) × mid.keeps next × GoesTo honest noting limits device file base next files left lines more at)
  pub on : GoesOn old mid
  pub commits : CommitsNothing old mid
  pub later : first ≤ now
  pub sound : old.is_sound → mid.is_sound

pub begun_files : {P R : Type 0} (honest : P → Type 0) (noting : Bool) (limits : Limits) (device : R → Device) (file : LinkFile) (old : StoreState) (first : ℕ) (files : List Coming) (lines : List ℕ) (at : P) → old.is_ready
    → HasTossedFiles honest noting limits device file old old first first files files lines lines at
begun_files honest noting limits device file old first files lines at ready = grind (arith, looks_go_on, no_look, looks_commit)

run_is : (limits : Limits) (file : LinkFile) (next : Base) (lines : List ℕ) (run : TossRun) → run.limits ≡ limits → run.system ≡ state_in file next → run.lines ≡ lines → run ≡ run_at limits file next lines
run_is limits file next lines run one two three = grind arith

pub more_files : {P R : Type 0} (honest : P → Type 0) (noting : Bool) (limits : Limits) (device : R → Device) (file : LinkFile) (old mid new : StoreState) (first now then : ℕ) (files left later : List Coming) (lines more all : List ℕ) (at opens : P) (reader behind : R)
    → HasTossedFiles honest noting limits device file old mid first now files left lines more at → (honest opens → honest at)
    → OpensNext (honest opens) (λ r. (device r).contents) left later (Some (Ok reader))
    → Honestly new.disk ((base : Base) → mid.keeps base → TossesNext noting limits file base (device reader) (device behind) more all (Ok None) new)
    → GoesOn mid new → CommitsNothing mid new → now ≤ then → (mid.is_sound → new.is_sound) → HasTossedFiles honest noting limits device file old new first then files later lines all opens
more_files {P} honest noting limits device file old mid new first now then files left later lines more all at opens reader behind so was opened tossed on commits le sound = record {
  each = λ is_honest base kept.
      let kept_so = so.each (on.honest is_honest) base kept in
      let t = tossed is_honest kept_so.0 kept_so.1 in
      let whole = subst (λ (r : TossRun). TossesPacketBy noting (run_at limits file kept_so.0 more) (device reader) (device behind) None r) (run_is limits file t.next all t.run t.same t.state t.added) t.packet in (
        t.next,
        t.keeps,
        λ last fit stopped rest run each. kept_so.2 last (λ is. was (fit is)) stopped rest run
            (each_more (honest last) (honest opens) (TossesPacketBy noting) device left later reader behind
            (run_at limits file kept_so.0 more) (run_at limits file t.next all) stopped rest run fit opened whole each),
      );
  on = goes_on_twice old mid new so.on on;
  commits = commits_none old mid new so.commits so.on commits;
  later = let earlier = so.later in omega (arith, earlier, le);
  sound = λ first. sound (so.sound first);
}

pub stopped_files : {P R : Type 0} (honest : P → Type 0) (noting : Bool) (limits : Limits) (device : R → Device) (file : LinkFile) (old mid new : StoreState) (first now : ℕ) (files left later : List Coming) (lines more all : List ℕ) (at opens : P) (reader behind : R)
    (fault : Fault) (result : Result (Option Fault) StoreError) (base : Base) → HasTossedFiles honest noting limits device file old mid first now files left lines more at → (honest opens → honest at)
    → OpensNext (honest opens) (λ r. (device r).contents) left later (Some (Ok reader))
    → ((b : Base) → mid.keeps b → TossesNext noting limits file b (device reader) (device behind) more all result new) → stopped_in result ≡ Some fault
    → mid.disk.is_honest → old.keeps base → TossesFiles (honest opens) noting limits device file base files later lines all result new
stopped_files honest noting limits device file old mid new first now files left later lines more all at opens reader behind fault result base so was opened tossed is is_honest kept = grind (arith, each_stopped)

pub refused_files : {P R : Type 0} (honest : P → Type 0) (noting : Bool) (limits : Limits) (device : R → Device) (file : LinkFile) (old mid : StoreState) (first now : ℕ) (files left later : List Coming) (lines more : List ℕ) (at opens : P) (fault : Fault) (base : Base)
    → HasTossedFiles honest noting limits device file old mid first now files left lines more at → (honest opens → honest at)
    → OpensNext (honest opens) (λ (r : R). (device r).contents) left later (Some (Err fault))
    → mid.disk.is_honest → old.keeps base → TossesFiles (honest opens) noting limits device file base files later lines more (Ok (Some fault)) mid
refused_files honest noting limits device file old mid first now files left later lines more at opens fault base so was opened is_honest kept =
    let kept_so = so.each is_honest base kept in
    let run = run_at limits file kept_so.0 more in
    record {
      next = kept_so.0;
      run = run;
      each = kept_so.2 opens was (Some fault) later run
          (each_refused (honest opens) (honest opens) (TossesPacketBy noting) device left later run fault
          (λ h. h) opened);
      state = refl;
      added = refl;
      keeps = kept_so.1;
    }

pub ended_files : {P R : Type 0} (honest : P → Type 0) (noting : Bool) (limits : Limits) (device : R → Device) (file : LinkFile) (old mid : StoreState) (first now : ℕ) (files left later : List Coming) (lines more : List ℕ) (at opens : P) (base : Base)
    → HasTossedFiles honest noting limits device file old mid first now files left lines more at → (honest opens → honest at)
    → OpensNext (honest opens) (λ (r : R). (device r).contents) left later None
    → mid.disk.is_honest → old.keeps base → TossesFiles (honest opens) noting limits device file base files later lines more (Ok None) mid
ended_files honest noting limits device file old mid first now files left later lines more at opens base so was opened is_honest kept =
    let kept_so = so.each is_honest base kept in
    let run = run_at limits file kept_so.0 more in
    record {
      next = kept_so.0;
      run = run;
      each = kept_so.2 opens was None later run
          (each_ended (honest opens) (honest opens) (TossesPacketBy noting) device left later run opened);
      state = refl;
      added = refl;
      keeps = kept_so.1;
    }
