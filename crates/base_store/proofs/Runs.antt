-- Sequences of calls of a store.
use Rattle.std.proofs.Common.{arith}
use Rattle.disk_io.{specs.{Disk.{DiskState, Files}, Runs.ChangesNothing}, proofs.Moments.{no_call, nothing_twice, then_run, weaker_run}}
use Rattle.base_file.specs.Base.{Base}
use Rattle.base_store.specs.Store.{StoreState, CommitsNothing, GoesOn, IsSameStore, KeepsOthers, LooksOn, LeavesCommitted}

pub same_store : (s : StoreState) → IsSameStore s s
same_store s = record { represented = λ base c. (λ h. h, λ h. h); own = λ m. (λ h. h, λ h. h); undoes = (λ h. h, λ h. h); sound = λ h. h }

pub same_twice : (old mid new : StoreState) → IsSameStore old mid → IsSameStore mid new → IsSameStore old new
same_twice old mid new first second = grind arith

pub quiet_disk : (d : DiskState) → ChangesNothing d d
quiet_disk d = grind (arith, no_call)

pub no_look : (s : StoreState) → s.is_ready → LooksOn s s
no_look s ready = record { ready = ready; keeps = λ base h. h; keeps_no_other = λ base h. h; committed = λ base h. h; quiet = quiet_disk s.disk; same = same_store s }

pub looks_twice : (old mid new : StoreState) → LooksOn old mid → LooksOn mid new → LooksOn old new
looks_twice old mid new first second = grind (arith, nothing_twice, same_twice)

pub looks_go_on : (old new : StoreState) → LooksOn old new → GoesOn old new
looks_go_on old new looks = record { ready = looks.ready; committed = λ honest. looks.committed; honest = looks.quiet.honest }

pub goes_on_twice : (old mid new : StoreState) → GoesOn old mid → GoesOn mid new → GoesOn old new
goes_on_twice old mid new first second = grind arith

pub looks_commit : (old new : StoreState) → old.is_ready → LooksOn old new → CommitsNothing old new
looks_commit old new ready looks = grind (arith, weaker_run)

pub others_twice : (old mid new : StoreState) → IsSameStore old mid → KeepsOthers old mid → KeepsOthers mid new → KeepsOthers old new
others_twice old mid new same first second = grind arith

-- the files that a crash leaves of the later calls, compared with those before the first call
stood_before : (old mid : StoreState) (base : Base) (c : Files) → IsSameStore old mid → KeepsOthers old mid → LeavesCommitted mid base c → LeavesCommitted old base c
stood_before old mid base c same kept stood = grind arith

pub commits_none : (old mid new : StoreState) → CommitsNothing old mid → GoesOn old mid → CommitsNothing mid new → CommitsNothing old new
commits_none old mid new first on second = grind (arith, then_run, stood_before, others_twice, same_twice)

pub looks_then_commits : (old mid new : StoreState) → old.is_ready → LooksOn old mid → CommitsNothing mid new → CommitsNothing old new
looks_then_commits old mid new ready looks second = commits_none old mid new (looks_commit old mid ready looks) (looks_go_on old mid looks) second
