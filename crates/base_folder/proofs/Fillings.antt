-- A folder filled with the messages of a base, one after another.
use Rattle.std.proofs.Common.{◌≡◌, ◌≤◌, ◌<◌, ◌+◌, ℕ, List, [], ◌∷◌, ◌++◌, Some, None, length, take, false, inl, inr, ⊎_elim, Bool, Result, Ok, Err, refl, sym, ap, subst, ◌∙◌, arith, length-append}
use Rattle.std.proofs.lemmas.{Grind.flat_map-append, List.{append-nil, length-map, length-take-le, take_all}, Option.{get_or_from_slice_get, slice_get_within}}
use Rattle.std.{proofs.lemmas.Result.{IfErr-weaker, on_ok_weaker}, specs.Prelude.{IfErr, IsErrAnd, IsErrOf, OnOk, slice_get}}
use Rattle.{disk_io.{specs.{Disk.{DiskState, Files}, Runs.LeavesOnly}, proofs.Moments.{then_run, weaker_run}}, base_log.specs.AtRest.IsAtRest}
use Rattle.{base_log.specs.{Moments.{IsBeforeOrAfter, KeepsOutside, RepresentsAlone}, Standing.{BaseBytes, Represents}}, base_store.proofs.Causes.failed_since}
use Rattle.{base_log.proofs.Rested.{rest_same, rest_represented}, echo_filed.specs.{Filed.{Filed, key_of}, Stored.{IsStored, Stored, message_in, stored_bytes}}}
use Rattle.{echo_filed.{specs.declared.stored.Version.TheVariants.Second, proofs.Plain.all_append}, base_file.specs.Alone.{IsStoredAlone, MayStandAlone}}
use Rattle.base_file.{specs.{Base.{Base, IsBase, is_known}, declared.fault.BaseFault.BaseFault}, proofs.Purges.front_more}
use Rattle.base_folder_store.specs.{Held.{HoldsBase, RepresentsBase, RepresentsBaseAlone, RepresentsBaseOrWasLeft, digest_by}, declared.folder.Folder.Folder}
use Rattle.base_folder_store.specs.{Answers.{Answers, HasReadCause}, Added.with_stored, Opened.{IsOpen, committed_by, held_by, path_of}, State.IsUsable}
use Rattle.base_folder_store.proofs.{Causes.{answers_give, handed_on}, Legible.{keys_all, legible_open}, Runs.{run_none, run_twice}}
use Rattle.{base_folder_store.proofs.{Seen.{at_end, end_holds, end_open}, Stubbed.new_at}, base_store.specs.Keys.{digested, digested_key, entry, keys_from}}
use Rattle.base_store.{specs.declared.store_error.StoreError.StoreError, proofs.{Digests.of_key, Placed.{bytes_of, keys_append, keys_long}}}
use Rattle.base_folder.specs.Filled.{AddsOnly, FillsAllOrNothing, FillsOnly, HasFillCause, HasUnfilledCause, HoldsFront, HoldsMany, HoldsMore, IsFilledFull, IsKept, IsOpenIfUnread, IsUncommitted, IsUndamaged, IsUnfilled, ReadsFor, RepresentsMany, RepresentsNoneOr, RepresentsNoneOrWasLeft, ShowsBase, no_messages, unfilled_cause}
use Rattle.base_folder.specs.{AsFile.file_cause, OpenError.{HasUnreadCause, IsWrong}, Source.{LooksAt, SourceState}, declared.open_error.OpenError.OpenError}
use Rattle.base_folder.{specs.declared.fill_error.FillError.FillError, proofs.{Files.there, Lookings.err_is, Readings.{looks_none, looks_on}}}
use Rattle.base_file.specs.declared.fault.BaseFault.TheVariants as fault
use Rattle.base_store.specs.declared.store_error.StoreError.TheVariants as store
use Rattle.base_folder.specs.declared.open_error.OpenError.TheVariants as unread
use Rattle.base_folder.specs.declared.fill_error.FillError.TheVariants as unfilled

pub by_error : {T E : Type 0} (P : Result T E → Type 0) (e : E) (r : Result T E) → IsErrAnd r (λ x. x ≡ e) → P (Err e) → P r
by_error P e (Ok x) is was = absurd is
by_error {E = E} P e (Err x) is was = subst (λ (y : E). P (Err y)) (sym is) was

pub front_one : (keyed : ℕ → ℕ → List ℕ → ℕ) (old now : BaseBytes) (base : Base) (i cursor : ℕ) (m : Filed) → IsBase base.messages base.cursor → slice_get base.messages i ≡ Some m
    → HoldsMore keyed old now m → HoldsFront keyed old base.messages i cursor → HoldsFront keyed now base.messages (i + 1) cursor
front_one keyed old now base i cursor m is at more was =
    let all = base.messages in
    let within = slice_get_within all i m at in
    let unknown : is_known (take i all) (key_of m) ≡ false = subst (λ (x : Filed). is_known (take i all) (key_of x) ≡ false) (get_or_from_slice_get all i m m at) (new_at [] all i m within is.new) in
    subst (λ (l : List Filed). HoldsBase keyed now (record { messages = l; cursor = cursor })) (sym (front_more all i m at))
    (more (record { messages = take i all; cursor = cursor }) was unknown)

pub front_scanned : (keyed : ℕ → ℕ → List ℕ → ℕ) (d : DiskState) (f g : Folder) (base : Base) (n : ℕ) → g ≡ at_end f → n ≡ base.cursor → IsOpen d f → IsBase base.messages base.cursor
    → HoldsFront keyed (held_by d f) base.messages n 0 → HoldsFront keyed (held_by d g) base.messages n base.cursor
front_scanned keyed d f g base n end scanned opened is was =
    let long : length (take n base.messages) ≡ base.cursor = length-take-le n base.messages (omega (arith, is.within, scanned)) ∙ scanned in
    subst (λ (x : Folder). HoldsFront keyed (held_by d x) base.messages n base.cursor) (sym end)
    (subst (λ (m : ℕ). HoldsFront keyed (held_by d (at_end f)) base.messages n m) long (end_holds keyed d f (record { messages = take n base.messages; cursor = 0 }) opened was))

pub front_all : (keyed : ℕ → ℕ → List ℕ → ℕ) (bytes : BaseBytes) (base : Base) (n : ℕ) → n ≡ length base.messages → HoldsFront keyed bytes base.messages n base.cursor → HoldsBase keyed bytes base
front_all keyed bytes base n all was =
    subst (λ (l : List Filed). HoldsBase keyed bytes (record { messages = l; cursor = base.cursor })) (take_all n base.messages (omega arith)) was

pub many_more : (keyed : ℕ → ℕ → List ℕ → ℕ) (now held : BaseBytes) (k : ℕ) (m : Filed) (bytes : List ℕ) (number : ℕ) → now ≡ with_stored held bytes number → IsStoredAlone m bytes
    → number ≡ digest_by keyed held.mark (digested_key (key_of m)) → HoldsMany keyed held k → HoldsMany keyed now (k + 1)
many_more keyed now held k m bytes number staged is recorded was =
    let digest = digest_by keyed held.mark in
    let one : List Stored = is.s ∷ [] in
    let here : length held.messages ≡ 0 + length (bytes_of was.all) = omega (arith, ap (λ (l : List ℕ). length l) was.stored) in
    let number_is : number ≡ digest (digested m) = recorded ∙ ap digest (sym (of_key m)) in
    let entered : entry (length held.messages) number ≡ keys_from digest (0 + length (bytes_of was.all)) one =
    (λ i. entry (here i) (number_is i))
    ∙ ap (λ (x : Filed). entry (0 + length (bytes_of was.all)) (digest (digested x))) (sym is.is)
    ∙ sym (append-nil (entry (0 + length (bytes_of was.all)) (digest (digested (message_in Second is.s))))) in
    subst (λ (b : BaseBytes). HoldsMany keyed b (k + 1)) (sym staged)
    (record {
      all = was.all ++ one;
      many = omega (arith, length-append was.all one, was.many);
      sizes = all_append (IsStored Second) was.all one was.sizes (is.size, tt);
      sound = all_append MayStandAlone was.all one was.sound (is.alone, tt);
      stored = (λ i. was.stored i ++ (is.same ∙ sym (append-nil (stored_bytes Second is.s))) i) ∙ sym (flat_map-append (stored_bytes Second) was.all one);
      entries = (λ i. was.entries i ++ entered i) ∙ sym (keys_append digest 0 was.all one);
      within = omega (arith, was.within);
    })

pub many_none : (keyed : ℕ → ℕ → List ℕ → ℕ) (bytes : BaseBytes) → HoldsBase keyed bytes no_messages → HoldsMany keyed bytes 0
many_none keyed bytes holds = grind (arith, length-map)

many_end : (keyed : ℕ → ℕ → List ℕ → ℕ) (d : DiskState) (f g : Folder) (k : ℕ) → g ≡ at_end f → IsOpen d f → HoldsMany keyed (held_by d f) k → HoldsMany keyed (held_by d g) k
many_end keyed d f g k end opened was =
    let long = keys_all d f (legible_open d f opened) in
    let entries = ap (λ (l : List ℕ). length l) was.entries in
    let all = keys_long (digest_by keyed (held_by d f).mark) 0 was.all in
    subst (λ (x : Folder). HoldsMany keyed (held_by d x) k) (sym end)
    (record { all = was.all; many = was.many; sizes = was.sizes; sound = was.sound; stored = was.stored; entries = was.entries; within = omega (arith, long, entries, all, was.many) })

-- until the commit a crash leaves no message
pub fills_before : (keyed : ℕ → ℕ → List ℕ → ℕ) (path : List ℕ) (d e : DiskState) (bytes : BaseBytes) (P : Files → Type 0) → HoldsBase keyed bytes no_messages → LeavesOnly d e (RepresentsAlone path d bytes)
    → LeavesOnly d e (RepresentsNoneOr keyed path d P)
fills_before keyed path d e bytes P holds run =
    weaker_run d e (RepresentsAlone path d bytes) (RepresentsNoneOr keyed path d P) run
    (λ c left. record { outside = left.outside; represented = inl (record { bytes = bytes; represented = left.represented; holds = holds }) })

-- In the commit it leaves none or all.
pub fills_run : (keyed : ℕ → ℕ → List ℕ → ℕ) (path : List ℕ) (d f : DiskState) (before now : BaseBytes) (P : Files → Type 0) → HoldsBase keyed before no_messages → ((c : Files) → Represents path now c → P c)
    → LeavesOnly d f (IsBeforeOrAfter path d before now) → LeavesOnly d f (RepresentsNoneOr keyed path d P)
fills_run keyed path d f before now P was gives run =
    weaker_run d f (IsBeforeOrAfter path d before now) (RepresentsNoneOr keyed path d P) run
    (λ c left. record {
      outside = left.outside;
      represented = ⊎_elim (λ (h : Represents path before c). inl (record { bytes = before; represented = h; holds = was })) (λ (h : Represents path now c). inr (gives c h)) left.represented;
    })

pub filled_is_kept : (path : List ℕ) (d : DiskState) (f : Folder) (P : Files → Type 0) → path_of f ≡ path → IsAtRest d (path_of f) f.end → ((c : Files) → Represents path (committed_by d f) c → P c) → IsKept d P
filled_is_kept path d f P at rest gives =
    let there = λ (c : Files) (is : Represents (path_of f) (committed_by d f) c). gives c (subst (λ (p : List ℕ). Represents p (committed_by d f) c) at is) in
    record { seen = there d.seen (rest_same d (path_of f) f.end rest d.seen refl refl refl); stays = λ c left. there c (rest_represented d (path_of f) f.end rest c left) }

pub open_is_kept : (keyed : ℕ → ℕ → List ℕ → ℕ) (path : List ℕ) (d : DiskState) (f : Folder) (base : Base) → path_of f ≡ path → IsOpen d f → HoldsBase keyed (committed_by d f) base → IsKept d (RepresentsBase keyed path base)
open_is_kept keyed path d f base at opened holds = grind arith

pub uncommitted_opened : (keyed : ℕ → ℕ → List ℕ → ℕ) (path : List ℕ) (left : (Files → Type 0) → Files → Type 0) (d e : DiskState) (why : OpenError) → LeavesOnly d e (left (λ c. ⊥)) → IsUncommitted keyed path left d e (unfilled.Folder why)
uncommitted_opened keyed path left d e unread.Memory run = tt
uncommitted_opened keyed path left d e unread.Device run = tt
uncommitted_opened keyed path left d e (unread.Wrong fault) run = run
uncommitted_opened keyed path left d e unread.Raced run = run
uncommitted_opened keyed path left d e (unread.NotOwner address) run = run

pub uncommitted_added : (keyed : ℕ → ℕ → List ℕ → ℕ) (left : (Files → Type 0) → Files → Type 0) (d e : DiskState) (f g : Folder) (why : FillError) → HoldsBase keyed (committed_by d f) no_messages → path_of g ≡ path_of f
    → LeavesOnly d e (left (λ c. ⊥)) → IsOpenIfUnread f g d e why → IsUncommitted keyed (path_of f) left d e why
uncommitted_added keyed left d e f g (unfilled.Messages fault) none at run still =
    (open_is_kept keyed (path_of f) e g no_messages at still.0 (subst (λ (b : BaseBytes). HoldsBase keyed b no_messages) (sym still.1) none), run)
uncommitted_added keyed left d e f g unfilled.Used none at run still = run
uncommitted_added keyed left d e f g (unfilled.Folder why) none at run still = uncommitted_opened keyed (path_of f) left d e why run

pub uncommitted_stored : (keyed : ℕ → ℕ → List ℕ → ℕ) (path : List ℕ) (left : (Files → Type 0) → Files → Type 0) (d e : DiskState) (error : StoreError) → (IsErrOf {T = Unit {0}} (Err error) store.TooMany → LeavesOnly d e (left (λ c. ⊥)))
    → IsUncommitted keyed path left d e (unfilled.Folder (unfilled_cause error))
uncommitted_stored keyed path left d e store.Memory run = tt
uncommitted_stored keyed path left d e store.TooMany run = run refl
uncommitted_stored keyed path left d e store.Device run = tt
uncommitted_stored keyed path left d e store.Damaged run = tt

pub opened_run : (keyed : ℕ → ℕ → List ℕ → ℕ) (path : List ℕ) (d e : DiskState) (P : Files → Type 0) → LeavesOnly d e (RepresentsBaseOrWasLeft keyed path d no_messages) → LeavesOnly d e (RepresentsNoneOrWasLeft keyed path d P)
opened_run keyed path d e P run =
    weaker_run d e (RepresentsBaseOrWasLeft keyed path d no_messages) (RepresentsNoneOrWasLeft keyed path d P) run
    (λ c or. ⊎_elim (λ (alone : RepresentsBaseAlone keyed path d no_messages c). inl (record { outside = alone.outside; represented = inl alone.represented })) (λ (left : d.may_leave c). inr left) or)

fill_run : (keyed : ℕ → ℕ → List ℕ → ℕ) (path : List ℕ) (d e f : DiskState) (P : Files → Type 0) → LeavesOnly d e (RepresentsBaseOrWasLeft keyed path d no_messages) → KeepsOutside path d e
    → LeavesOnly e f (RepresentsNoneOr keyed path e P) → LeavesOnly d f (RepresentsNoneOrWasLeft keyed path d P)
fill_run keyed path d e f P opening kept filling =
    then_run d e f (RepresentsNoneOrWasLeft keyed path d P) (RepresentsNoneOr keyed path e P) (opened_run keyed path d e P opening) filling
    (λ c left. inl (record { outside = λ m out named flushed. left.outside m out (kept.named m out named) (kept.flushed m out flushed) ∙ kept.seen m out; represented = left.represented }))

uncommitted_since : (keyed : ℕ → ℕ → List ℕ → ℕ) (path : List ℕ) (d e f : DiskState) (why : FillError) → LeavesOnly d e (RepresentsBaseOrWasLeft keyed path d no_messages) → KeepsOutside path d e
    → IsUncommitted keyed path (RepresentsNoneOr keyed path e) e f why → IsUncommitted keyed path (RepresentsNoneOrWasLeft keyed path d) d f why
uncommitted_since keyed path d e f (unfilled.Messages fault) opening kept was = (was.0, fill_run keyed path d e f (λ c. ⊥) opening kept was.1)
uncommitted_since keyed path d e f unfilled.Used opening kept was = fill_run keyed path d e f (λ c. ⊥) opening kept was
uncommitted_since keyed path d e f (unfilled.Folder unread.Memory) opening kept was = tt
uncommitted_since keyed path d e f (unfilled.Folder unread.Device) opening kept was = tt
uncommitted_since keyed path d e f (unfilled.Folder (unread.Wrong fault)) opening kept was = fill_run keyed path d e f (λ c. ⊥) opening kept was
uncommitted_since keyed path d e f (unfilled.Folder unread.Raced) opening kept was = fill_run keyed path d e f (λ c. ⊥) opening kept was
uncommitted_since keyed path d e f (unfilled.Folder (unread.NotOwner address)) opening kept was = fill_run keyed path d e f (λ c. ⊥) opening kept was

pub fill_since : {T : Type 0} (keyed : ℕ → ℕ → List ℕ → ℕ) (path : List ℕ) (d e f : DiskState) (source later : SourceState) (r : Result T FillError) → LeavesOnly d e (RepresentsBaseOrWasLeft keyed path d no_messages) → KeepsOutside path d e
    → FillsAllOrNothing keyed path (RepresentsNoneOr keyed path e) e f source later r → FillsAllOrNothing keyed path (RepresentsNoneOrWasLeft keyed path d) d f source later r
fill_since keyed path d e f source later r opening kept fills = record {
  base = λ honest base holds. fill_run keyed path d e f (RepresentsBase keyed path base) opening kept (fills.base honest base holds);
  many = fill_run keyed path d e f (RepresentsMany keyed path source.count) opening kept fills.many;
  refused = IfErr-weaker r (IsUncommitted keyed path (RepresentsNoneOr keyed path e) e f) (IsUncommitted keyed path (RepresentsNoneOrWasLeft keyed path d) d f) (λ why. uncommitted_since keyed path d e f why opening kept) fills.refused;
  filled = fills.filled;
}

pub adds_none : {T E : Type 0} (f : Folder) (d : DiskState) (r : Result T E) → IsUsable d f → AddsOnly f f d d r
adds_none f d (Ok x) usable = record { named = usable.named; opened = usable.opened; path = refl; mark = refl; same = λ honest. refl; run = run_none d f usable.opened }
adds_none f d (Err e) usable = record { named = usable.named; opened = λ honest. tt; path = refl; mark = refl; same = λ honest. tt; run = run_none d f usable.opened }

pub adds_end : (f g h : Folder) (d e : DiskState) → h ≡ at_end g → AddsOnly {T = Unit {0}} {E = FillError} f g d e (Ok tt) → AddsOnly {T = Unit {0}} {E = FillError} f h d e (Ok tt)
adds_end f g h d e is was = grind (arith, end_open)

pub adds_twice : {U : Type 0} (f g h : Folder) (d e k : DiskState) (two : Result U FillError) → AddsOnly {T = Unit {0}} {E = FillError} f g d e (Ok tt) → AddsOnly g h e k two → AddsOnly f h d k two
adds_twice f g h d e k two was now = record {
  named = now.named;
  opened = now.opened;
  path = now.path ∙ was.path;
  mark = now.mark ∙ was.mark;
  same = λ honest. on_ok_weaker {P = committed_by k h ≡ committed_by e g} two (λ same. same ∙ was.same (now.run.outside.honest honest)) (now.same honest);
  run = run_twice (path_of f) (path_of g) d e k (committed_by d f) (committed_by e g) was.path was.run now.run was.same;
}

still_open : (f : Folder) (d : DiskState) (why : FillError) → IsOpen d f → IsOpenIfUnread f f d d why
still_open f d h3 opened = grind arith

pub fills_none : (keyed : ℕ → ℕ → List ℕ → ℕ) (f : Folder) (d : DiskState) (n : ℕ) → n ≡ 0 → IsUsable d f → FillsOnly {T = Unit {0}} keyed n f f d d (Ok tt)
fills_none keyed f d n none usable = record {
  adds = adds_none f d (Ok tt) usable;
  more = λ honest k holds. let same : k ≡ k + n = omega (arith, none) in subst (λ (m : ℕ). HoldsMany keyed (held_by d f) m) same holds;
  unread = λ honest. tt;
}

pub fills_unread : (keyed : ℕ → ℕ → List ℕ → ℕ) (f : Folder) (d : DiskState) (n : ℕ) (why : FillError) → IsUsable d f → FillsOnly {T = Unit {0}} keyed n f f d d (Err why)
fills_unread keyed f d n why usable = record { adds = adds_none f d (Err why) usable; more = λ honest k holds. tt; unread = λ honest. still_open f d why (usable.opened honest) }

pub fills_failed : (keyed : ℕ → ℕ → List ℕ → ℕ) (f g : Folder) (d e : DiskState) (n : ℕ) (why : OpenError) (error : StoreError) (r : Result (Unit {0}) FillError) → IsErrAnd r (λ x. x ≡ unfilled.Folder why)
    → AddsOnly {T = Unit {0}} f g d e (Err error) → FillsOnly keyed n f g d e r
fills_failed keyed f g d e n why error r is was = grind arith

pub fills_fewer : (keyed : ℕ → ℕ → List ℕ → ℕ) (f g : Folder) (d e : DiskState) (m n : ℕ) (why : FillError) (r : Result (Unit {0}) FillError) → IsErrAnd r (λ x. x ≡ why) → FillsOnly {T = Unit {0}} keyed m f g d e (Err why)
    → FillsOnly keyed n f g d e r
fills_fewer keyed f g d e m n why r is was =
    by_error (λ (x : Result (Unit {0}) FillError). FillsOnly keyed n f g d e x) why r is (record { adds = was.adds; more = λ honest k holds. tt; unread = was.unread })

pub fills_end : (keyed : ℕ → ℕ → List ℕ → ℕ) (f g h : Folder) (d e : DiskState) (n : ℕ) → h ≡ at_end g → FillsOnly {T = Unit {0}} keyed n f g d e (Ok tt) → FillsOnly {T = Unit {0}} keyed n f h d e (Ok tt)
fills_end keyed f g h d e n is was = record {
  adds = adds_end f g h d e is was.adds;
  more = λ honest k holds. many_end keyed e g h (k + n) is (was.adds.opened honest) (was.more honest k holds);
  unread = λ honest. tt;
}

still_twice : (f g h : Folder) (d e k : DiskState) (why : FillError) → committed_by e g ≡ committed_by d f → IsOpenIfUnread g h e k why → IsOpenIfUnread f h d k why
still_twice f g h d e k h7 same still = grind arith

pub fills_twice : (keyed : ℕ → ℕ → List ℕ → ℕ) (f g h : Folder) (d e k : DiskState) (m n all : ℕ) (two : Result (Unit {0}) FillError) → all ≡ m + n → FillsOnly {T = Unit {0}} keyed m f g d e (Ok tt) → FillsOnly keyed n g h e k two
    → FillsOnly keyed all f h d k two
fills_twice keyed f g h d e k m n all two sum was now = record {
  adds = adds_twice f g h d e k two was.adds now.adds;
  more = λ honest j holds.
      let same : (j + m) + n ≡ j + all = omega (arith, sum) in
      subst (λ (i : ℕ). OnOk two (HoldsMany keyed (held_by k h) i)) same (now.more honest (j + m) (was.more (now.adds.run.outside.honest honest) j holds));
  unread = λ honest. IfErr-weaker two (IsOpenIfUnread g h e k) (IsOpenIfUnread f h d k) (λ why. still_twice f g h d e k why (was.adds.same (now.adds.run.outside.honest honest))) (now.unread honest);
}

pub shows_before : (a b c : SourceState) (base : Base) → LooksAt b c → ShowsBase a c base → ShowsBase a b base
shows_before a b c base later shows = record { honest = later.honest shows.honest; holds = shows.holds; is = shows.is }

pub shows_later : (a b c : SourceState) (base : Base) → LooksAt a b → ShowsBase a c base → ShowsBase b c base
shows_later a b c base looks shows = record { honest = shows.honest; holds = looks.holds base shows.holds; is = shows.is }

pub reads_as : {T : Type 0} (a b : SourceState) (r : Result T FillError) → (IsErrOf r (unfilled.Messages fault.Read) → ⊥) → IfErr r IsUndamaged → LooksAt a b → a.failures ≤ b.failures → ReadsFor a b r
reads_as a b r none whole looks less = record { looks = looks; later = less; failed = λ is. absurd (none is); whole = λ honest base holds. whole }

pub reads_none : (a : SourceState) → ReadsFor {T = Unit {0}} a a (Ok tt)
reads_none a = reads_as {T = Unit {0}} a a (Ok tt) (λ read. cc (read)) tt (looks_none a) (omega arith)

pub reads_folder : {T : Type 0} (a b : SourceState) (why : OpenError) (r : Result T FillError) → IsErrAnd r (λ x. x ≡ unfilled.Folder why) → LooksAt a b → a.failures ≤ b.failures → ReadsFor a b r
reads_folder {T} a b why r is looks less =
    by_error (λ (x : Result T FillError). ReadsFor a b x) (unfilled.Folder why) r is (reads_as {T = T} a b (Err (unfilled.Folder why)) (λ read. cc (read)) tt looks less)

pub reads_twice : {U : Type 0} (a b c : SourceState) (two : Result U FillError) → ReadsFor {T = Unit {0}} a b (Ok tt) → ReadsFor b c two → ReadsFor a c two
reads_twice a b c two was now = record {
  looks = looks_on a b c was.looks now.looks;
  later = omega (arith, was.later, now.later);
  failed = λ is. failed_since a.failures b.failures c.failures was.later (now.failed is);
  whole = λ honest base holds. now.whole honest base (was.looks.holds base holds);
}

undamaged : (i : ℕ) (e : StoreError) → Answers {T = Unit {0}} (λ x. Unit {0}) (Err e) → IsUndamaged (unfilled.Messages (file_cause e i))
undamaged i h2 was = grind arith

failed_read : (i : ℕ) (e : StoreError) → IsErrOf {T = Unit {0}} (Err (unfilled.Messages (file_cause e i))) (unfilled.Messages fault.Read) → IsErrOf {T = Unit {0}} (Err e) store.Device
failed_read i h2 is = grind arith

pub reads_fault : (a b : SourceState) (i : ℕ) (e : StoreError) (why : BaseFault) (P : Base → Type 0) → why ≡ file_cause e i → LooksAt a b → HasReadCause {T = Unit {0}} a.failures b.failures (Err e)
    → (b.is_honest → (base : Base) → a.holds base → Answers {T = Unit {0}} (λ x. P base) (Err e)) → ReadsFor {T = Unit {0}} a b (Err (unfilled.Messages why))
reads_fault a b i e why P is looks cause answers =
    subst (λ (w : BaseFault). ReadsFor {T = Unit {0}} a b (Err (unfilled.Messages w))) (sym is)
    (record {
      looks = looks;
      later = cause.later;
      failed = λ read. cause.failed (failed_read i e read);
      whole = λ honest base holds. undamaged i e (answers_give {T = Unit {0}} (λ x. P base) (λ x. Unit {0}) (λ x p. tt) (Err e) (answers honest base holds));
    })

pub none_missing : (a b : SourceState) (base : Base) (i : ℕ) → None ≡ b.at_hand → b.at_hand ≡ slice_get base.messages i → i < a.count → a.holds base → ⊥
none_missing a b base i hand got within holds =
    let there = there base.messages i (omega (arith, within, a.counted base holds)) in
    cc

pub sound_stored : (strange : Bool) (path : List ℕ) (files : Files) (e : StoreError) → IsUnfilled strange path files (unfilled.Folder (unfilled_cause e))
sound_stored strange path files h4 = grind arith

stored_device : (e : StoreError) → IsErrOf {T = Unit {0}} (Err (unfilled.Folder (unfilled_cause e))) (unfilled.Folder unread.Device) → IsErrOf {T = Unit {0}} (Err e) store.Device
stored_device h1 is = grind arith

pub cause_stored : {T : Type 0} (a b : ℕ) (e : StoreError) (r : Result T FillError) → IsErrAnd r (λ x. x ≡ unfilled.Folder (unfilled_cause e)) → HasReadCause {T = Unit {0}} a b (Err e) → HasFillCause a b r
cause_stored a b e r same cause = record {
  cause = record { later = cause.later; failed = λ is. cause.failed (stored_device e (handed_on (unfilled.Folder (unfilled_cause e)) (unfilled.Folder unread.Device) r same is)) };
  sound = λ strange path files. err_is (IsUnfilled strange path files) (unfilled.Folder (unfilled_cause e)) r same (sound_stored strange path files e);
}

pub cause_opened : {T U : Type 0} (a b : ℕ) (why : OpenError) (r : Result T FillError) → IsErrAnd r (λ x. x ≡ unfilled.Folder why) → HasUnreadCause {T = U} a b (Err why) → HasUnfilledCause a b r
cause_opened a b why r same cause = record {
  later = cause.later;
  failed = λ is.
      let err = handed_on {U = Unit {0}} (unfilled.Folder why) (unfilled.Folder unread.Device) r same is in
      let device : why ≡ unread.Device = cc (err) in
      cause.failed (ap (λ (w : OpenError). Err w) device);
}

pub cause_since : {U : Type 0} (a b c : ℕ) (two : Result U FillError) → a ≤ b → HasFillCause b c two → HasFillCause a c two
cause_since a b c two was now = record {
  cause = record { later = omega (arith, was, now.cause.later); failed = λ is. failed_since a b c was (now.cause.failed is) };
  sound = now.sound;
}

stored_many : (e : StoreError) → IsErrOf {T = Unit {0}} (Err (unfilled.Folder (unfilled_cause e))) (unfilled.Folder (unread.Wrong fault.TooMany)) → IsErrOf {T = Unit {0}} (Err e) store.TooMany
stored_many h1 is = grind arith

pub many_stored : {T : Type 0} (e : StoreError) (r : Result T FillError) → IsErrAnd r (λ x. x ≡ unfilled.Folder (unfilled_cause e)) → IsErrOf r (unfilled.Folder (unread.Wrong fault.TooMany))
    → IsErrOf {T = Unit {0}} (Err e) store.TooMany
many_stored e r same is = stored_many e (handed_on (unfilled.Folder (unfilled_cause e)) (unfilled.Folder (unread.Wrong fault.TooMany)) r same is)

pub never_many : {T : Type 0} (strange : Bool) (path : List ℕ) (files : Files) (why : OpenError) (r : Result T FillError) → IsErrAnd r (λ x. x ≡ unfilled.Folder why) → IsWrong strange path files why
    → IsErrOf r (unfilled.Folder (unread.Wrong fault.TooMany)) → ⊥
never_many strange path files why r same was is =
    let err = handed_on {U = Unit {0}} (unfilled.Folder why) (unfilled.Folder (unread.Wrong fault.TooMany)) r same is in
    let many : why ≡ unread.Wrong fault.TooMany = cc (err) in
    subst (λ (w : OpenError). IsWrong strange path files w) many was

pub full_at : {D : Type 0} (state : D → DiskState) (keyed : ℕ → ℕ → List ℕ → ℕ) (path at : List ℕ) (base : Base) → path ≡ at → IsFilledFull state keyed path base → IsFilledFull state keyed at base
full_at state keyed path at base same full = record { disk = full.disk; folder = full.folder; at = full.at ∙ same; full = full.full }

pub never_used : {T : Type 0} (why : OpenError) (r : Result T FillError) → IsErrAnd r (λ x. x ≡ unfilled.Folder why) → IsErrOf r unfilled.Used → ⊥
never_used why r same is =
    let err = handed_on {U = Unit {0}} (unfilled.Folder why) unfilled.Used r same is in
    cc (err)

pub no_keys : (keyed : ℕ → ℕ → List ℕ → ℕ) (d : DiskState) (f : Folder) → IsOpen d f → HoldsBase keyed (held_by d f) no_messages → f.keys ≡ 0
no_keys keyed d f opened holds =
    let all = holds.files.all in
    let long = keys_all d f (legible_open d f opened) in
    let entries = ap (λ (l : List ℕ). length l) holds.files.entries in
    let count = keys_long (digest_by keyed (held_by d f).mark) 0 all in
    let none = ap (λ (l : List Filed). length l) holds.files.filed in
    omega (arith, long, entries, count, none, length-map all (message_in Second))
