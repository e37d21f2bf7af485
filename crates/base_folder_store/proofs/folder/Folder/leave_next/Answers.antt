use Rattle.std.proofs.Common.{◌≡◌, ◌<◌, ◌≤◌, ◌+◌, ◌/◌, ℕ, List, nat_lt, ◌&&◌, length, get_or, refl, sym, ap, subst, ◌∙◌, arith, below_more, lt-ltb}
use Rattle.disk_io.specs.Disk.{DiskState}
use Rattle.echo_filed.specs.{Filed.Filed, Stored.Stored, Stored.message_in, Stored.stored_bytes, declared.stored.Version.TheVariants.Second}
use Rattle.base_log.{specs.{Standing.BaseBytes, declared.log.End.End}, proofs.Quiet.base_quiet}
use Rattle.base_file.{specs.{Alone.IsStoredAlone, Base.Base, Purging.{is_changed, purge_end}, declared.range.PurgeRange.PurgeRange}, proofs.StubBases.end_within}
use Rattle.std.proofs.lemmas.Bool.{ltb-true}
use Rattle.base_store.{specs.Keys.{HasBytesOf, AreWhereRecorded, digest_at}, proofs.Causes.failed_since}
use Rattle.base_folder_store.specs.{Answers.IsStoredOf, Calls.StagesOnly, Held.HoldsBase, Left.HoldsLeft, Left.IsLeftOf, Left.AreLegible, Left.IsLegibleAt, Left.IsPurgedTo, Left.left_if, Vouched.AreBytesAt}
use Rattle.base_folder_store.specs.{Opened.committed_by, Opened.held_by, Opened.path_of, declared.folder.Folder.Folder, declared.leaving.PurgedBytes.PurgedBytes, declared.reading.StoredBytes.StoredBytes}
use Rattle.base_folder_store.proofs.Beside.{committed_others, many_readable, readable_others, readable_held, readable_quiet, recorded_readable}
use Rattle.base_folder_store.proofs.{Bases.open_quiet, Bases.recorded_where, Causes.handed_on, Causes.purge_cause, Fits.room_left, Fits.shorter_more}
use Rattle.base_folder_store.proofs.{Legible.held_quiet, Legible.keys_all, Legible.legible_open, Legible.messages_all, Looked.some_message, Runs.run_quiet, Runs.run_twice, Stated.not_damaged}
use Rattle.base_folder_store.proofs.{Stubbed.{IsBelow, changed_step, is_below, left_more}, folder.Folder.leave_next.Goals.{After-stored, After-stage_left}}
use Rattle.base_folder_store.proofs.folder.Folder.leave_next.Given as given
use Rattle.base_folder_store.proofs.folder.Folder.leave_next.Goals as goal

pub stored-requires-clause-legible : goal.stored-requires-clause-legible
stored-requires-clause-legible g c honest = (c.requires.purged.paired.readable honest).legible

read : (g : given.Over) (c : After-stored g) → StagesOnly (path_of c.args.next.now) (committed_by (g.D.Disk.state c.args.disk.now) c.args.next.now) (g.D.Disk.state c.args.disk.now) (g.D.Disk.state c.stored.new.disk)
read g c = run_quiet (g.D.Disk.state c.args.disk.now) (g.D.Disk.state c.stored.new.disk) c.args.next.now c.requires.purged.opened c.stored.ensures.quiet

left : (g : given.Over) (c : After-stage_left g) → StagesOnly (path_of c.args.next.now) (committed_by (g.D.Disk.state c.args.disk.now) c.args.next.now) (g.D.Disk.state c.args.disk.now) (g.D.Disk.state c.stage_left.new.disk)
left g c =
    let n = c.args.next.now in
    let d0 = g.D.Disk.state c.args.disk.now in
    let d1 = g.D.Disk.state c.stored.new.disk in
    let quiet = c.stored.ensures.quiet in
    run_twice (path_of n) (path_of n) d0 d1 (g.D.Disk.state c.stage_left.new.disk) (committed_by d0 n) (committed_by d1 n) refl (run_quiet d0 d1 n c.requires.purged.opened quiet) c.stage_left.ensures.run (λ honest. base_quiet d0 d1 (path_of n) n.end.recorded quiet)

record Message (range : PurgeRange) (d : DiskState) (f n : Folder) (place : ℕ) (keyed : ℕ → ℕ → List ℕ → ℕ) (base : Base) : Type 0 where
  holds : HoldsBase keyed (committed_by d f) base
  recorded : AreWhereRecorded base.messages (held_by d f).messages (held_by d f).keys
  within : place < length base.messages
  left : HoldsLeft range keyed base (committed_by d f) place (held_by d n)

message : (range : PurgeRange) (d : DiskState) (f n : Folder) (place : ℕ) → IsPurgedTo range d f n place → place < f.keys / 16 → d.is_honest → (keyed : ℕ → ℕ → List ℕ → ℕ) (base : Base) → HoldsBase keyed (committed_by d n) base → Message range d f n place keyed base
message range d f n place purged inside honest keyed base holds =
    let paired = purged.paired in
    let same = committed_others d f n paired.others in
    let here = subst (λ (b : BaseBytes). HoldsBase keyed b base) same holds in
    let readable = paired.readable honest in
    let many = many_readable keyed d f base readable here in
    record {
      holds = here;
      recorded = recorded_readable keyed d f base readable here;
      within = omega (arith, many, inside);
      left = subst (λ (b : BaseBytes). HoldsLeft range keyed base b place (held_by d n)) same (purged.left honest keyed base holds);
    }

pub stage_left-requires : goal.stage_left-requires
stage_left-requires g c = grind (arith, open_quiet)

record Here (g : given.Over) (c : After-stage_left g) (base : Base) : Type 0 where
  s : Stored
  is : (d : Filed) → get_or base.messages c.args.place d ≡ message_in Second s
  left : IsLeftOf c.args.range.now.area (nat_lt c.args.place c.end-end.result) s c.in_ok-left.left
  bytes : c.deref.result.now ≡ c.in_ok-left.left.bytes.items
  represented : Stored
  has : HasBytesOf (committed_by (g.D.Disk.state c.args.disk.now) c.args.self.now).messages (committed_by (g.D.Disk.state c.args.disk.now) c.args.self.now).keys c.args.place represented
  shorter : length c.deref.result.now ≤ length (stored_bytes Second represented)

here : (g : given.Over) (c : After-stage_left g) (h1 : (g.D.Disk.state c.stored.new.disk).is_honest) (keyed : ℕ → ℕ → List ℕ → ℕ) (base : Base)
    → Message c.args.range.now (g.D.Disk.state c.args.disk.now) c.args.self.now c.args.next.now c.args.place keyed base → Here g c base
here g c h1 keyed base m =
    let f = c.args.self.now in
    let d0 = g.D.Disk.state c.args.disk.now in
    let held : held_by d0 f ≡ committed_by d0 f = readable_held d0 f (c.requires.purged.paired.readable (c.stored.ensures.quiet.honest h1)) in
    let of = c.in_ok-stored.ensures.stored h1 base.messages m.recorded m.within in
    let represented = m.recorded.each c.args.place m.within in
    let left = c.in_ok-left.ensures.left of.s of.size of.alone of.same in
    let bytes = c.deref.ensures.value in
    let long = ap (λ (l : List ℕ). length l) (c.in_ok-stored.ensures.there h1 represented.s represented.bytes) in
    let shorter = left.shorter in
    record {
      s = of.s;
      is = of.is;
      left = left;
      bytes = bytes;
      represented = represented.s;
      has = subst (λ (b : BaseBytes). HasBytesOf b.messages b.keys c.args.place represented.s) held represented.bytes;
      shorter = let one = ap (λ (l : List ℕ). length l) bytes in let two = ap (λ (l : List ℕ). length l) of.same in omega (arith, one, two, long, shorter);
    }

pub returns-in_err-stored-clause-run : goal.returns-in_err-stored-clause-run
returns-in_err-stored-clause-run g c = read g (goal.at.returns-in_err-stored-clause-run g c).After-stored

pub returns-in_err-stored-clause-few : goal.returns-in_err-stored-clause-few
returns-in_err-stored-clause-few g c = grind (arith, handed_on)

pub returns-in_err-left-clause-run : goal.returns-in_err-left-clause-run
returns-in_err-left-clause-run g c = read g (goal.at.returns-in_err-left-clause-run g c).After-stored

pub returns-in_err-stage_left-clause-run : goal.returns-in_err-stage_left-clause-run
returns-in_err-stage_left-clause-run g c = left g (goal.at.returns-in_err-stage_left-clause-run g c).After-stage_left

pub returns-clause-run : goal.returns-clause-run
returns-clause-run g c = left g (goal.at.returns-clause-run g c).After-stage_left

pub returns-in_err-stored-clause-cause : goal.returns-in_err-stored-clause-cause
returns-in_err-stored-clause-cause g c =
    purge_cause (g.D.Disk.state c.stored.new.disk) (committed_by (g.D.Disk.state c.args.disk.now) c.args.next.now) _ _ _ c.from_residual.result c.from_residual.ensures.1 c.in_err-stored.ensures.cause
    (λ honest is keyed base holds.
    let m = message c.args.range.now (g.D.Disk.state c.args.disk.now) c.args.self.now c.args.next.now c.args.place c.requires.purged c.requires.within (c.stored.ensures.quiet.honest honest) keyed base holds in
    not_damaged (λ (stored : StoredBytes). IsStoredOf base.messages c.args.place stored.bytes.items) _ (c.in_err-stored.ensures.stored honest base.messages m.recorded m.within) is)

pub returns-in_err-left-clause-cause : goal.returns-in_err-left-clause-cause
returns-in_err-left-clause-cause g c = record {
  later = c.stored.ensures.cause.later;
  failed = λ is. absurd (c.in_err-left.ensures.device (handed_on _ _ c.from_residual-in_err-left.result c.from_residual-in_err-left.ensures.1 is));
  damaged = λ honest is keyed base holds.
      let m = message c.args.range.now (g.D.Disk.state c.args.disk.now) c.args.self.now c.args.next.now c.args.place c.requires.purged c.requires.within (c.stored.ensures.quiet.honest honest) keyed base holds in
      let of = c.in_ok-stored.ensures.stored honest base.messages m.recorded m.within in
      not_damaged (λ (left : PurgedBytes). IsLeftOf c.args.range.now.area (nat_lt c.args.place c.end-end.result) of.s left) _ (c.in_err-left.ensures.left of.s of.size of.alone of.same)
      (handed_on _ _ c.from_residual-in_err-left.result c.from_residual-in_err-left.ensures.1 is);
}

pub returns-in_err-stage_left-clause-cause : goal.returns-in_err-stage_left-clause-cause
returns-in_err-stage_left-clause-cause g c =
    let one = c.stored.ensures.cause.later in
    let cause = c.in_err-stage_left.ensures.cause in
    let two = cause.later in
    record {
      later = omega (arith, one, two);
      failed = λ is.
          failed_since (g.D.Disk.failures c.args.disk.now) (g.D.Disk.failures c.stored.new.disk) (g.D.Disk.failures c.stage_left.new.disk) one
          (cause.failed (handed_on _ _ c.from_residual-in_err-stage_left.result c.from_residual-in_err-stage_left.ensures.1 is));
      damaged = λ honest is keyed base holds.
          let after = (goal.at.returns-in_err-stage_left-clause-cause g c).After-stage_left in
          let h1 = c.stage_left.ensures.run.outside.honest honest in
          let h0 = c.stored.ensures.quiet.honest h1 in
          let d0 = g.D.Disk.state c.args.disk.now in
          let f = c.args.self.now in
          let n = c.args.next.now in
          let place = c.args.place in
          let m = message c.args.range.now d0 f n place c.requires.purged c.requires.within h0 keyed base holds in
          let at = here g after h1 keyed base m in
          let opened = c.requires.purged.opened h0 in
          let legible = legible_open d0 n opened in
          room_left c.args.range.now keyed base (committed_by d0 c.args.self.now) (held_by d0 n) n c.args.place (length c.deref.result.now) at.represented m.holds m.left m.within at.has at.shorter (messages_all d0 n legible) (keys_all d0 n legible) opened.keys
          (c.in_err-stage_left.ensures.damaged (handed_on _ _ c.from_residual-in_err-stage_left.result c.from_residual-in_err-stage_left.ensures.1 is));
    }

pub returns-clause-same : goal.returns-clause-same
returns-clause-same g c honest = grind (arith, base_quiet)

legible_more : (held : BaseBytes) (place : ℕ) (bytes : List ℕ) → AreLegible held place → AreBytesAt held.messages held.keys place bytes → (place < held.cursor → (m : Filed) × IsStoredAlone m bytes) → AreLegible held (place + 1)
legible_more held place bytes before at one =
    below_more (λ i. i < held.cursor → IsLegibleAt held i) place before (λ below. let m = one below in record { bytes = bytes; at = at; message = m.0; stored = m.1 })

end_below_is : (range : PurgeRange) (d : DiskState) (f : Folder) (place end : ℕ) (keyed : ℕ → ℕ → List ℕ → ℕ) (base : Base) → end ≡ purge_end range f.end.recorded.cursor → HoldsBase keyed (committed_by d f) base
    → IsBelow (nat_lt place end) place (purge_end range base.cursor)
end_below_is range d f place end keyed base is holds =
    subst (λ (n : ℕ). IsBelow (nat_lt place end) place n) (is ∙ ap (λ (n : ℕ). purge_end range n) holds.cursor) (is_below place end)

pub left_of-requires : goal.left_of-requires
left_of-requires g c before =
    let cursor = c.args.self.now.end.recorded.cursor in
    let least = end_within c.args.range.now.below cursor in
    let less = ltb-true c.args.place c.end-end.result before in
    lt-ltb c.args.place cursor (omega (arith, least, less, c.end-end.ensures))

pub returns-clause-changed : goal.returns-clause-changed
returns-clause-changed g c honest =
    let after = (goal.at.returns-clause-changed g c).After-stage_left in
    let h1 = c.stage_left.ensures.run.outside.honest honest in
    λ keyed base holds.
    let m = message c.args.range.now (g.D.Disk.state c.args.disk.now) c.args.self.now c.args.next.now c.args.place c.requires.purged c.requires.within (c.stored.ensures.quiet.honest h1) keyed base holds in
    let at = here g after h1 keyed base m in
    let d : Filed = some_message base.messages c.args.place m.within in
    let range = c.args.range.now in
    let before = nat_lt c.args.place c.end-end.result in
    changed_step range base c.args.place d before c.in_ok-left.left.changed m.within
    (end_below_is range (g.D.Disk.state c.args.disk.now) c.args.self.now c.args.place c.end-end.result keyed base c.end-end.ensures m.holds)
    (at.left.changed ∙ ap (λ (x : Filed). before && is_changed range.area x) (sym (at.is d)))

pub returns-clause-purged : goal.returns-clause-purged
returns-clause-purged g c =
    let f = c.args.self.now in
    let n = c.args.next.now in
    let place = c.args.place in
    let d0 = g.D.Disk.state c.args.disk.now in
    let d1 = g.D.Disk.state c.stored.new.disk in
    let d2 = g.D.Disk.state c.stage_left.new.disk in
    let quiet = c.stored.ensures.quiet in
    let staged = c.stage_left.ensures in
    let was = c.requires.purged.paired in
    let after = (goal.at.returns-clause-purged g c).After-stage_left in
    record {
      paired = record {
        readable = λ honest. readable_others d1 d2 f n was.others staged.files.others (readable_quiet d0 d1 f quiet (was.readable (quiet.honest (staged.run.outside.honest honest))));
        others = record {
          path = staged.stays.path ∙ was.others.path;
          end = staged.files.end ∙ was.others.end;
          number = λ is. was.others.number (sym staged.files.number ∙ is);
          mark = staged.stays.mark ∙ was.others.mark;
        };
        named = staged.stays.named;
      };
      few = c.requires.purged.few;
      opened = c.in_ok-stage_left.ensures.stays.opened;
      left = λ honest keyed base holds.
          let h1 = staged.run.outside.honest honest in
          let h0 = quiet.honest h1 in
          let same = c.in_ok-stage_left.ensures.same honest ∙ base_quiet d0 d1 (path_of n) n.end.recorded quiet in
          let m = message c.args.range.now d0 f n place c.requires.purged c.requires.within h0 keyed base (subst (λ (b : BaseBytes). HoldsBase keyed b base) same holds) in
          let at = here g after h1 keyed base m in
          let d : Filed = some_message base.messages place m.within in
          let one = get_or base.messages place d in
          let range = c.args.range.now in
          let before = nat_lt place c.end-end.result in
          let bytes = c.deref.result.now in
          let more = c.in_ok-stage_left.ensures.staged honest in
          let held : held_by d1 n ≡ held_by d0 n = held_quiet d0 d1 n quiet in
          let was_held = subst (λ (b : BaseBytes). HoldsLeft range keyed base (committed_by d0 f) place b) (sym held) m.left in
          let stored = subst (λ (x : Filed). IsStoredAlone (left_if range.area before x) bytes) (sym (at.is d)) (subst (λ (l : List ℕ). IsStoredAlone (left_if range.area before (message_in Second at.s)) l) (sym at.bytes) at.left.stored) in
          let recorded = recorded_where keyed (committed_by d0 f) base m.holds in
          subst (λ (b : BaseBytes). HoldsLeft range keyed base b (place + 1) (held_by d2 c.stage_left.new.self)) (sym (same ∙ committed_others d0 f n was.others))
          (record {
            left =
                left_more range keyed (committed_by d0 f) (held_by d1 n) (held_by d2 c.stage_left.new.self) base place c.in_ok-stored.stored.digest d bytes before m.holds was.others.mark m.within was_held.left
                (end_below_is range (g.D.Disk.state c.args.disk.now) c.args.self.now c.args.place c.end-end.result keyed base c.end-end.ensures m.holds) stored
                ((c.in_ok-stored.ensures.at h1).digest ∙ ap (λ (b : BaseBytes). digest_at b.keys place) (readable_held d0 f (was.readable h0))) more.staged more.fits;
            shorter = λ within. shorter_more base.messages (committed_by d0 f) (held_by d1 n) (held_by d2 c.stage_left.new.self) place c.in_ok-stored.stored.digest bytes at.represented recorded at.has (was_held.shorter m.within) at.shorter more.staged within;
          });
      read = λ honest.
          let h1 = staged.run.outside.honest honest in
          let h0 = quiet.honest h1 in
          let same = c.in_ok-stage_left.ensures.same honest ∙ base_quiet d0 d1 (path_of n) n.end.recorded quiet in
          let to : held_by d0 f ≡ committed_by d0 n = readable_held d0 f (was.readable h0) ∙ sym (committed_others d0 f n was.others) in
          let bytes = c.in_ok-stored.stored.bytes.items in
          let at = subst (λ (b : BaseBytes). AreBytesAt b.messages b.keys place bytes) to (c.in_ok-stored.ensures.at h1).bytes in
          subst (λ (b : BaseBytes). AreLegible b (place + 1)) (sym same)
          (legible_more (committed_by d0 n) place bytes (c.requires.purged.read h0) at
          (λ below. c.in_ok-left.ensures.read (lt-ltb place f.end.recorded.cursor (subst (λ (t : End). place < t.recorded.cursor) was.others.end below))));
    }
