use Rattle.std.proofs.Common.{List, ℕ, ◌≡◌, ◌≢◌, Some, [], sym, ◌∙◌, subst, arith, refl}
use Rattle.std.specs.Prelude.{IsSome}
use Rattle.disk_io.specs.{Disk.DiskState, Disk.IsIn, Runs.ChangesNothing}
use Rattle.disk_io.proofs.Moments.{then_nothing, left_now}
use Rattle.base_log.specs.{declared.log.End.End, Names.folder_of, Names.log_of, Names.messages_of, Names.keys_of, Moments.StagesOnly, Moments.RepresentsAlone}
use Rattle.base_log.specs.Standing.{BaseBytes, Represents, base_at}
use Rattle.base_log.proofs.Keeping.{log_moved, on_disk_but_one, on_disk_quiet, outside_but_one, outside_quiet, outside_twice}
use Rattle.base_log.proofs.Paths.{keys_not_messages, keys_of-injective, log_not_keys, log_not_messages, messages_own, messages_not_keys, messages_of-injective}
use Rattle.base_log.proofs.{Calls.Made, Calls.but_one_call, Made.keys_run, Made.messages_run, Made.outside_both, Renewed.alone_run, Renewed.same_base, Rested.rest_same}
use Rattle.base_log.proofs.anew.stage_anew.Goals.{After-create, After-create-2}
use Rattle.base_log.proofs.anew.stage_anew.Given as given
use Rattle.base_log.proofs.anew.stage_anew.Goals as goal

messages_made : (g : given.Over) (c : After-create g) → Made (g.D.Disk.state c.args.disk.now) (g.D.Disk.state c.create.new.self) (messages_of (folder_of c.args.names.now) c.args.number)
messages_made g c =
    subst (λ (l : List ℕ). Made (g.D.Disk.state c.args.disk.now) (g.D.Disk.state c.create.new.self) l) (c.deref.ensures.value ∙ c.requires.names.messages) c.create.ensures.changes

keys_made : (g : given.Over) (c : After-create-2 g) → Made (g.D.Disk.state c.create.new.self) (g.D.Disk.state c.create-2.new.self) (keys_of (folder_of c.args.names.now) c.args.number)
keys_made g c =
    subst (λ (l : List ℕ). Made (g.D.Disk.state c.create.new.self) (g.D.Disk.state c.create-2.new.self) l) (c.deref-2.ensures.value ∙ c.requires.names.keys) c.create-2.ensures.changes

record Makes (path : List ℕ) (end : End) (number : ℕ) (old new : DiskState) : Type 0 where
  run : StagesOnly path (base_at old path end.recorded) old new
  others : (m : List ℕ) → m ≢ messages_of path number → m ≢ keys_of path number → new.seen m ≡ old.seen m

then_quiet : {path : List ℕ} {end : End} {number : ℕ} {old mid : DiskState} (new : DiskState) → Makes path end number old mid → ChangesNothing mid new → Makes path end number old new
then_quiet {path} {end} {number} {old} {mid} new was quiet = record {
  run = record {
    any_moment = λ honest. then_nothing old mid new (RepresentsAlone path old (base_at old path end.recorded)) (was.run.any_moment (quiet.honest honest)) quiet;
    outside = outside_twice path old mid new was.run.outside (outside_quiet path mid new quiet);
  };
  others = λ m ne nk. quiet.seen m ∙ was.others m ne nk;
}

module _ {path : List ℕ} {end : End} {number : ℕ} {old new : DiskState} (other : number ≢ end.recorded.number) (made : Makes path end number old new) where
  messages_same : new.seen (messages_of path end.recorded.number) ≡ old.seen (messages_of path end.recorded.number)
  messages_same = made.others (messages_of path end.recorded.number) (λ is. other (sym (messages_of-injective path end.recorded.number number is))) (messages_not_keys path end.recorded.number number)

  keys_same : new.seen (keys_of path end.recorded.number) ≡ old.seen (keys_of path end.recorded.number)
  keys_same = made.others (keys_of path end.recorded.number) (keys_not_messages path end.recorded.number number) (λ is. other (sym (keys_of-injective path end.recorded.number number is)))

  same_base_left : base_at new path end.recorded ≡ base_at old path end.recorded
  same_base_left = same_base old new path end messages_same keys_same

one_made : (g : given.Over) (c : After-create g) → Makes (folder_of c.args.names.now) c.args.end c.args.number (g.D.Disk.state c.args.disk.now) (g.D.Disk.state c.create.new.self)
one_made g c =
    let one = messages_made g c in
    let path = folder_of c.args.names.now in
    let d0 = g.D.Disk.state c.args.disk.now in
    let d1 = g.D.Disk.state c.create.new.self in
    record {
      run = record {
        any_moment = λ honest.
            let rest = c.requires.settled (one.time.honest honest) in
            alone_run d0 path c.args.end rest d1 (messages_run d0 path c.args.end rest c.args.number c.requires.free.other d1 one);
        outside = outside_but_one path d0 d1 (messages_of path c.args.number) (messages_own path c.args.number) (but_one_call d0 d1 (messages_of path c.args.number) one);
      };
      others = λ m ne nk. one.others m ne;
    }

both_made : (g : given.Over) (c : After-create-2 g) (one : Made (g.D.Disk.state c.args.disk.now) (g.D.Disk.state c.create.new.self) (messages_of (folder_of c.args.names.now) c.args.number))
    → Makes (folder_of c.args.names.now) c.args.end c.args.number (g.D.Disk.state c.args.disk.now) (g.D.Disk.state c.create-2.new.self)
both_made g c one =
    let two = keys_made g c in
    let path = folder_of c.args.names.now in
    let d0 = g.D.Disk.state c.args.disk.now in
    let d1 = g.D.Disk.state c.create.new.self in
    let d2 = g.D.Disk.state c.create-2.new.self in
    record {
      run = record {
        any_moment = λ honest.
            let rest = c.requires.settled (one.time.honest (two.time.honest honest)) in
            alone_run d0 path c.args.end rest d2 (keys_run d0 path c.args.end rest c.args.number c.requires.free.other d1 one d2 two);
        outside = outside_both path c.args.number d0 d1 d2 one two;
      };
      others = λ m ne nk. two.others m nk ∙ one.others m ne;
    }

pub returns-in_err-create-clause-run : goal.returns-in_err-create-clause-run
returns-in_err-create-clause-run g c = (one_made g (goal.at.returns-in_err-create-clause-run g c).After-create).run

pub returns-in_err-create-clause-same : goal.returns-in_err-create-clause-same
returns-in_err-create-clause-same g c honest = same_base_left c.requires.free.other (one_made g (goal.at.returns-in_err-create-clause-same g c).After-create)

pub returns-in_err-create-clause-others : goal.returns-in_err-create-clause-others
returns-in_err-create-clause-others g c = (one_made g (goal.at.returns-in_err-create-clause-others g c).After-create).others

pub returns-in_err-create-2-clause-run : goal.returns-in_err-create-2-clause-run
returns-in_err-create-2-clause-run g c = (both_made g (goal.at.returns-in_err-create-2-clause-run g c).After-create-2 (messages_made g (goal.at.returns-in_err-create-2-clause-run g c).After-create)).run

pub returns-in_err-create-2-clause-same : goal.returns-in_err-create-2-clause-same
returns-in_err-create-2-clause-same g c honest = same_base_left c.requires.free.other (both_made g (goal.at.returns-in_err-create-2-clause-same g c).After-create-2 (messages_made g (goal.at.returns-in_err-create-2-clause-same g c).After-create))

pub returns-in_err-create-2-clause-others : goal.returns-in_err-create-2-clause-others
returns-in_err-create-2-clause-others g c = (both_made g (goal.at.returns-in_err-create-2-clause-others g c).After-create-2 (messages_made g (goal.at.returns-in_err-create-2-clause-others g c).After-create)).others

pub returns-in_err-sync_parent_folder-clause-run : goal.returns-in_err-sync_parent_folder-clause-run
returns-in_err-sync_parent_folder-clause-run g c = (then_quiet (g.D.Disk.state c.sync_parent_folder.new.disk) (both_made g (goal.at.returns-in_err-sync_parent_folder-clause-run g c).After-create-2 (messages_made g (goal.at.returns-in_err-sync_parent_folder-clause-run g c).After-create)) c.sync_parent_folder.ensures.quiet).run

pub returns-in_err-sync_parent_folder-clause-same : goal.returns-in_err-sync_parent_folder-clause-same
returns-in_err-sync_parent_folder-clause-same g c honest = same_base_left c.requires.free.other (then_quiet (g.D.Disk.state c.sync_parent_folder.new.disk) (both_made g (goal.at.returns-in_err-sync_parent_folder-clause-same g c).After-create-2 (messages_made g (goal.at.returns-in_err-sync_parent_folder-clause-same g c).After-create)) c.sync_parent_folder.ensures.quiet)

pub returns-in_err-sync_parent_folder-clause-others : goal.returns-in_err-sync_parent_folder-clause-others
returns-in_err-sync_parent_folder-clause-others g c = (then_quiet (g.D.Disk.state c.sync_parent_folder.new.disk) (both_made g (goal.at.returns-in_err-sync_parent_folder-clause-others g c).After-create-2 (messages_made g (goal.at.returns-in_err-sync_parent_folder-clause-others g c).After-create)) c.sync_parent_folder.ensures.quiet).others

pub returns-clause-run : goal.returns-clause-run
returns-clause-run g c = (then_quiet (g.D.Disk.state c.sync_parent_folder.new.disk) (both_made g (goal.at.returns-clause-run g c).After-create-2 (messages_made g (goal.at.returns-clause-run g c).After-create)) c.sync_parent_folder.ensures.quiet).run

pub returns-clause-same : goal.returns-clause-same
returns-clause-same g c honest = same_base_left c.requires.free.other (then_quiet (g.D.Disk.state c.sync_parent_folder.new.disk) (both_made g (goal.at.returns-clause-same g c).After-create-2 (messages_made g (goal.at.returns-clause-same g c).After-create)) c.sync_parent_folder.ensures.quiet)

pub returns-clause-others : goal.returns-clause-others
returns-clause-others g c = (then_quiet (g.D.Disk.state c.sync_parent_folder.new.disk) (both_made g (goal.at.returns-clause-others g c).After-create-2 (messages_made g (goal.at.returns-clause-others g c).After-create)) c.sync_parent_folder.ensures.quiet).others

pub returns-clause-staged : goal.returns-clause-staged
returns-clause-staged g c honest =
    let one = messages_made g (goal.at.returns-clause-staged g c).After-create in
    let two = keys_made g (goal.at.returns-clause-staged g c).After-create-2 in
    let quiet = c.sync_parent_folder.ensures.quiet in
    let path = folder_of c.args.names.now in
    let end = c.args.end in
    let number = c.args.number in
    let m = messages_of path number in
    let k = keys_of path number in
    let d0 = g.D.Disk.state c.args.disk.now in
    let d1 = g.D.Disk.state c.create.new.self in
    let d2 = g.D.Disk.state c.create-2.new.self in
    let d3 = g.D.Disk.state c.sync_parent_folder.new.disk in
    let made = then_quiet d3 (both_made g (goal.at.returns-clause-staged g c).After-create-2 one) quiet in
    let rest = c.requires.settled (one.time.honest (two.time.honest (quiet.honest honest))) in
    let same : base_at d3 path end.recorded ≡ base_at d0 path end.recorded = same_base_left c.requires.free.other made in
    let log_seen : d3.seen (log_of path) ≡ d0.seen (log_of path) = made.others (log_of path) (log_not_messages path number) (log_not_keys path number) in
    let on = on_disk_quiet d2 d3 (log_of path) quiet
    (on_disk_but_one d1 d2 (log_of path) k (but_one_call d1 d2 k two) (log_not_keys path number) (on_disk_but_one d0 d1 (log_of path) m (but_one_call d0 d1 m one) (log_not_messages path number) rest.log.on_disk)) in
    let messages : c.deref.result.now ≡ m = c.deref.ensures.value ∙ c.requires.names.messages in
    let keys : c.deref-2.result.now ≡ k = c.deref-2.ensures.value ∙ c.requires.names.keys in
    let m_made : d3.seen m ≡ Some [] = quiet.seen m ∙ two.others m (messages_not_keys path number number) ∙ subst (λ (l : List ℕ). d1.seen l ≡ Some []) messages c.in_ok-create.ensures.made in
    let k_made : d3.seen k ≡ Some [] = quiet.seen k ∙ subst (λ (l : List ℕ). d2.seen l ≡ Some []) keys c.in_ok-create-2.ensures.made in
    record {
      log = log_moved d0 d3 path end rest.log log_seen on (subst (λ (p : List ℕ). (n : List ℕ) → IsIn p n → d3.is_named n) c.deref-3.ensures.value c.in_ok-sync_parent_folder.ensures.durable);
      represented = λ f left. subst (λ (b : BaseBytes). Represents path b f) (sym same) (left_now d0 d3 (RepresentsAlone path d0 (base_at d0 path end.recorded)) (made.run.any_moment honest) f left).represented;
      shown = subst (λ (b : BaseBytes). Represents path b d3.seen) (sym same) (rest_same d0 path end rest d3.seen log_seen (messages_same c.requires.free.other made) (keys_same c.requires.free.other made));
      digit = c.requires.free.digit;
      messages_there = subst (λ f. IsSome f) (sym m_made) refl;
      keys_there = subst (λ f. IsSome f) (sym k_made) refl;
      messages_alone = quiet.alone m (λ h. h) (two.alone m (messages_not_keys path number number) (subst (λ (l : List ℕ). d1.is_alone l) messages c.in_ok-create.ensures.own));
      keys_alone = quiet.alone k (λ h. h) (subst (λ (l : List ℕ). d2.is_alone l) keys c.in_ok-create-2.ensures.own);
      messages_long = omega arith;
      keys_long = omega arith;
      messages_behind = λ is. absurd (c.requires.free.other is);
      keys_behind = λ is. absurd (c.requires.free.other is);
    }
