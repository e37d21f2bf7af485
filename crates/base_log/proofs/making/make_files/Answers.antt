use Rattle.std.proofs.Common.{List, ℕ, ◌≡◌, [], Option, Some, refl, sym, ◌∙◌, subst}
use Rattle.std.proofs.lemmas.Result.{on_ok_weaker}
use Rattle.std.specs.Prelude.{IsSome}
use Rattle.disk_io.specs.{Disk.DiskState, Disk.Honestly, Disk.IsIn, Runs.ChangesNothing, Runs.LeavesOnly, Synced.IsOnDisk}
use Rattle.disk_io.proofs.Moments.{then_nothing}
use Rattle.base_log.specs.{Names.folder_of, Names.log_of, Names.messages_of, Names.keys_of, Moments.KeepsOutside, Moments.RepresentsAlone, Standing.BaseBytes, Standing.Represents}
use Rattle.base_log.proofs.Keeping.{on_disk_but_one, on_disk_quiet, outside_but_one, outside_quiet, outside_twice}
use Rattle.base_log.proofs.{Calls.Made, Calls.but_one_call, Empty.log_alone_represented, Made.log_both, Made.log_first, Made.outside_both}
use Rattle.base_log.proofs.{Paths.log_not_messages, Paths.log_not_keys, Paths.messages_own, Paths.messages_not_keys, making.make_files.Goals.After-create, making.make_files.Goals.After-create-2}
use Rattle.base_log.proofs.making.make_files.Given as given
use Rattle.base_log.proofs.making.make_files.Goals as goal

messages_made : (g : given.Over) (c : After-create g) → Made (g.D.Disk.state c.args.disk.now) (g.D.Disk.state c.create.new.self) (messages_of (folder_of c.args.names.now) 0)
messages_made g c =
    subst (λ (l : List ℕ). Made (g.D.Disk.state c.args.disk.now) (g.D.Disk.state c.create.new.self) l) (c.deref.ensures.value ∙ c.requires.names.messages) c.create.ensures.changes

keys_made : (g : given.Over) (c : After-create-2 g) → Made (g.D.Disk.state c.create.new.self) (g.D.Disk.state c.create-2.new.self) (keys_of (folder_of c.args.names.now) 0)
keys_made g c =
    subst (λ (l : List ℕ). Made (g.D.Disk.state c.create.new.self) (g.D.Disk.state c.create-2.new.self) l) (c.deref-2.ensures.value ∙ c.requires.names.keys) c.create-2.ensures.changes

record Leaves (path : List ℕ) (old new : DiskState) : Type 0 where
  any_moment : Honestly new ((base : BaseBytes) → Represents path base old.seen → LeavesOnly old new (RepresentsAlone path old base))
  log : Honestly new (IsOnDisk new (log_of path))
  same : new.seen (log_of path) ≡ old.seen (log_of path)
  outside : KeepsOutside path old new

one_made : (g : given.Over) (c : After-create g) → Leaves (folder_of c.args.names.now) (g.D.Disk.state c.args.disk.now) (g.D.Disk.state c.create.new.self)
one_made g c =
    let one = messages_made g c in
    let path = folder_of c.args.names.now in
    let file = messages_of path 0 in
    let d0 = g.D.Disk.state c.args.disk.now in
    let d1 = g.D.Disk.state c.create.new.self in
    let kept = but_one_call d0 d1 file one in
    record {
      any_moment = λ honest base represented. let bare = c.requires.bare (kept.honest honest) in log_alone_represented d0 path bare.log d1 base represented bare.none bare.shut (log_first d0 path bare.log bare.named 0 d1 one);
      log = λ honest. on_disk_but_one d0 d1 (log_of path) file kept (log_not_messages path 0) (c.requires.bare (kept.honest honest)).log;
      same = kept.seen (log_of path) (log_not_messages path 0);
      outside = outside_but_one path d0 d1 file (messages_own path 0) kept;
    }

both_made : (g : given.Over) (c : After-create-2 g) (one : Made (g.D.Disk.state c.args.disk.now) (g.D.Disk.state c.create.new.self) (messages_of (folder_of c.args.names.now) 0))
    (was : Leaves (folder_of c.args.names.now) (g.D.Disk.state c.args.disk.now) (g.D.Disk.state c.create.new.self))
    → Leaves (folder_of c.args.names.now) (g.D.Disk.state c.args.disk.now) (g.D.Disk.state c.create-2.new.self)
both_made g c one was =
    let two = keys_made g c in
    let path = folder_of c.args.names.now in
    let d0 = g.D.Disk.state c.args.disk.now in
    let d1 = g.D.Disk.state c.create.new.self in
    let d2 = g.D.Disk.state c.create-2.new.self in
    let kept = but_one_call d1 d2 (keys_of path 0) two in
    record {
      any_moment = λ honest base represented.
          let bare = c.requires.bare (one.time.honest (kept.honest honest)) in
          log_alone_represented d0 path bare.log d2 base represented bare.none bare.shut (log_both d0 path bare.log bare.named 0 d1 one d2 two);
      log = λ honest. on_disk_but_one d1 d2 (log_of path) (keys_of path 0) kept (log_not_keys path 0) (was.log (kept.honest honest));
      same = kept.seen (log_of path) (log_not_keys path 0) ∙ was.same;
      outside = outside_both path 0 d0 d1 d2 one two;
    }

then_quiet : {path : List ℕ} {old mid : DiskState} (new : DiskState) → Leaves path old mid → ChangesNothing mid new → Leaves path old new
then_quiet {path} {old} {mid} new was quiet = record {
  any_moment = λ honest base represented. then_nothing old mid new (RepresentsAlone path old base) (was.any_moment (quiet.honest honest) base represented) quiet;
  log = λ honest. on_disk_quiet mid new (log_of path) quiet (was.log (quiet.honest honest));
  same = quiet.seen (log_of path) ∙ was.same;
  outside = outside_twice path old mid new was.outside (outside_quiet path mid new quiet);
}

pub returns-in_err-create-clause-any_moment : goal.returns-in_err-create-clause-any_moment
returns-in_err-create-clause-any_moment g c = (one_made g (goal.at.returns-in_err-create-clause-any_moment g c).After-create).any_moment

pub returns-in_err-create-clause-log : goal.returns-in_err-create-clause-log
returns-in_err-create-clause-log g c = (one_made g (goal.at.returns-in_err-create-clause-log g c).After-create).log

pub returns-in_err-create-clause-same : goal.returns-in_err-create-clause-same
returns-in_err-create-clause-same g c = (one_made g (goal.at.returns-in_err-create-clause-same g c).After-create).same

pub returns-in_err-create-clause-outside : goal.returns-in_err-create-clause-outside
returns-in_err-create-clause-outside g c = (one_made g (goal.at.returns-in_err-create-clause-outside g c).After-create).outside

pub returns-in_err-create-2-clause-any_moment : goal.returns-in_err-create-2-clause-any_moment
returns-in_err-create-2-clause-any_moment g c = let at = goal.at.returns-in_err-create-2-clause-any_moment g c in (both_made g at.After-create-2 (messages_made g at.After-create) (one_made g at.After-create)).any_moment

pub returns-in_err-create-2-clause-log : goal.returns-in_err-create-2-clause-log
returns-in_err-create-2-clause-log g c = let at = goal.at.returns-in_err-create-2-clause-log g c in (both_made g at.After-create-2 (messages_made g at.After-create) (one_made g at.After-create)).log

pub returns-in_err-create-2-clause-same : goal.returns-in_err-create-2-clause-same
returns-in_err-create-2-clause-same g c = let at = goal.at.returns-in_err-create-2-clause-same g c in (both_made g at.After-create-2 (messages_made g at.After-create) (one_made g at.After-create)).same

pub returns-in_err-create-2-clause-outside : goal.returns-in_err-create-2-clause-outside
returns-in_err-create-2-clause-outside g c = let at = goal.at.returns-in_err-create-2-clause-outside g c in (both_made g at.After-create-2 (messages_made g at.After-create) (one_made g at.After-create)).outside

pub returns-clause-any_moment : goal.returns-clause-any_moment
returns-clause-any_moment g c = let at = goal.at.returns-clause-any_moment g c in (then_quiet (g.D.Disk.state c.sync_parent_folder.new.disk) (both_made g at.After-create-2 (messages_made g at.After-create) (one_made g at.After-create)) c.sync_parent_folder.ensures.quiet).any_moment

pub returns-clause-log : goal.returns-clause-log
returns-clause-log g c = let at = goal.at.returns-clause-log g c in (then_quiet (g.D.Disk.state c.sync_parent_folder.new.disk) (both_made g at.After-create-2 (messages_made g at.After-create) (one_made g at.After-create)) c.sync_parent_folder.ensures.quiet).log

pub returns-clause-same : goal.returns-clause-same
returns-clause-same g c = let at = goal.at.returns-clause-same g c in (then_quiet (g.D.Disk.state c.sync_parent_folder.new.disk) (both_made g at.After-create-2 (messages_made g at.After-create) (one_made g at.After-create)) c.sync_parent_folder.ensures.quiet).same

pub returns-clause-outside : goal.returns-clause-outside
returns-clause-outside g c = let at = goal.at.returns-clause-outside g c in (then_quiet (g.D.Disk.state c.sync_parent_folder.new.disk) (both_made g at.After-create-2 (messages_made g at.After-create) (one_made g at.After-create)) c.sync_parent_folder.ensures.quiet).outside

pub returns-clause-made : goal.returns-clause-made
returns-clause-made g c =
    let two = keys_made g (goal.at.returns-clause-made g c).After-create-2 in
    let quiet = c.sync_parent_folder.ensures.quiet in
    let path = folder_of c.args.names.now in
    let d1 = g.D.Disk.state c.create.new.self in
    let d2 = g.D.Disk.state c.create-2.new.self in
    let d3 = g.D.Disk.state c.sync_parent_folder.new.disk in
    let m = messages_of path 0 in
    let k = keys_of path 0 in
    let messages : c.deref.result.now ≡ m = c.deref.ensures.value ∙ c.requires.names.messages in
    let keys : c.deref-2.result.now ≡ k = c.deref-2.ensures.value ∙ c.requires.names.keys in
    let m_made : d3.seen m ≡ Some [] = quiet.seen m ∙ two.others m (messages_not_keys path 0 0) ∙ subst (λ (l : List ℕ). d1.seen l ≡ Some []) messages c.in_ok-create.ensures.made in
    let k_made : d3.seen k ≡ Some [] = quiet.seen k ∙ subst (λ (l : List ℕ). d2.seen l ≡ Some []) keys c.in_ok-create-2.ensures.made in
    on_ok_weaker {P = (n : List ℕ) → IsIn c.deref-3.result.now n → d3.is_named n} c.sync_parent_folder.result
    (λ named. record {
      messages = subst (λ (f : Option (List ℕ)). IsSome f) (sym m_made) refl;
      keys = subst (λ (f : Option (List ℕ)). IsSome f) (sym k_made) refl;
      messages_alone = quiet.alone m (λ h. h) (two.alone m (messages_not_keys path 0 0) (subst (λ (l : List ℕ). d1.is_alone l) messages c.in_ok-create.ensures.own));
      keys_alone = quiet.alone k (λ h. h) (subst (λ (l : List ℕ). d2.is_alone l) keys c.in_ok-create-2.ensures.own);
      named = subst (λ (p : List ℕ). (n : List ℕ) → IsIn p n → d3.is_named n) c.deref-3.ensures.value named;
    }) c.sync_parent_folder.ensures.durable
