use Rattle.std.proofs.Common.{List, arith, ℕ, ◌≡◌, None, sym, ◌∙◌, subst}
use Rattle.std.proofs.lemmas.Result.{on_ok_weaker}
use Rattle.disk_io.proofs.Moments.{then_run}
use Rattle.base_log.specs.{AtRest.IsAtRest, Moments.LeavesOutside, Moments.StagesOnly, Moments.RepresentsAlone, Names.IsOtherNumber, Names.folder_of, Names.keys_of, Names.messages_of}
use Rattle.base_log.specs.Standing.{BaseBytes, base_at}
use Rattle.base_log.proofs.{Keeping.outside_twice, Calls.cause_since, Empty.alone_since, LeftOutside.left_twice, Paths.keys_others, Paths.messages_others, Paths.messages_not_keys, Removed.base_others}
use Rattle.base_log.proofs.removing.remove_files.Goals as goal

pub remove_one-requires : goal.remove_one-requires
remove_one-requires g c =
    let messages = messages_others (folder_of c.args.names.now) c.args.end.recorded.number c.args.number c.requires.other in
    grind arith

pub remove_one-requires-2 : goal.remove_one-requires-2
remove_one-requires-2 g c =
    let keys = keys_others (folder_of c.args.names.now) c.args.end.recorded.number c.args.number c.requires.other in
    grind arith

pub returns-in_err-remove_one : goal.returns-in_err-remove_one
returns-in_err-remove_one g c = grind (arith, messages_others, base_others)

pub returns : goal.returns
returns g c =
    let path = folder_of c.args.names.now in
    let end = c.args.end in
    let number = c.args.number in
    let n = end.recorded.number in
    let d0 = g.D.Disk.state c.args.disk.now in
    let d1 = g.D.Disk.state c.remove_one.new.disk in
    let d2 = g.D.Disk.state c.remove_one-2.new.disk in
    let one = c.remove_one.ensures in
    let two = c.remove_one-2.ensures in
    let messages : c.deref-2.result.now ≡ messages_of path number = c.deref-2.ensures.value ∙ c.requires.names.messages in
    let keys : c.deref-4.result.now ≡ keys_of path number = c.deref-4.ensures.value ∙ c.requires.names.keys in
    let m_others = subst (λ (f : List ℕ). IsOtherNumber path n f) (sym messages) (messages_others path n number c.requires.other) in
    let k_others = subst (λ (f : List ℕ). IsOtherNumber path n f) (sym keys) (keys_others path n number c.requires.other) in
    let same = base_others d0 d1 path end c.deref-2.result.now m_others one.others in
    let run_1 = subst (λ (p : List ℕ). StagesOnly p (base_at d0 p end.recorded) d0 d1) c.deref.ensures.value one.run in
    let run_2 = subst (λ (p : List ℕ). StagesOnly p (base_at d1 p end.recorded) d1 d2) c.deref-3.ensures.value two.run in
    let left_1 = subst (λ (p : List ℕ). LeavesOutside p d0 d1) c.deref.ensures.value one.leaves in
    let left_2 = subst (λ (p : List ℕ). LeavesOutside p d1 d2) c.deref-3.ensures.value two.leaves in
    record {
      settled = λ honest. on_ok_weaker c.remove_one-2.result (λ rest. subst (λ (p : List ℕ). IsAtRest d2 p end) c.deref-3.ensures.value rest) (two.settled honest);
      gone = λ honest.
          let gone_1 : d1.seen (messages_of path number) ≡ None = subst (λ (f : List ℕ). d1.seen f ≡ None) messages (c.in_ok-remove_one.ensures.gone (two.run.outside.honest honest)) in
          on_ok_weaker {P = d2.seen c.deref-4.result.now ≡ None} c.remove_one-2.result
          (λ gone. record {
            messages = two.others (messages_of path number) (λ is. messages_not_keys path number number (is ∙ keys)) ∙ gone_1;
            keys = subst (λ (f : List ℕ). d2.seen f ≡ None) keys gone;
          }) (two.gone honest);
      same = base_others d1 d2 path end c.deref-4.result.now k_others two.others ∙ same;
      run = record {
        any_moment = λ honest.
            then_run d0 d1 d2 (RepresentsAlone path d0 (base_at d0 path end.recorded)) (RepresentsAlone path d1 (base_at d1 path end.recorded)) (run_1.any_moment (two.run.outside.honest honest)) (run_2.any_moment honest)
            (λ f left. alone_since d0 d1 path (base_at d0 path end.recorded) f run_1.outside (subst (λ (b : BaseBytes). RepresentsAlone path d1 b f) same left));
        outside = outside_twice path d0 d1 d2 run_1.outside run_2.outside;
      };
      leaves = left_twice path d0 d1 d2 run_1.outside.named left_1 left_2;
      cause = cause_since (g.D.Disk.failures c.args.disk.now) (g.D.Disk.failures c.remove_one.new.disk) (g.D.Disk.failures c.remove_one-2.new.disk) c.remove_one-2.result (omega arith) c.remove_one-2.ensures.cause;
    }
