use Rattle.std.proofs.Common.{◌≡◌, ℕ, List, refl, sym, ap, subst, ◌∙◌, arith}
use Rattle.base_log.specs.{Names.AreNames, Names.folder_of, Names.keys_of, Names.messages_of, Standing.base_at, declared.log.CommitRecord.CommitRecord}
use Rattle.base_log.proofs.Renewed.{alone_first, alone_run}
use Rattle.base_folder_store.specs.{Calls.StagesOnly, Left.IsStagedIn, Opened.path_of, declared.folder.Folder.Folder}
use Rattle.base_folder_store.proofs.{Beside.readable_others, Staged.outside_same, Waits.written_held, folder.Folder.anew.Goals.After-stage_anew}
use Rattle.base_folder_store.proofs.folder.Folder.anew.Given as given
use Rattle.base_folder_store.proofs.folder.Folder.anew.Goals as goal

pub returns-in_err-names-clause-run : goal.returns-in_err-names-clause-run
returns-in_err-names-clause-run g c =
    let f = c.args.self.now in
    let d = g.D.Disk.state c.args.disk.now in
    record {
      any_moment = λ honest. alone_run d (path_of f) f.end (c.requires.settled honest) d (alone_first d (path_of f) f.end (c.requires.settled honest));
      outside = outside_same (path_of f) d;
    }

pub stage_anew-requires-clause-settled : goal.stage_anew-requires-clause-settled
stage_anew-requires-clause-settled g c honest = grind arith

record Made (g : given.Over) (c : After-stage_anew g) : Type 0 where
  folder : folder_of c.in_ok-names.names ≡ path_of c.args.self.now
  run : StagesOnly (path_of c.args.self.now) (base_at (g.D.Disk.state c.args.disk.now) (path_of c.args.self.now) c.args.self.now.end.recorded) (g.D.Disk.state c.args.disk.now) (g.D.Disk.state c.stage_anew.new.disk)

made : (g : given.Over) (c : After-stage_anew g) → Made g c
made g c = grind arith

pub returns-in_err-recorded-clause-run : goal.returns-in_err-recorded-clause-run
returns-in_err-recorded-clause-run g c = (made g (goal.at.returns-in_err-recorded-clause-run g c).After-stage_anew).run

pub returns-clause-run : goal.returns-clause-run
returns-clause-run g c = (made g (goal.at.returns-clause-run g c).After-stage_anew).run

pub returns-clause-opened : goal.returns-clause-opened
returns-clause-opened g c honest = grind arith

pub returns-clause-empty : goal.returns-clause-empty
returns-clause-empty g c = grind (arith, written_held)

pub returns-clause-committed : goal.returns-clause-committed
returns-clause-committed g c honest =
    c.in_ok-recorded.ensures.same honest ∙ ap (λ (p : List ℕ). base_at (g.D.Disk.state c.args.disk.now) p c.args.self.now.end.recorded) (made g (goal.at.returns-clause-committed g c).After-stage_anew).folder

pub returns-clause-paired : goal.returns-clause-paired
returns-clause-paired g c =
    let f = c.args.self.now in
    let path = folder_of c.in_ok-names.names in
    let next : Folder = record { names = c.in_ok-names.names; end = f.end; recorded = c.in_ok-recorded.recorded; keys = 0; waiting = c.new-waiting.result } in
    let recorded = c.in_ok-recorded.ensures.recorded in
    let others : IsStagedIn f next = record {
      path = (made g (goal.at.returns-clause-paired g c).After-stage_anew).folder;
      end = refl;
      number = λ is. c.other_number-number.ensures.other (sym (ap (λ (t : CommitRecord). t.number) recorded) ∙ is);
      mark = ap (λ (t : CommitRecord). t.mark) recorded;
    } in
    record {
      readable = λ honest.
          readable_others (g.D.Disk.state c.args.disk.now) (g.D.Disk.state c.stage_anew.new.disk) f next others
          (λ m messages keys. c.stage_anew.ensures.others m (λ is. messages (is ∙ ap (λ (t : CommitRecord). messages_of path t.number) (sym recorded))) (λ is. keys (is ∙ ap (λ (t : CommitRecord). keys_of path t.number) (sym recorded))))
          (c.requires.readable (c.stage_anew.ensures.run.outside.honest honest));
      others = others;
      named = subst (λ (t : CommitRecord). AreNames c.in_ok-names.names t.number) (sym recorded) c.in_ok-names.ensures.names;
    }
