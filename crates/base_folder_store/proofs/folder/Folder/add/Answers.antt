use Rattle.std.proofs.Common.{ℕ, ◌++◌, ap, refl, ◌∙◌, arith}
use Rattle.base_store.specs.Keys.{entry}
use Rattle.base_folder_store.proofs.folder.Folder.add.Goals as goal

pub returns-clause-waits : goal.returns-clause-waits
returns-clause-waits c =
    let place = c.in-Some.ensures.place in
    let room = c.in-Some.ensures.room in
    let entered = c.entry-entry.ensures ∙ ap (λ (n : ℕ). entry n c.args.digest) place in
    record {
      names = refl;
      end = refl;
      recorded = refl;
      keys = omega arith;
      messages = c.in_ok-add.ensures.messages;
      entries = c.in_ok-add.ensures.keys ∙ (λ i. c.args.self.now.waiting.keys.items ++ entered i);
      fits = omega (arith, place, room);
    }
