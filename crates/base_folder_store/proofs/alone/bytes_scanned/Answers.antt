use Rattle.std.proofs.Common.{◌≡◌, ℕ, List, sym, ap, subst, ◌∙◌, arith}
use Rattle.base_file.{specs.{Alone.IsStoredAlone, BaseFile.stored_at}, proofs.{LoneMessages.saved_alone, SavedMessages.stored_here}}
use Rattle.echo_filed.specs.{Stored.is_short_enough, Stored.stored_as, Stored.stored_bytes, declared.stored.Version.TheVariants.Second}
use Rattle.base_folder_store.proofs.Causes.{ok_both}
use Rattle.base_folder_store.proofs.alone.bytes_scanned.Goals as goal

pub returns-clause-stored : goal.returns-clause-stored
returns-clause-stored c =
    let m = c.args.message.now in
    let short = c.is_short-short.result in
    let at : stored_as short m ≡ stored_at 1 0 m = stored_here 1 0 m short c.is_short-short.ensures in
    ok_both _ _ _ (λ bytes is room. subst (λ (l : List ℕ). IsStoredAlone m l) (sym (is ∙ ap (stored_bytes Second) at)) (saved_alone m 1 c.is_filed.ensures (sym (ap is_short_enough at) ∙ room))) c.write_whole.result c.write_whole.ensures.bytes c.write_whole.ensures.room

pub returns-clause-bytes : goal.returns-clause-bytes
returns-clause-bytes c = grind (arith, stored_here)

pub returns-clause-many : goal.returns-clause-many
returns-clause-many c is =
    let m = c.args.message.now in
    let short = c.is_short-short.result in
    let at : stored_as short m ≡ stored_at 1 0 m = stored_here 1 0 m short c.is_short-short.ensures in
    sym (ap is_short_enough at) ∙ c.write_whole.ensures.many is
