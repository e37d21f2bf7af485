use Rattle.{std.proofs.{Common.{◌+◌, List, ℕ, refl, sym, ap, subst, ◌∙◌, arith}, lemmas.Result.on_ok_weaker}, base_store.specs.Keys.digested_key}
use Rattle.{echo_filed.specs.{Filed.key_of, declared.key.Key.Key}, base_file.specs.Alone.IsStoredAlone, base_folder_store.specs.Held.digest_by}
use Rattle.{base_folder_store.{specs.Opened.held_by, proofs.{Causes.{done_both, handed_on}, Seen.filed_more}}, base_folder.specs.Filled.HoldsMany}
use Rattle.base_folder.proofs.Fillings.{adds_none, many_more}
use Rattle.base_folder.proofs.filling.add.Goals as goal

pub returns-in_err-bytes-clause-kept : goal.returns-in_err-bytes-clause-kept
returns-in_err-bytes-clause-kept g c = adds_none c.args.folder.now (g.D.Disk.state c.args.disk.now) c.from_residual.result c.requires

pub returns-in_err-key-clause-kept : goal.returns-in_err-key-clause-kept
returns-in_err-key-clause-kept g c = adds_none c.args.folder.now (g.D.Disk.state c.args.disk.now) c.from_residual-in_err-key.result c.requires

pub returns-in_err-number-clause-kept : goal.returns-in_err-number-clause-kept
returns-in_err-number-clause-kept g c = adds_none c.args.folder.now (g.D.Disk.state c.args.disk.now) c.from_residual-in_err-number.result c.requires

pub returns-clause-kept : goal.returns-clause-kept
returns-clause-kept g c = grind arith

pub returns-clause-more : goal.returns-clause-more
returns-clause-more g c = λ honest k holds.
    let m = c.args.message.now in
    let keyed = g.H.Digest.keyed in
    let before = held_by (g.D.Disk.state c.args.disk.now) c.args.folder.now in
    let after = held_by (g.D.Disk.state c.stage.new.disk) c.stage.new.self in
    let stored = subst (λ (l : List ℕ). IsStoredAlone m l) (sym c.deref.ensures.value) c.in_ok-bytes.ensures.stored in
    on_ok_weaker {Q = HoldsMany keyed after (k + 1)} c.stage.result
    (λ staged. many_more keyed after before k m c.deref.result.now c.in_ok-number.number staged stored (c.in_ok-number.ensures ∙ ap (λ (key : Key). digest_by keyed before.mark (digested_key key)) c.in_ok-key.ensures) holds)
    (c.stage.ensures.staged honest)

pub returns-clause-added : goal.returns-clause-added
returns-clause-added g c = λ honest.
    let m = c.args.message.now in
    let keyed = g.H.Digest.keyed in
    let before = held_by (g.D.Disk.state c.args.disk.now) c.args.folder.now in
    let after = held_by (g.D.Disk.state c.stage.new.disk) c.stage.new.self in
    let stored = subst (λ (l : List ℕ). IsStoredAlone m l) (sym c.deref.ensures.value) c.in_ok-bytes.ensures.stored in
    done_both (λ staged fits base holds unknown. filed_more keyed after before base m (key_of m) c.deref.result.now c.in_ok-number.number staged fits holds stored c.in_ok-bytes.ensures.filed refl unknown
    (c.in_ok-number.ensures ∙ ap (λ (key : Key). digest_by keyed before.mark (digested_key key)) c.in_ok-key.ensures))
    c.stage.result (c.stage.ensures.staged honest) (c.stage.ensures.fits honest)

pub returns-in_err-bytes-clause-many : goal.returns-in_err-bytes-clause-many
returns-in_err-bytes-clause-many g c is room = grind (arith, handed_on)

pub returns-clause-many : goal.returns-clause-many
returns-clause-many g c is room = grind arith
