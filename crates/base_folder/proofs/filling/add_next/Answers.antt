use Rattle.{std.{proofs.Common.{◌≡◌, ◌∙◌, Some, sym, arith}, specs.Prelude.slice_get}, base_folder_store.specs.Opened.held_by}
use Rattle.base_folder.specs.Filled.{unfilled_cause}
use Rattle.base_folder.proofs.Fillings.{cause_stored, fills_failed, fills_unread, front_one, many_stored, none_missing, reads_fault, reads_folder}
use Rattle.base_folder.proofs.filling.add_next.Goals as goal

pub returns-in-Err-clause-kept : goal.returns-in-Err-clause-kept
returns-in-Err-clause-kept g c = fills_unread g.H.Digest.keyed c.args.folder.now (g.D.Disk.state c.args.disk.now) 1 _ c.requires.usable

pub returns-in-Err-clause-reads : goal.returns-in-Err-clause-reads
returns-in-Err-clause-reads g c = grind (arith, reads_fault)

pub returns-in_err-add-in-Some-clause-kept : goal.returns-in_err-add-in-Some-clause-kept
returns-in_err-add-in-Some-clause-kept g c =
    fills_failed g.H.Digest.keyed c.args.folder.now c.add.new.folder (g.D.Disk.state c.args.disk.now) (g.D.Disk.state c.add.new.disk) 1 _ c.in_err-add-in-Some.field-0.0 c.from_residual.result c.from_residual.ensures.1 c.in_err-add-in-Some.ensures.kept

pub returns-in_ok-add-in-Some-clause-kept : goal.returns-in_ok-add-in-Some-clause-kept
returns-in_ok-add-in-Some-clause-kept g c =
    let was = c.in_ok-add-in-Some.ensures in
    record { adds = record { named = was.kept.named; opened = was.kept.opened; path = was.kept.path; mark = was.kept.mark; same = was.kept.same; run = was.kept.run }; more = was.more; unread = λ honest. tt }

pub returns-in_err-add-in-Some-clause-reads : goal.returns-in_err-add-in-Some-clause-reads
returns-in_err-add-in-Some-clause-reads g c =
    reads_folder (g.M.MessageSource.state c.args.messages.now) (g.M.MessageSource.state c.fetch.new.self) (unfilled_cause c.in_err-add-in-Some.field-0.0) c.from_residual.result c.from_residual.ensures.1 c.fetch.ensures.looks c.fetch.ensures.cause.later

pub returns-in_err-add-in-Some-clause-cause : goal.returns-in_err-add-in-Some-clause-cause
returns-in_err-add-in-Some-clause-cause g c =
    cause_stored (g.D.Disk.failures c.args.disk.now) (g.D.Disk.failures c.add.new.disk) c.in_err-add-in-Some.field-0.0 c.from_residual.result c.from_residual.ensures.1 c.in_err-add-in-Some.ensures.cause

pub returns-in_err-add-in-Some-clause-many : goal.returns-in_err-add-in-Some-clause-many
returns-in_err-add-in-Some-clause-many g c = grind (arith, many_stored)

pub returns-in_ok-add-in-Some-clause-added : goal.returns-in_ok-add-in-Some-clause-added
returns-in_ok-add-in-Some-clause-added g c = λ honest base cursor shows was.
    let keyed = g.H.Digest.keyed in
    let m = c.in-Some.message.now in
    let old = held_by (g.D.Disk.state c.args.disk.now) c.args.folder.now in
    let now = held_by (g.D.Disk.state c.add.new.disk) c.add.new.folder in
    let at : slice_get base.messages c.args.place ≡ Some m = sym (c.in-Some.ensures ∙ c.in_default.ensures.fetched shows.honest base shows.holds) in
    front_one keyed old now base c.args.place cursor m shows.is at (c.in_ok-add-in-Some.ensures.added honest) was

pub returns-in-None-clause-kept : goal.returns-in-None-clause-kept
returns-in-None-clause-kept g c = fills_unread g.H.Digest.keyed c.args.folder.now (g.D.Disk.state c.args.disk.now) 1 _ c.requires.usable

pub returns-in-None-clause-reads : goal.returns-in-None-clause-reads
returns-in-None-clause-reads g c = grind (arith, none_missing)
