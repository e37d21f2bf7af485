use Rattle.{std.proofs.{Common.{◌≡◌, ◌-◌, Ok, arith}, lemmas.Result.on_ok_weaker}, base_file.specs.Base.Base, base_folder_store.specs.Opened.held_by}
use Rattle.{base_folder_store.proofs.Causes.handed_on, base_folder.specs.Filled.{FillsOnly, HoldsFront, ShowsBase}}
use Rattle.base_folder.proofs.filling.add_all.Goals.{After-add_from-2}
use Rattle.base_folder.proofs.Fillings.{adds_end, cause_since, fills_end, fills_fewer, fills_twice, front_all, front_scanned, full_at, reads_twice, shows_before, shows_later}
use Rattle.base_folder.proofs.filling.add_all.Given as given
use Rattle.base_folder.proofs.filling.add_all.Goals as goal

scanned : (g : given.Over) (c : After-add_from-2 g)
    → FillsOnly {T = Unit {0}} g.H.Digest.keyed (c.min-scanned.result - 0) c.args.folder.now c.move_to_end.new.self (g.D.Disk.state c.args.disk.now) (g.D.Disk.state c.add_from.new.disk) (Ok tt)
scanned g c = fills_end g.H.Digest.keyed c.args.folder.now c.add_from.new.folder c.move_to_end.new.self (g.D.Disk.state c.args.disk.now) (g.D.Disk.state c.add_from.new.disk) (c.min-scanned.result - 0) c.move_to_end.ensures c.in_ok-add_from.ensures.kept

shows : (g : given.Over) (c : After-add_from-2 g) (base : Base) → (g.M.MessageSource.state c.add_from-2.new.messages).is_honest → (g.M.MessageSource.state c.args.messages.now).holds base
    → ShowsBase (g.M.MessageSource.state c.args.messages.now) (g.M.MessageSource.state c.add_from-2.new.messages) base
shows g c base honest holds = record { honest = honest; holds = holds; is = c.count-count.ensures.base base holds }

front : (g : given.Over) (c : After-add_from-2 g) → (g.D.Disk.state c.add_from.new.disk).is_honest → (base : Base) → ShowsBase (g.M.MessageSource.state c.args.messages.now) (g.M.MessageSource.state c.add_from.new.messages) base
    → HoldsFront g.H.Digest.keyed (held_by (g.D.Disk.state c.args.disk.now) c.args.folder.now) base.messages 0 0
    → HoldsFront g.H.Digest.keyed (held_by (g.D.Disk.state c.add_from.new.disk) c.move_to_end.new.self) base.messages c.min-scanned.result base.cursor
front g c honest base shown was =
    let at : c.min-scanned.result ≡ base.cursor = omega (arith, c.min-scanned.ensures, c.cursor.ensures base shown.holds, c.count-count.ensures.all base shown.holds, shown.is.within) in
    front_scanned g.H.Digest.keyed (g.D.Disk.state c.add_from.new.disk) c.add_from.new.folder c.move_to_end.new.self base c.min-scanned.result c.move_to_end.ensures at (c.in_ok-add_from.ensures.kept.adds.opened honest) shown.is
    (c.in_ok-add_from.ensures.added honest base 0 shown was)

pub returns-clause-kept : goal.returns-clause-kept
returns-clause-kept g c =
    let count = (g.M.MessageSource.state c.args.messages.now).count in
    fills_twice g.H.Digest.keyed c.args.folder.now c.move_to_end.new.self c.add_from-2.new.folder (g.D.Disk.state c.args.disk.now) (g.D.Disk.state c.add_from.new.disk) (g.D.Disk.state c.add_from-2.new.disk)
    (c.min-scanned.result - 0) (c.count-count.result - c.min-scanned.result) count c.add_from-2.result (omega (arith, c.min-scanned.ensures, c.count-count.ensures.count)) (scanned g (goal.at.returns-clause-kept g c).After-add_from-2) c.add_from-2.ensures.kept

pub returns-in_err-add_from-clause-kept : goal.returns-in_err-add_from-clause-kept
returns-in_err-add_from-clause-kept g c = grind (arith, fills_fewer)

pub returns-clause-added : goal.returns-clause-added
returns-clause-added g c = λ honest source base holds was.
    let after = (goal.at.returns-clause-added g c).After-add_from-2 in
    let shown = shows g after base source holds in
    let before = shows_before (g.M.MessageSource.state c.args.messages.now) (g.M.MessageSource.state c.add_from.new.messages) (g.M.MessageSource.state c.add_from-2.new.messages) base c.add_from-2.ensures.reads.looks shown in
    let later = shows_later (g.M.MessageSource.state c.args.messages.now) (g.M.MessageSource.state c.add_from.new.messages) (g.M.MessageSource.state c.add_from-2.new.messages) base c.in_ok-add_from.ensures.reads.looks shown in
    let keyed = g.H.Digest.keyed in
    let now = held_by (g.D.Disk.state c.add_from-2.new.disk) c.add_from-2.new.folder in
    on_ok_weaker {P = HoldsFront keyed now base.messages c.count-count.result base.cursor} c.add_from-2.result (λ all. front_all keyed now base c.count-count.result (c.count-count.ensures.all base holds) all)
    (c.add_from-2.ensures.added honest base base.cursor later (front g after (c.add_from-2.ensures.kept.adds.run.outside.honest honest) base before was))

pub returns-clause-reads : goal.returns-clause-reads
returns-clause-reads g c = reads_twice (g.M.MessageSource.state c.args.messages.now) (g.M.MessageSource.state c.add_from.new.messages) (g.M.MessageSource.state c.add_from-2.new.messages) c.add_from-2.result c.in_ok-add_from.ensures.reads c.add_from-2.ensures.reads

pub returns-clause-cause : goal.returns-clause-cause
returns-clause-cause g c = cause_since (g.D.Disk.failures c.args.disk.now) (g.D.Disk.failures c.add_from.new.disk) (g.D.Disk.failures c.add_from-2.new.disk) c.add_from-2.result c.in_ok-add_from.ensures.cause.cause.later c.add_from-2.ensures.cause

pub returns-clause-many : goal.returns-clause-many
returns-clause-many g c = λ honest source base holds was is.
    let after = (goal.at.returns-clause-many g c).After-add_from-2 in
    let shown = shows g after base source holds in
    let before = shows_before (g.M.MessageSource.state c.args.messages.now) (g.M.MessageSource.state c.add_from.new.messages) (g.M.MessageSource.state c.add_from-2.new.messages) base c.add_from-2.ensures.reads.looks shown in
    let later = shows_later (g.M.MessageSource.state c.args.messages.now) (g.M.MessageSource.state c.add_from.new.messages) (g.M.MessageSource.state c.add_from-2.new.messages) base c.in_ok-add_from.ensures.reads.looks shown in
    full_at g.D.Disk.state g.H.Digest.keyed _ _ base (scanned g after).adds.path
    (c.add_from-2.ensures.many honest base base.cursor later (front g after (c.add_from-2.ensures.kept.adds.run.outside.honest honest) base before was) is)

pub add_from-requires-2-clause-usable : goal.add_from-requires-2-clause-usable
add_from-requires-2-clause-usable g c =
    let kept = adds_end c.args.folder.now c.add_from.new.folder c.move_to_end.new.self (g.D.Disk.state c.args.disk.now) (g.D.Disk.state c.add_from.new.disk) c.move_to_end.ensures c.in_ok-add_from.ensures.kept.adds in
    record { named = kept.named; opened = kept.opened }

pub returns-in_err-add_from-clause-many : goal.returns-in_err-add_from-clause-many
returns-in_err-add_from-clause-many g c = λ honest source base holds was is.
    let shown : ShowsBase (g.M.MessageSource.state c.args.messages.now) (g.M.MessageSource.state c.add_from.new.messages) base = record { honest = source; holds = holds; is = c.count-count.ensures.base base holds } in
    c.in_err-add_from.ensures.many honest base 0 shown was (handed_on c.in_err-add_from.field-0.0 _ c.from_residual.result c.from_residual.ensures.1 is)
