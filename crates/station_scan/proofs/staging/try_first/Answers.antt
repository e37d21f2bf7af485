use Rattle.std.proofs.Common.{◌≡◌, ◌≢◌, ◌⊎◌, ◌<◌, ◌∙◌, get_or, inl, inr, true, length, arith, refl, sym}
use Rattle.std.proofs.lemmas.{Bool.eqb-false, Bool.eqb-true, Result.IfOk-weaker, List.get_or_default}
use Rattle.disk_atomic.{proofs.{Packets.nobody, Whole.some_is_there}, specs.{Trying.WasTried, Outgoing.{IsAtStaging, staged_in}}}
use Rattle.station_scan.{specs.Publishing.IsTriedWith, proofs.Staged.{at_staging, first_other, first_staged, still_staged, tried_after, tried_changes}}
use Rattle.station_scan.proofs.staging.try_first.Goals as goal

pub try_link-requires-clause-can : goal.try_link-requires-clause-can
try_link-requires-clause-can g c =
    let packets = c.args.packets.now in
    let x = get_or packets 0 nobody in
    let has = staged_in (g.D.Disk.state c.args.disk.now).seen in
    let some : 0 < length packets = let not : length packets ≢ 0 = eqb-false _ _ (sym c.is_empty.ensures ∙ c.if-is_empty.false) in omega arith in
    let is : x ≡ get_or packets 0 x = get_or_default packets 0 nobody x some in
    let first = first_staged c.args.outbound.now c.args.trial.now packets c.requires.placed c.requires.trial.0 has x is some (g.D.Disk.state c.args.disk.now) c.requires.staged in
    grind (arith, first_other, some_is_there)

pub returns-then-is_empty-clause-tried : goal.returns-then-is_empty-clause-tried
returns-then-is_empty-clause-tried g c is = inl (eqb-true _ _ (sym c.is_empty.ensures ∙ c.if-is_empty.true))

pub returns-clause-tried : goal.returns-clause-tried
returns-clause-tried g c =
    let packets = c.args.packets.now in
    let x = get_or packets 0 nobody in
    let has = staged_in (g.D.Disk.state c.args.disk.now).seen in
    let some : 0 < length packets = let not : length packets ≢ 0 = eqb-false _ _ (sym c.is_empty.ensures ∙ c.if-is_empty.false) in omega arith in
    let is : x ≡ get_or packets 0 x = get_or_default packets 0 nobody x some in
    let d = g.D.Disk.state c.args.disk.now in
    IfOk-weaker c.try_link.result (λ b. b ≡ true → WasTried g.D.Disk.state (λ m. (m ≡ x.staging.now) ⊎ (m ≡ c.args.trial.now)) c.args.trial.now d) (λ b. b ≡ true → IsTriedWith g.D.Disk.state packets c.args.trial.now d)
    (λ b was yes. inr (tried_after g.D.Disk.state (λ m. (m ≡ x.staging.now) ⊎ (m ≡ c.args.trial.now)) (IsAtStaging packets c.args.trial.now) c.args.trial.now d d (at_staging c.args.outbound.now c.args.trial.now packets c.requires.placed c.requires.trial.0 has x is some) (λ m out. refl) (was yes))) c.try_link.ensures.tried

pub returns-clause-staged : goal.returns-clause-staged
returns-clause-staged g c =
    let packets = c.args.packets.now in
    let x = get_or packets 0 nobody in
    let has = staged_in (g.D.Disk.state c.args.disk.now).seen in
    let some : 0 < length packets = let not : length packets ≢ 0 = eqb-false _ _ (sym c.is_empty.ensures ∙ c.if-is_empty.false) in omega arith in
    let is : x ≡ get_or packets 0 x = get_or_default packets 0 nobody x some in
    still_staged c.args.outbound.now c.args.trial.now packets c.requires.placed c.requires.trial.0 has x is some (g.D.Disk.state c.args.disk.now) (g.D.Disk.state c.try_link.new.disk) c.try_link.ensures.tries c.requires.staged

pub returns-clause-changes : goal.returns-clause-changes
returns-clause-changes g c =
    let packets = c.args.packets.now in
    let x = get_or packets 0 nobody in
    let has = staged_in (g.D.Disk.state c.args.disk.now).seen in
    let some : 0 < length packets = let not : length packets ≢ 0 = eqb-false _ _ (sym c.is_empty.ensures ∙ c.if-is_empty.false) in omega arith in
    let is : x ≡ get_or packets 0 x = get_or_default packets 0 nobody x some in
    tried_changes c.args.outbound.now c.args.trial.now packets c.requires.placed c.requires.trial.0 has x is some (g.D.Disk.state c.args.disk.now) (g.D.Disk.state c.try_link.new.disk) c.try_link.ensures.tries
