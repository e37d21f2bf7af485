use Rattle.std.proofs.{Common.List, Common.[], Common.◌∷◌, Common.refl, raw_atomic.Walks.proved}
use base.Fml.{ftrue}
use mir.Syntax.{named}
use mir.Val.{Val}
use types.Kit.{‵, raw, ◌⊛◌, ◌$◌, ◌∵◌, !, qed, keep, move, split, join, suffices, done}
use types.Part.{agg}
use types.Run.{enter, no_more, returns}
use types.ByLocal.{alloc_all, pass_all, free_all, look_at, sets}
use denote.Exit.{yes}
use denote.RattleType.{owns}
use denote.Ref.{shr_vals, shr_Tells}
use denote.Builtin.{RefOf}
use denote.Signature.{Slot, plain, named_lft, types_at}
use denote.Steps.{nothing}
use denote.Triple.Entry.{alive}
use denote.Triple.Walked.{Stays, stay_dropped, Goes-dropped, says, ends_at}
use Rattle.disk_system.proofs.{Silent.silence, Silent.breaks_silence, trace.Trace.with.Statement.statement}
use Rattle.disk_system.specs.{Noted.note_of, declared.trace.Trace.Trace}
use Rattle.disk_system.specs.contracts.trace.Call as call
use Rattle.disk_system.specs.contracts.trace.Trace as trace
use Rattle.disk_system.specs.contracts.trace.Trace.with as f
use Rattle.disk_system.proofs.trace.Trace.with.Code as code

abbrev earlier : Slot 3
earlier = RefOf (0 ∷ []) tt (plain (λ κs. trace.the_row)) (λ κs. tt)

abbrev one_more : Slot 3
one_more = RefOf (1 ∷ []) tt (plain (λ κs. call.the_row (named_lft 3 2 tt κs))) (λ κs. tt)

abbrev stayed : Stays f.ended.signature.params f.ended.kept
stayed = (stay_dropped earlier yes, (stay_dropped one_more yes, tt))

pub with_spec : {M : Type 1} → statement M
with_spec 𝓤 𝓛 𝓜 𝓡 wired =
    let c = f.clauses 𝓛 𝓜.mem 𝓡.returns in
    proved 𝓛 f.ended stayed c 𝓜 𝓡 (Goes-dropped 𝓛 3 earlier yes (λ κs x w. refl), (Goes-dropped 𝓛 3 one_more yes (λ κs x w. refl), tt))
    f.Key.name code.function (code.unfolded 𝓤 𝓛.H 𝓜 𝓡 wired)
    (λ κs. (shr_vals, (shr_vals, tt))) (λ κs. (shr_Tells (named 0) κs.0 trace.the_row, (shr_Tells (named 1) κs.1.0 (call.the_row (named_lft 3 2 tt κs)), tt))) (λ κs qs bounds a none are.
    let held : List Val × (List Val × Unit {0}) = (shr_vals a.0, (shr_vals a.1.0, tt)) in
    let more : Trace = record { calls = note_of a.1.0.now ∷ a.0.now.calls } in
    qed 𝓛 ((raw (alive 𝓛 f.signature κs qs) ⊛ ‵ (owns (types_at f.signature.params κs) a held)) ∷ ‵ ftrue ∷ []) ∵
    split ! $ keep ! (0 ∷ []) $
    enter ! _ _ _ _ _ $ alloc_all ! (λ l. pass_all ! refl ((tt, tt), ((tt, tt), tt)) $
    sets ! (agg ! (no_more !)) refl (tt, tt) $
    returns ! (look_at ! 0 refl) $ free_all ! refl $
    breaks_silence ! more $
    suffices ! _ (ends_at 𝓛 f.ended stayed c ((κs, qs, bounds, a, held), none) silence more (tt, (tt, tt)) (tt, (tt, tt))) $ says ! refl $
    nothing ! $ nothing ! $ join ! $ nothing ! $ join ! $ join ! $ move ! (1 ∷ 0 ∷ []) $ done !))
