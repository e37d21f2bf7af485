-- A packet comes, for the first time or again.
use Rattle.std.proofs.Common.{◌≡◌, ℕ, zero, suc, ◌+◌, ◌==◌, Bool, true, false, List, [], ◌∷◌, length, map, refl, sym, ap, subst, ◌∙◌, Option, Some, None, arith}
use Rattle.std.{proofs.lemmas.Bool.{cond-true, eqb-true}, specs.{Prelude.option_map, List.list_any}}
use Rattle.model_graph.specs.Walk.{Among}
use Rattle.model_steps.specs.{declared.packet.Packet.Packet, SystemState.SystemState}
use Rattle.model_run.{specs.Run.{Run, System, change, coming, delivery, destination, nth, receiver, taking, with_index}, proofs.Lists.any-from}
use Rattle.echo_net.specs.{Worlds.Exported, Worlds.Fits, Worlds.IsWorldOf, Worlds.WorldState, Worlds.encoded, Worlds.exported_packet, Worlds.state_of, Worlds.world_after, Taken.AreTaken}
use Rattle.echo_net.proofs.{Changes.read-nth, Exports.exported-nth, Exports.within-nth, Runs.delivered-run, Taken.state_stays}

states_stay : (i : ℕ) (f : System → System) (ss : List System) → ((s : System) → nth i ss ≡ Some s → state_of (f s) ≡ state_of s)
    → map state_of (change i f ss) ≡ map state_of ss
states_stay i f [] same = refl
states_stay zero f (s ∷ ss) same = ap (λ (x : SystemState). x ∷ map state_of ss) (same s refl)
states_stay (suc i) f (s ∷ ss) same = ap (λ (xs : List SystemState). state_of s ∷ xs) (states_stay i f ss same)

again-run : (world : WorldState) (run : Run) (k : ℕ) (p : Packet) → IsWorldOf world run → AreTaken run → list_any (λ d. d == k) run.delivered ≡ true
    → nth k run.packets ≡ Some p → IsWorldOf world (delivery run k (Some p))
again-run world run k p is are came there = by (nth (receiver run p) run.systems)
  where
    among : Among k run.delivered
    among =
        let (d, i, e) = any-from (λ d. d == k) run.delivered came in
        let P : ℕ → Type 0 = λ n. Among n run.delivered in
        subst P (eqb-true d k e) i

    by : (found : Option System) → IsWorldOf world (coming run k p found)
    by None = is
    by (Some s) =
        let f : System → System = taking p (length p.messages) in
        let once : with_index k run.delivered ≡ run.delivered = cond-true (list_any (λ d. d == k) run.delivered) run.delivered (k ∷ run.delivered) came in
        let stay = states_stay (receiver run p) f run.systems (λ t at. state_stays t p (are.taken k p t among there at)) in
        let W : List ℕ → Type 0 = λ ds. IsWorldOf world (record { systems = change (receiver run p) f run.systems; packets = run.packets; delivered = ds }) in
        subst W (sym once) (record { systems = is.systems ∙ sym stay; packets = is.packets; fit = is.fit; delivered = is.delivered })

-- a missing or repeated packet changes nothing; another comes to the first system of its destination
pub delivery-run : (world new : WorldState) (run : Run) (k : ℕ) → IsWorldOf world run → AreTaken run → (nth k world.packets ≡ None → new ≡ world)
    → ((e : Exported) → nth k world.packets ≡ Some e → e.came ≡ true → new ≡ world)
    → ((p : Packet) → Fits p → nth k world.packets ≡ Some (record { bytes = encoded p; to = destination p; came = false }) → new ≡ world_after world k p)
    → IsWorldOf new (delivery run k (nth k run.packets))
delivery-run world new run k is are none again first = by (nth k run.packets) refl
  where
    here : nth k world.packets ≡ option_map (exported_packet run.delivered (0 + k)) (nth k run.packets)
    here = ap (nth k) is.packets ∙ exported-nth run.delivered 0 k run.packets

    there : (p : Packet) (b : Bool) → nth k run.packets ≡ Some p → list_any (λ d. d == k) run.delivered ≡ b
        → nth k world.packets ≡ Some (record { bytes = encoded p; to = destination p; came = b })
    there p b e came =
        let index : 0 + k ≡ k = omega arith in
        let is_b = ap (λ (n : ℕ). list_any (λ d. d == n) run.delivered) index ∙ came in
        here ∙ ap (option_map (exported_packet run.delivered (0 + k))) e ∙ (λ i. Some (record { bytes = encoded p; to = destination p; came = is_b i }))

    comes : (p : Packet) → nth k run.packets ≡ Some p → (b : Bool) → list_any (λ d. d == k) run.delivered ≡ b → IsWorldOf new (delivery run k (Some p))
    comes p e true came =
        let W : WorldState → Type 0 = λ w. IsWorldOf w (delivery run k (Some p)) in
        subst W (sym (again (record { bytes = encoded p; to = destination p; came = true }) (there p true e came) refl)) (again-run world run k p is are came e)
    comes p e false came =
        let W : WorldState → Type 0 = λ w. IsWorldOf w (delivery run k (Some p)) in
        let fits = subst Fits (read-nth run.packets k p p e) (is.fit k p (within-nth k run.packets p e)) in
        subst W (sym (first p fits (there p false e came))) (delivered-run world run k p is e)

    by : (o : Option Packet) → nth k run.packets ≡ o → IsWorldOf new (delivery run k o)
    by None e =
        let W : WorldState → Type 0 = λ w. IsWorldOf w run in
        subst W (sym (none (here ∙ ap (option_map (exported_packet run.delivered (0 + k))) e))) is
    by (Some p) e = comes p e (list_any (λ d. d == k) run.delivered) refl
