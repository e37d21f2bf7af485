-- The packets of a world and those of the run.
use Rattle.std.proofs.Common.{◌≡◌, ◌≢◌, ℕ, zero, suc, ◌+◌, ◌<◌, ◌≤◌, ◌==◌, not, Bool, true, false, cond, List, [], ◌∷◌, ◌++◌, length, map, refl, sym, ap, ◌∙◌, Some, None, arith, inl, inr}
use Rattle.std.proofs.lemmas.{Bool.cases_Bool, Bool.cond-false, Bool.cond-true, Bool.eq-eqb, Bool.ne_eqb, Bool.or_from, List.Sums.sum_by-cons}
use Rattle.std.specs.{Prelude.slice_get, Prelude.option_map, Prelude.count_by, List.list_any}
use Rattle.model_graph.specs.Walk.{Among}
use Rattle.model_steps.specs.declared.packet.Packet.{Packet}
use Rattle.model_run.specs.{Run.change, Run.destination, Run.nth, Run.with_index, World.missing}
use Rattle.echo_net.specs.Worlds.{Exported, arrived, encoded, exported_packet, exported_from, made}

pub nth-slice_get : {X : Type 0} (i : ℕ) (xs : List X) → slice_get xs i ≡ nth i xs
nth-slice_get i [] = refl
nth-slice_get zero (x ∷ xs) = refl
nth-slice_get (suc i) (x ∷ xs) = nth-slice_get i xs

pub nth-map : {X Y : Type 0} (f : X → Y) (i : ℕ) (xs : List X) → nth i (map f xs) ≡ option_map f (nth i xs)
nth-map f i [] = refl
nth-map f zero (x ∷ xs) = refl
nth-map f (suc i) (x ∷ xs) = nth-map f i xs

pub exported-length : (delivered : List ℕ) (k : ℕ) (ps : List Packet) → length (exported_from delivered k ps) ≡ length ps
exported-length delivered k [] = refl
exported-length delivered k (p ∷ ps) = ap suc (exported-length delivered (k + 1) ps)

pub exported-bytes : (delivered : List ℕ) (k i : ℕ) (ps : List Packet) → option_map (λ e. e.bytes) (nth i (exported_from delivered k ps)) ≡ option_map encoded (nth i ps)
exported-bytes delivered k i [] = refl
exported-bytes delivered k zero (p ∷ ps) = refl
exported-bytes delivered k (suc i) (p ∷ ps) = exported-bytes delivered (k + 1) i ps

pub exported-to : (delivered : List ℕ) (k i : ℕ) (ps : List Packet) → option_map (λ e. e.to) (nth i (exported_from delivered k ps)) ≡ option_map destination (nth i ps)
exported-to delivered k i [] = refl
exported-to delivered k zero (p ∷ ps) = refl
exported-to delivered k (suc i) (p ∷ ps) = exported-to delivered (k + 1) i ps

turned : (b : Bool) → ◌≡◌ {A = ℕ} (cond (not b) 1 0) (cond b 0 1)
turned true = refl
turned false = refl

pub exported-missing : (delivered : List ℕ) (k : ℕ) (ps : List Packet) → count_by (λ e. not e.came) (exported_from delivered k ps) ≡ missing delivered k ps
exported-missing delivered k [] = refl
exported-missing delivered k (p ∷ ps) =
    let came = list_any (λ d. d == k) delivered in
    sum_by-cons (λ (e : Exported). cond (not e.came) 1 0) (exported_packet delivered k p) (exported_from delivered (k + 1) ps)
    ∙ ap (λ (n : ℕ). n + count_by (λ e. not e.came) (exported_from delivered (k + 1) ps)) (turned came)
    ∙ ap (λ (n : ℕ). cond came 0 1 + n) (exported-missing delivered (k + 1) ps)

pub exported-append : (delivered : List ℕ) (k : ℕ) (ps qs : List Packet) → exported_from delivered k (ps ++ qs) ≡ exported_from delivered k ps ++ exported_from delivered (k + length ps) qs
exported-append delivered k [] qs = let e : k ≡ k + 0 = omega arith in ap (λ (n : ℕ). exported_from delivered n qs) e
exported-append delivered k (p ∷ ps) qs =
    let e : (k + 1) + length ps ≡ k + suc (length ps) = omega arith in
    ap (λ (es : List Exported). exported_packet delivered k p ∷ es)
    (exported-append delivered (k + 1) ps qs ∙ ap (λ (n : ℕ). exported_from delivered (k + 1) ps ++ exported_from delivered n qs) e)

pub none_past : (delivered : List ℕ) (k : ℕ) → ((d : ℕ) → Among d delivered → d < k) → list_any (λ d. d == k) delivered ≡ false
none_past [] k below = refl
none_past (d ∷ later) k below =
    let less = below d (inl refl) in
    let other : d ≢ k = λ e. omega (arith, e, less) in
    or_from (d == k) (list_any (λ x. x == k) later) (ne_eqb d k other) (none_past later k (λ x among. below x (inr among)))

pub exported-made : (delivered : List ℕ) (k : ℕ) (qs : List Packet) → ((d : ℕ) → Among d delivered → d < k) → exported_from delivered k qs ≡ map made qs
exported-made delivered k [] below = refl
exported-made delivered k (q ∷ qs) below =
    let none = none_past delivered k below in
    (λ i. record { bytes = encoded q; to = destination q; came = none i } ∷ exported_from delivered (k + 1) qs)
    ∙ ap (λ (es : List Exported). made q ∷ es) (exported-made delivered (k + 1) qs (λ d among. let h = below d among in omega arith))

there_once : (n : ℕ) (delivered : List ℕ) → list_any (λ d. d == n) (with_index n delivered) ≡ true
there_once n delivered = grind (arith, cases_Bool, cond-true, cond-false, eq-eqb)

others_stay : (n k : ℕ) (delivered : List ℕ) → n ≢ k → list_any (λ d. d == k) (with_index n delivered) ≡ list_any (λ d. d == k) delivered
others_stay n k delivered other = grind (arith, cases_Bool, cond-true, cond-false, ne_eqb)

later_stay : (n k : ℕ) (delivered : List ℕ) (ps : List Packet) → n < k → exported_from (with_index n delivered) k ps ≡ exported_from delivered k ps
later_stay n k delivered [] less = refl
later_stay n k delivered (p ∷ ps) less =
    let other : n ≢ k = λ e. omega (arith, e, less) in
    let same = others_stay n k delivered other in
    let rest = later_stay n (k + 1) delivered ps (omega arith) in
    λ i. record { bytes = encoded p; to = destination p; came = same i } ∷ rest i

pub exported-came : (delivered : List ℕ) (k i n : ℕ) (ps : List Packet) → n ≡ k + i → i < length ps
    → change i arrived (exported_from delivered k ps) ≡ exported_from (with_index n delivered) k ps
exported-came delivered k i n [] at within = absurd (omega arith)
exported-came delivered k zero n (p ∷ ps) at within =
    let here : n ≡ k = omega (arith, at) in
    let once : true ≡ list_any (λ x. x == k) (with_index n delivered) = sym (ap (λ (x : ℕ). list_any (λ y. y == k) (with_index x delivered)) here ∙ there_once k delivered) in
    let rest = sym (later_stay n (k + 1) delivered ps (omega (arith, here))) in
    λ j. record { bytes = encoded p; to = destination p; came = once j } ∷ rest j
exported-came delivered k (suc i) n (p ∷ ps) at within =
    let other : n ≢ k = λ h. omega (arith, h, at) in
    let same = sym (others_stay n k delivered other) in
    let rest = exported-came delivered (k + 1) i n ps (omega (arith, at)) (omega arith) in
    λ j. record { bytes = encoded p; to = destination p; came = same j } ∷ rest j

pub below-with : (delivered : List ℕ) (n most : ℕ) → ((k : ℕ) → Among k delivered → k < most) → n < most → (k : ℕ) → Among k (with_index n delivered) → k < most
below-with delivered n most below less k among = grind (arith, cases_Bool, cond-true, cond-false)

pub exported-nth : (delivered : List ℕ) (k i : ℕ) (ps : List Packet) → nth i (exported_from delivered k ps) ≡ option_map (exported_packet delivered (k + i)) (nth i ps)
exported-nth delivered k i [] = refl
exported-nth delivered k zero (p ∷ ps) = let e : k ≡ k + zero = omega arith in λ j. Some (exported_packet delivered (e j) p)
exported-nth delivered k (suc i) (p ∷ ps) =
    let e : (k + 1) + i ≡ k + suc i = omega arith in
    exported-nth delivered (k + 1) i ps ∙ λ j. option_map (exported_packet delivered (e j)) (nth i ps)

pub nth-past : {X : Type 0} (i : ℕ) (xs : List X) → length xs ≤ i → nth i xs ≡ None
nth-past i [] h = refl
nth-past zero (x ∷ xs) h = absurd (omega arith)
nth-past (suc i) (x ∷ xs) h = nth-past i xs (omega arith)

pub within-nth : {X : Type 0} (i : ℕ) (xs : List X) (x : X) → nth i xs ≡ Some x → i < length xs
within-nth i [] x h = absurd (cc)
within-nth zero (y ∷ xs) x h = omega arith
within-nth (suc i) (y ∷ xs) x h = let less = within-nth i xs x h in omega arith
