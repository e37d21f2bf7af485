-- A world reads as its run does.
use Rattle.std.proofs.Common.{◌≡◌, ℕ, zero, suc, cond, arith, ◌+◌, ◌<◌, ◌==◌, ◌&&◌, not, Bool, false, List, [], ◌∷◌, length, drop, sym, ap, ◌∙◌}
use Rattle.std.proofs.lemmas.List.{length-map, Sums.sum_by-cons, Folds.list_all-map}
use Rattle.echo_filed.specs.Filed.{Filed}
use Rattle.std.specs.{Prelude.bytes_eq, Prelude.count_by, Prelude.nat_le, Prelude.option_map, Prelude.slice_get, Prelude.unwrap_or, List.list_all}
use Rattle.model_steps.specs.SystemState.{SystemState}
use Rattle.model_run.specs.{Run.Run, Run.destination, Run.nth, World.area_count, World.is_settled, World.undelivered}
use Rattle.echo_net.specs.Worlds.{Exported, IsWorldOf, WorldState, encoded, state_of}
use Rattle.echo_net.proofs.Exports.{exported-bytes, exported-length, exported-missing, exported-to, nth-slice_get}

pub missing-is : (world : WorldState) (run : Run) → IsWorldOf world run → count_by (λ e. not e.came) world.packets ≡ undelivered run
missing-is world run is = ap (λ (es : List Exported). count_by (λ e. not e.came) es) is.packets ∙ exported-missing run.delivered 0 run.packets

pub scanned-is : (world : WorldState) (run : Run) → IsWorldOf world run
    → list_all (λ s. nat_le (length s.base) s.cursor) world.systems ≡ list_all (λ s. nat_le (length s.base) s.cursor) run.systems
scanned-is world run is = grind (arith, list_all-map)

pub settled-is : (world : WorldState) (run : Run) → IsWorldOf world run
    → list_all (λ s. nat_le (length s.base) s.cursor) world.systems && (count_by (λ e. not e.came) world.packets == 0) ≡ is_settled run
settled-is world run is =
    let a = scanned-is world run is in
    let b = missing-is world run is in
    λ i. a i && (b i == 0)

pub bytes-are : (world : WorldState) (run : Run) → IsWorldOf world run → (k : ℕ) → option_map (λ e. e.bytes) (slice_get world.packets k) ≡ option_map encoded (nth k run.packets)
bytes-are world run is k = grind (arith, nth-slice_get, exported-bytes)

pub destinations-are : (world : WorldState) (run : Run) → IsWorldOf world run → (k : ℕ) → option_map (λ e. e.to) (slice_get world.packets k) ≡ option_map destination (nth k run.packets)
destinations-are world run is k = grind (arith, nth-slice_get, exported-to)

pub system_count : (world : WorldState) (run : Run) → IsWorldOf world run → length world.systems ≡ length run.systems
system_count world run is = ap (λ (ss : List SystemState). length ss) is.systems ∙ length-map run.systems state_of

pub packet_count : (world : WorldState) (run : Run) → IsWorldOf world run → length world.packets ≡ length run.packets
packet_count world run is = ap (λ (es : List Exported). length es) is.packets ∙ exported-length run.delivered 0 run.packets

abbrev pub is_of : List ℕ → List Filed → ℕ → Bool
is_of tag base i = unwrap_or (option_map (λ m. bytes_eq m.echo.tag tag) (slice_get base i)) false

counted : (tag : List ℕ) (base : List Filed) (i : ℕ) → i < length base
    → cond (is_of tag base i) 1 0 + area_count tag (drop (suc i) base) ≡ area_count tag (drop i base)
counted tag [] i h = absurd (omega arith)
counted tag (m ∷ ms) zero h = sym (sum_by-cons (λ (x : Filed). cond (bytes_eq x.echo.tag tag) 1 0) m ms)
counted tag (m ∷ ms) (suc i) h = counted tag ms i (omega arith)

pub count-step : (tag : List ℕ) (base : List Filed) (i n : ℕ) (b : Bool) → i < length base → n ≡ i + 1 → b ≡ is_of tag base i
    → cond b 1 0 + area_count tag (drop n base) ≡ area_count tag (drop i base)
count-step tag base i n b h e is =
    let next : n ≡ suc i = omega (arith, e) in
    (λ j. cond (is j) 1 0 + area_count tag (drop (next j) base)) ∙ counted tag base i h
