use Rattle.std.proofs.Common.{◌≡◌, ℕ, ◌+◌, ◌-◌, ◌≤◌, List, ◌++◌, length, take, drop, replicate, take_all, Option, ap, ◌∙◌, arith, length-append, length-drop}
use Rattle.std.proofs.{lemmas.List.length-replicate, lemmas.List.length-take, Math.Seq.take-add, Math.Seq.take-append_seam}
use Rattle.disk_io.specs.Device.{FillsTo}
use Rattle.disk_system.specs.Input.{ReadsOn}

pub made_room : (size count : ℕ) (old new : List ℕ) → count ≡ length old → size ≡ count + 65536 → new ≡ take size old ++ replicate (size - count) 0
    → new ≡ old ++ replicate 65536 0
made_room size count old new whole grown is =
    let above : length old ≤ size = omega (arith, whole, grown) in
    let room : size - count ≡ 65536 = omega (arith, grown) in
    is ∙ ap (λ t. t ++ replicate (size - count) 0) (take_all size old above) ∙ ap (λ k. old ++ replicate k 0) room

pub piece_read : (a b : Option (List ℕ)) (old room after new : List ℕ) (start n : ℕ) → start ≡ length old → room ≡ old ++ replicate 65536 0
    → take start after ≡ take start room → length after ≡ length room → start + n ≤ length after → FillsTo a b (drop start after) n
    → new ≡ take (start + n) after → ReadsOn a b old new n 65536
piece_read a b old room after new start n begun made front same within filled is =
    let size : length (drop start after) ≡ 65536 =
    omega (arith, begun, ap length made, length-append old (replicate 65536 0), length-replicate {A = ℕ} 65536 0, same, length-drop start after) in
    record {
      came = take n (drop start after);
      whole = is ∙ take-add start n after
          ∙ ap (λ t. t ++ take n (drop start after)) (front ∙ ap (take start) made ∙ ap (λ k. take k (old ++ replicate 65536 0)) begun ∙ take-append_seam old (replicate 65536 0));
      number = omega (arith, size, within, length-take n (drop start after), length-drop start after);
      took = filled.0;
      short = λ few. filled.1 (omega (arith, size, few));
    }
