-- A header from its parts.
use Rattle.std.proofs.Common.{◌≡◌, Bool, ℕ, List, ◌++◌, length, Result, Ok, Err, OnOk, ap, ◌∙◌}
use Rattle.echo_filed.specs.Filed.{Filed}
use Rattle.echo_jam.specs.{Fields.body_of, Fields.fields_of, JamMessage.header_back, JamMessage.header_front, JamMessage.header_ids, JamMessage.header_of}

pub anyhow : {T E P : Type 0} (r : Result T E) → P → OnOk r P
anyhow (Ok x) p = p
anyhow (Err e) p = tt

pub header_is : (scanned : Bool) (m : Filed) (number place there size : ℕ) (fields : List ℕ) → place ≡ there → size ≡ length (body_of m) → fields ≡ fields_of m
    → header_front (length fields) ++ (header_ids m ++ (header_back scanned m number place size ++ fields)) ≡ header_of scanned m number there
header_is scanned m number place there size fields place_is size_is fields_are =
    ap (λ (n : ℕ). header_front (length fields) ++ (header_ids m ++ (header_back scanned m number n size ++ fields))) place_is
    ∙ ap (λ (n : ℕ). header_front (length fields) ++ (header_ids m ++ (header_back scanned m number there n ++ fields))) size_is
    ∙ ap (λ (f : List ℕ). header_front (length f) ++ (header_ids m ++ (header_back scanned m number there (length (body_of m)) ++ f))) fields_are
