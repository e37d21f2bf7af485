-- The system that a link file and a base file make.
use Rattle.std.proofs.{Common.{◌≡◌, ℕ, List, length, take, Option, Some, None, Ok, refl, sym, ap, subst, ◌∙◌, arith}, lemmas.List.{length-append, take_at}}
use Rattle.echo_filed.specs.Filed.{Filed}
use Rattle.base_file.specs.{BaseFile.BaseOf, BaseFile.LoadOf, Loading.TakesBase}

pub took_base : (bytes : List ℕ) (after : Option (List ℕ)) (messages : List Filed) (cursor : ℕ) → TakesBase messages cursor (Some bytes) after
    → (size : ℕ) × LoadOf bytes (Ok (messages, cursor, size))
took_base bytes None messages cursor took = absurd took.1
took_base bytes (Some rest) messages cursor took =
    let came = took.0 in
    let front : take (length came) bytes ≡ came = ap (take (length came)) took.1 ∙ take_at came rest (length came) refl in
    (length came, (omega (arith, ap length took.1, length-append came rest), subst (BaseOf messages cursor) (sym front) took.2))
