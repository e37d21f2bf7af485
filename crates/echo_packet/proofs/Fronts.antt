use Rattle.std.proofs.Common.{◌≡◌, ℕ, List, Option, length, sym, ◌∙◌, subst, arith}
use Rattle.std.proofs.lemmas.List.{take_all}
use Rattle.std.specs.Io.KnownBytes.{Consumes}
use Rattle.echo_packet.specs.Header.{AreBytes, number_at, header_bytes, header_of}
use Rattle.echo_packet.proofs.Headers.{header_bytes-header_of}

pub front-taken : (a b : Option (List ℕ)) (t : List ℕ) → AreBytes t → length t ≡ 58 → number_at 18 t ≡ 2 → Consumes a b t
    → Consumes a b (header_bytes (header_of t))
front-taken a b t bytes size type took =
    subst (Consumes a b) (sym (header_bytes-header_of t bytes (omega arith) type ∙ take_all 58 t (omega arith))) took
