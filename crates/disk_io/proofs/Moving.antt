-- The bytes that a loop over a source or a sink moved.
use Rattle.std.proofs.Common.{◌≡◌, ℕ, ◌+◌, ◌≤◌, List, ◌++◌, Option, length, take, drop, sym, ap, ◌∙◌, subst}
use Rattle.std.proofs.{Math.Seq.take-add, KnownBytes.Appends-trans, KnownBytes.Consumes-trans}
use Rattle.std.specs.Io.KnownBytes.{Appends, Consumes}
use Rattle.disk_io.specs.Device.{counted}

pub record HasFilled (before after : Option (List ℕ)) (buf : List ℕ) (n failures_before failures_after : ℕ) : Type 0 where
  pub within : n ≤ length buf
  pub took : Consumes before after (take n buf)
  pub failed : failures_after ≡ failures_before

pub record HasSent (before after : Option (List ℕ)) (bytes : List ℕ) (n count_before count_after failures_before failures_after : ℕ) : Type 0 where
  pub within : n ≤ length bytes
  pub gave : Appends before after (take n bytes)
  pub count : count_after ≡ counted (count_before + n)
  pub failed : failures_after ≡ failures_before

pub Consumes-more_of : (a b c : Option (List ℕ)) (old new : List ℕ) (n k : ℕ) → take n new ≡ take n old
    → Consumes a b (take n old) → Consumes b c (take k (drop n new)) → Consumes a c (take (n + k) new)
Consumes-more_of a b c old new n k same first second =
    subst (Consumes a c) (ap (λ l. l ++ take k (drop n new)) (sym same) ∙ sym (take-add n k new)) (Consumes-trans a b c _ _ first second)

pub Appends-more_of : (a b c : Option (List ℕ)) (bytes : List ℕ) (n k : ℕ)
    → Appends a b (take n bytes) → Appends b c (take k (drop n bytes)) → Appends a c (take (n + k) bytes)
Appends-more_of a b c bytes n k first second =
    subst (Appends a c) (sym (take-add n k bytes)) (Appends-trans a b c _ _ first second)
