-- The effect of several reads or writes in a row.
use Rattle.std.proofs.Common.{ℕ, ◌+◌, ◌≤◌, inl, inr, List, ◌++◌, Option, length, take, sym, subst, arith, length-append}
use Rattle.std.proofs.{lemmas.List.take-append-le, Math.Seq.take-append-add, KnownBytes.Appends-trans}
use Rattle.std.specs.Io.KnownBytes.{Appends}
use Rattle.disk_io.specs.Device.{Failed, SendsAll, SendsFront}

pub Failed-le : (before after : ℕ) → Failed before after → before ≤ after
Failed-le before after (inl rose) = omega arith
Failed-le before after (inr (full, same)) = omega arith

pub Failed-never : Failed 0 0 → ⊥
Failed-never (inl rose) = omega arith
Failed-never (inr (full, same)) = omega arith

pub SendsAll-then : (a b c : Option (List ℕ)) (xs ys : List ℕ) (s m t : ℕ) → SendsAll a b xs s m → SendsAll b c ys m t
    → SendsAll a c (xs ++ ys) s t
SendsAll-then a b c xs ys s m t first second =
    (Appends-trans a b c xs ys first.0 second.0, omega (arith, first.1, second.1, length-append xs ys))

pub SendsAll-front : (a b c : Option (List ℕ)) (xs ys : List ℕ) (s m t : ℕ) → SendsAll a b xs s m → SendsFront b c ys m t
    → SendsFront a c (xs ++ ys) s t
SendsAll-front a b c xs ys s m t first (n, short, went, count) = (
  length xs + n,
  omega (arith, length-append xs ys),
  subst (Appends a c) (sym (take-append-add xs ys n)) (Appends-trans a b c xs (take n ys) first.0 went),
  omega (arith, first.1, count),
)

pub SendsFront-more : (a b : Option (List ℕ)) (xs ys : List ℕ) (s m : ℕ) → SendsFront a b xs s m → SendsFront a b (xs ++ ys) s m
SendsFront-more a b xs ys s m (n, short, went, count) =
    let within : n ≤ length xs = omega arith in
    (n, omega (arith, length-append xs ys), subst (Appends a b) (sym (take-append-le n xs ys within)) went, count)
