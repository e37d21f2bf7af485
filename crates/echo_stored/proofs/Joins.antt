-- Bytes added in order.
use Rattle.std.proofs.Common.{◌≡◌, List, ◌++◌, ap, ◌∙◌, append_assoc}

pub joined : {X : Type 0} (old a b mid new : List X) → mid ≡ old ++ a → new ≡ mid ++ b → new ≡ old ++ (a ++ b)
joined old a b mid new first second = second ∙ ap (λ t. t ++ b) first ∙ append_assoc old a b
