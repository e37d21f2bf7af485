use Rattle.std.proofs.Common.{ℕ, List, [], ◌∷◌, ◌++◌}
use Rattle.std.specs.List.{AllByRecursion}

pub weaker : (P Q : ℕ → Type 0) → ((b : ℕ) → P b → Q b) → (bs : List ℕ) → AllByRecursion P bs → AllByRecursion Q bs
weaker P Q f [] h = tt
weaker P Q f (b ∷ bs) h = (f b h.0, weaker P Q f bs h.1)

pub joined : (P : ℕ → Type 0) (s t : List ℕ) → AllByRecursion P s → AllByRecursion P t → AllByRecursion P (s ++ t)
joined P [] t hs ht = ht
joined P (b ∷ s) t hs ht = (hs.0, joined P s t hs.1 ht)

pub apart : {X : Type 0} (P : X → Type 0) (s t : List X) → AllByRecursion P (s ++ t) → AllByRecursion P s × AllByRecursion P t
apart P [] t h = (tt, h)
apart P (x ∷ s) t h = let rest = apart P s t h.1 in ((h.0, rest.0), rest.1)
