-- The lines of some items are passed on, one by one.
use Rattle.std.proofs.Common.{◌≡◌, ℕ, ◌+◌, ◌<◌, List, [], ◌∷◌, ◌++◌, length, take, drop, get_or, Option, Result, Ok, Err, sym, ap, subst, ◌∙◌, append_assoc, append-nil}
use Rattle.std.{proofs.lemmas.{Grind.flat_map-append, List.{take-append-drop, take_more}}, specs.{List.flat_map, Result.OnErr}}
use Rattle.cmd_status.{specs.Lines.{PassesOn, WritesFront}, proofs.Lines.{begun_more, front_more, passed_more}}

pub at_error : {T E P : Type 0} (r : Result T E) → P → OnErr r P
at_error (Ok x) p = tt
at_error (Err e) p = p

module _ {X : Type 0} (f : X → List ℕ) where
  next_text : (xs : List X) (i : ℕ) (d : X) → i < length xs → flat_map f (take i xs) ++ f (get_or xs i d) ≡ flat_map f (take (i + 1) xs)
  next_text xs i d within =
      sym (ap (flat_map f) (take_more xs i d within) ∙ flat_map-append f (take i xs) (get_or xs i d ∷ []) ∙ ap (λ l. flat_map f (take i xs) ++ l) (append-nil (f (get_or xs i d))))

  pub passed_next : (a b c : Option (List ℕ)) (kept mid left : List ℕ) (xs : List X) (i : ℕ) (d : X) → i < length xs
      → PassesOn (kept ++ flat_map f (take i xs)) mid a b → PassesOn (mid ++ f (get_or xs i d)) left b c → PassesOn (kept ++ flat_map f (take (i + 1) xs)) left a c
  passed_next a b c kept mid left xs i d within before more =
      subst (λ t. PassesOn (kept ++ t) left a c) (next_text xs i d within) (passed_more a b c kept (flat_map f (take i xs)) mid (f (get_or xs i d)) left before more)

  pub begun_next : (a b c : Option (List ℕ)) (kept mid : List ℕ) (xs : List X) (i : ℕ) (d : X) → i < length xs
      → PassesOn (kept ++ flat_map f (take i xs)) mid a b → WritesFront (mid ++ f (get_or xs i d)) b c → WritesFront (kept ++ flat_map f xs) a c
  begun_next a b c kept mid xs i d within before more =
      let rest = flat_map f (drop (i + 1) xs) in
      let begun = subst (λ t. WritesFront (kept ++ t) a c) (next_text xs i d within) (begun_more a b c kept (flat_map f (take i xs)) mid (f (get_or xs i d)) before more) in
      subst (λ t. WritesFront t a c)
      (append_assoc kept (flat_map f (take (i + 1) xs)) rest
      ∙ ap (λ t. kept ++ t) (sym (flat_map-append f (take (i + 1) xs) (drop (i + 1) xs)) ∙ ap (flat_map f) (take-append-drop (i + 1) xs)))
      (front_more a c (kept ++ flat_map f (take (i + 1) xs)) rest begun)
