-- Facts about a line that depend on the lines before it.
use Rattle.std.{specs.Prelude.MatchOption, proofs.{Math.ListN.get_or-eq_default, lemmas.Bool.{cases_lt, cond_both, ltb-false, ltb-true}}}
use Rattle.std.proofs.Common.{◌≡◌, ◌≢◌, ℕ, ◌+◌, ◌<◌, ◌≤◌, nat_lt, ◌-◌, List, [], ◌∷◌, ◌++◌, length, get_or, take, reverse, cond, refl, sym, ap, ◌∙◌, arith, Option, Some, None, Ok, Err, inl, inr}
use Rattle.std.proofs.lemmas.List.{get_or-append_right, get_or_append_left, length-append, length-reverse, reverse-append, reverse-reverse, take-append-le, take_all}
use Rattle.echo_addr.specs.declared.address.Address.{Address}
use Rattle.echo_nodelist.specs.{Back.Finds, Back.address_back, Back.each_back, Back.lines_back, Back.zone_back, Nodelist.in_zone, Nodelist.placed, Place.Follows, Place.IsLocated, Place.IsPlaceAfter, Place.Locates, declared.place.ZoneNet.ZoneNet, declared.place.Located.Located, declared.keyword.Keyword.Keyword, declared.line.Line.Line, declared.line.Line.TheVariants.Entry, declared.fault.NodeFault.TheVariants.NoZone}

pub tell_none : (at : ℕ) (earlier : List Line) (k : Keyword) (n : ℕ) (fields : List (List ℕ)) (line : Line) → line ≡ Entry k n fields
    → zone_back (Entry k n fields ∷ earlier) ≡ None → placed at earlier (Ok line) ≡ Err (NoZone at)
tell_none at earlier k n fields line is none = ap (λ l. placed at earlier (Ok l)) is ∙ ap (λ z. in_zone at z (Entry k n fields)) none

pub tell_some : (at : ℕ) (earlier : List Line) (k : Keyword) (n : ℕ) (fields : List (List ℕ)) (line : Line) (here : ZoneNet) (address : Address)
    → line ≡ Entry k n fields → IsPlaceAfter (Entry k n fields ∷ earlier) (Some here) → address_back (Entry k n fields ∷ earlier) ≡ Some address
    → Locates at earlier line (Ok (record { address = Some address; place = Some here }))
tell_some at earlier k n fields line here address is stands address_is = grind arith

pub reverse-push : {A : Type 0} (xs : List A) (x : A) → reverse (xs ++ x ∷ []) ≡ x ∷ reverse xs
reverse-push xs x = reverse-append xs (x ∷ [])

pub follows_more : (lines : List Line) (addresses : List (Option Address)) (place : Option ZoneNet) (line : Line) (located : Located)
    → Follows lines addresses place → IsLocated (reverse lines) line located → Follows (lines ++ line ∷ []) (addresses ++ located.address ∷ []) located.place
follows_more lines addresses place line located before now = grind (arith, reverse-push)

-- ---- the entry of the line at an index

pub length-each_back : (f : List Line → Option Address) (lines : List Line) → length (each_back f lines) ≡ length lines
length-each_back f [] = refl
length-each_back f (line ∷ earlier) = omega (arith, length-append (each_back f earlier) (f (line ∷ earlier) ∷ []), length-each_back f earlier)

reverse-cons : {A : Type 0} (x : A) (xs : List A) → reverse (x ∷ xs) ≡ reverse xs ++ x ∷ []
reverse-cons x xs = reverse-append (x ∷ []) xs

each_back_at : (f : List Line → Option Address) (lines : List Line) (i : ℕ) → i < length lines
    → get_or (each_back f lines) i None ≡ f (reverse (take (i + 1) (reverse lines)))
each_back_at f [] i below = absurd (omega arith)
each_back_at f (line ∷ earlier) i below = elim (cases_lt i (length earlier)) [
  | inl low ↦
      let before : i < length (each_back f earlier) = omega (arith, length-each_back f earlier) in
      let within : i + 1 ≤ length (reverse earlier) = omega (arith, length-reverse earlier) in
      get_or_append_left (each_back f earlier) (f (line ∷ earlier) ∷ []) None i before
      ∙ each_back_at f earlier i low
      ∙ ap (λ ls. f (reverse ls)) (sym (ap (take (i + 1)) (reverse-cons line earlier) ∙ take-append-le (i + 1) (reverse earlier) (line ∷ []) within))
  | inr high ↦
      let last : i ≡ length earlier = omega arith in
      let none : i - length earlier ≡ 0 = omega arith in
      get_or-append_right (each_back f earlier) (f (line ∷ earlier) ∷ []) (length earlier) i None (length-each_back f earlier) high
      ∙ ap (λ j. get_or (f (line ∷ earlier) ∷ []) j None) none
      ∙ ap f (sym (ap reverse (take_all (i + 1) (reverse (line ∷ earlier)) (omega (arith, length-reverse (line ∷ earlier)))) ∙ reverse-reverse (line ∷ earlier)))
]

pub kept_at : (f : List Line → Option Address) (lines : List Line) (kept : List (Option Address)) (i : ℕ) → kept ≡ each_back f (reverse lines)
    → get_or kept i None ≡ cond (nat_lt i (length lines)) (f (lines_back lines i)) None
kept_at f lines kept i is = grind (arith, cond_both, nat_lt, get_or, each_back_at, length-reverse, ltb-true, reverse-reverse, get_or-eq_default, length-each_back, ltb-false)

pub finds_first : (lines : List Line) (addresses : List (Option Address)) (wanted : Address) (found : Option ℕ) → addresses ≡ each_back address_back (reverse lines)
    → MatchOption found
    ((i : ℕ) → get_or addresses i None ≢ Some wanted)
    (λ i. (get_or addresses i None ≡ Some wanted) × ((j : ℕ) → j < i → get_or addresses j None ≢ Some wanted))
    → Finds lines wanted found
finds_first lines addresses wanted None is none = λ i here. none i (kept_at address_back lines addresses i is ∙ here)
finds_first lines addresses wanted (Some i) is some = record {
  here = sym (kept_at address_back lines addresses i is) ∙ some.0;
  before = λ j below here. some.1 j below (kept_at address_back lines addresses j is ∙ here);
}
