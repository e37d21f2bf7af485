use Rattle.std.proofs.Common.{◌≡◌, ℕ, List, [], ◌∷◌, ◌++◌, sym, ap, subst, ◌∙◌, arith}
use Rattle.std.proofs.lemmas.List.{append_assoc}
use Rattle.std.specs.List.{flat_map}
use Rattle.echo_addr.specs.{declared.address.NetNode.NetNode, ShortLines.ShortLines, ShortLines.path_prefix, ShortLines.seen_prefix}
use Rattle.echo_text.specs.{Lines.area_word, Echo.EchoText, Echo.TextOf, Echo.ended}

regrouped : (a b k s p : List ℕ) → (((a ++ b) ++ k) ++ s) ++ p ≡ (a ++ b) ++ (k ++ (s ++ p))
regrouped a b k s p =
    append_assoc ((a ++ b) ++ k) s p ∙ append_assoc (a ++ b) k (s ++ p)

pub text_of_parts : (e : EchoText) (tag : List ℕ) (kept : List (List ℕ)) (seen path : List NetNode) (t₀ t₁ t₂ t₃ t₄ t₅ s p : List ℕ)
    → t₀ ≡ [] → t₁ ≡ t₀ ++ area_word → t₂ ≡ t₁ ++ ended tag → t₃ ≡ t₂ ++ flat_map ended kept → t₄ ≡ t₃ ++ s → t₅ ≡ t₄ ++ p
    → ShortLines seen_prefix seen s → ShortLines path_prefix path p → record { tag = tag; kept = kept; seen = seen; path = path } ≡ e → TextOf e t₅
text_of_parts e tag kept seen path t₀ t₁ t₂ t₃ t₄ t₅ s p e₀ e₁ e₂ e₃ e₄ e₅ seen_is path_is is =
    let whole : t₅ ≡ ended (area_word ++ tag) ++ (flat_map ended kept ++ (s ++ p)) =
    e₅ ∙ ap (λ t. t ++ p) (e₄ ∙ ap (λ t. t ++ s) (e₃ ∙ ap (λ t. t ++ flat_map ended kept) (e₂ ∙ ap (λ t. t ++ ended tag) (e₁ ∙ ap (λ t. t ++ area_word) e₀))))
    ∙ regrouped area_word (ended tag) (flat_map ended kept) s p
    ∙ ap (λ t. t ++ (flat_map ended kept ++ (s ++ p))) (sym (append_assoc area_word tag (13 ∷ [])))
    in
    let P : EchoText → Type 0 = λ said. TextOf said t₅ in
    subst P is (record { seen_lines = s; path_lines = p; seen = seen_is; path = path_is; whole = whole })

pub same_parts : (tag tag' : List ℕ) (kept kept' : List (List ℕ)) (seen seen' path path' : List NetNode)
    → tag ≡ tag' → kept ≡ kept' → seen ≡ seen' → path ≡ path'
    → let one : EchoText = record { tag = tag; kept = kept; seen = seen; path = path } in
    let other : EchoText = record { tag = tag'; kept = kept'; seen = seen'; path = path' } in one ≡ other
same_parts tag tag' kept kept' seen seen' path path' t k s p = grind arith
