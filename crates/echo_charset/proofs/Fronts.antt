-- One byte more of a word.
use Rattle.std.{proofs.Common.{◌≡◌, refl, sym, ap, ◌∙◌, ℕ, ◌+◌, add-one, List, ◌++◌, append_assoc}, specs.Prelude.{Bool, true, false, ◌&&◌}}
use Rattle.echo_charset.specs.Words.{are_shown, is_shown, spelled, spelled_at}

are-more : (word : List ℕ) (i : ℕ) → are_shown word (i + 1) ≡ (are_shown word i && is_shown word i)
are-more word i = rw add-one refl

pub shown-more : (word : List ℕ) (i : ℕ) (all now : Bool) → all ≡ are_shown word i → all ≡ true → now ≡ is_shown word i → now ≡ are_shown word (i + 1)
shown-more word i all now before so is = is ∙ sym (are-more word i ∙ ap (λ b. b && is_shown word i) (sym before ∙ so))

pub hidden-more : (word : List ℕ) (i : ℕ) (all now : Bool) → all ≡ are_shown word i → all ≡ false → now ≡ all → now ≡ are_shown word (i + 1)
hidden-more word i all now before none is = is ∙ none ∙ sym (are-more word i ∙ ap (λ b. b && is_shown word i) (sym before ∙ none))

pub spelled-more : (word : List ℕ) (i : ℕ) (begun text more : List ℕ) → text ≡ begun ++ spelled word i → more ≡ text ++ spelled_at word i → more ≡ begun ++ spelled word (i + 1)
spelled-more word i begun text more before is =
    let step : spelled word (i + 1) ≡ spelled word i ++ spelled_at word i = rw add-one refl in
    is ∙ ap (λ (t : List ℕ). t ++ spelled_at word i) before ∙ append_assoc begun (spelled word i) (spelled_at word i) ∙ ap (λ (t : List ℕ). begun ++ t) (sym step)
