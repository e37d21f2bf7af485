use Rattle.std.proofs.Common.{◌≡◌, ℕ, ◌+◌, ◌<◌, nat_lt, true, false, cond, List, ◌∷◌, length, get_or, take, reverse, sym, ap, ◌∙◌, Option, None}
use Rattle.std.proofs.lemmas.{List.length-reverse, List.take_more, Bool.cond-false, Bool.cond-true, Bool.lt-ltb}
use Rattle.echo_addr.specs.declared.address.Address.{Address}
use Rattle.echo_nodelist.specs.{declared.keyword.Keyword.Keyword, declared.line.Line.Line, declared.line.Line.TheVariants.Entry, Line.begins_net, Line.is_hub, Back.address_back, Back.each_back, Back.lines_back, Back.nearest_hub}
use Rattle.echo_nodelist.proofs.LookingBack.{kept_at, length-each_back, reverse-push}

pub line_back : (lines : List Line) (m : ℕ) (line : Line) → m < length lines → line ≡ get_or lines m line
    → reverse (take (m + 1) lines) ≡ line ∷ reverse (take m lines)
line_back lines m line below is =
    ap reverse (take_more lines m line below)
    ∙ reverse-push (take m lines) (get_or lines m line)
    ∙ ap (λ l. l ∷ reverse (take m lines)) (sym is)

pub as_many : (lines : List Line) (addresses : List (Option Address)) → addresses ≡ each_back address_back (reverse lines) → length addresses ≡ length lines
as_many lines addresses kept = ap length kept ∙ length-each_back address_back (reverse lines) ∙ length-reverse lines

pub hub_found : (lines : List Line) (addresses : List (Option Address)) (m : ℕ) (line : Line) (k : Keyword) (n : ℕ) (fields : List (List ℕ)) → m < length lines
    → line ≡ get_or lines m line → line ≡ Entry k n fields → begins_net k ≡ false → is_hub k ≡ true → addresses ≡ each_back address_back (reverse lines)
    → get_or addresses m None ≡ nearest_hub (reverse (take (m + 1) lines))
hub_found lines addresses m line k n fields below is entry other hub kept =
    let earlier = reverse (take m lines) in
    let whole = Entry k n fields ∷ earlier in
    let back : reverse (take (m + 1) lines) ≡ whole = line_back lines m line below is ∙ ap (λ l. l ∷ earlier) entry in
    let nearest : nearest_hub whole ≡ address_back whole =
    cond-false (begins_net k) None (cond (is_hub k) (address_back whole) (nearest_hub earlier)) other
    ∙ cond-true (is_hub k) (address_back whole) (nearest_hub earlier) hub
    in
    kept_at address_back lines addresses m kept
    ∙ cond-true (nat_lt m (length lines)) (address_back (lines_back lines m)) None (lt-ltb m (length lines) below)
    ∙ ap address_back back ∙ sym nearest ∙ sym (ap nearest_hub back)
