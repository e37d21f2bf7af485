use Rattle.std.proofs.Common.{◌≡◌, ℕ, ◌<◌, ◌≤◌, false, List, [], ◌∷◌, length, refl, ap, ◌∙◌, arith, Option, Some}
use Rattle.std.proofs.lemmas.{Bool.and_parts, Bool.cond-false, Bool.false_from_ne_true, Bool.leb-true, List.length-map}
use Rattle.std.specs.{Prelude.bytes_eq, Prelude.find, Prelude.is_some, Prelude.◌&&◌, Prelude.nat_le, Prelude.nat_lt, Cmp.Lexicographic.bytes_decides, List.AllByRecursion, List.list_all, Char.to_ascii_uppercase}
use Rattle.echo_text.specs.Lines.{is_tag_byte}
use Rattle.echo_links.specs.Links.{Area, IsArea, IsFile, LinkFile, has_area, upper}

no_long_area : (areas : List Area) (tag : List ℕ) → AllByRecursion IsArea areas → 60 < length tag → is_some (find (λ area. bytes_eq area.tag tag) areas) ≡ false
no_long_area [] tag all long = refl
no_long_area (area ∷ areas) tag all long =
    let other : bytes_eq area.tag tag ≡ false =
    false_from_ne_true (bytes_eq area.tag tag) (λ same.
    let size : length area.tag ≡ length tag = ap length ((bytes_decides area.tag tag).0 same) in
    let parts = and_parts (nat_lt 0 (length area.tag) && nat_le (length area.tag) 60) (list_all is_tag_byte area.tag) all.0.tag_bytes in
    let room : length area.tag ≤ 60 = leb-true (length area.tag) 60 (and_parts (nat_lt 0 (length area.tag)) (nat_le (length area.tag) 60) parts.0).1 in
    omega arith)
    in
    ap (λ (o : Option Area). is_some o) (cond-false (bytes_eq area.tag tag) (Some area) (find (λ a. bytes_eq a.tag tag) areas) other) ∙ no_long_area areas tag all.1 long

pub no_long_tag : (file : LinkFile) → IsFile file → (tag : List ℕ) → 60 < length tag → has_area file (upper tag) ≡ false
no_long_tag file is tag long = no_long_area file.areas (upper tag) is.each_area (omega (arith, length-map tag to_ascii_uppercase))
