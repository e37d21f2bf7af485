-- Messages that came the same way share their receivers and the lines of their copies.
use Rattle.std.proofs.Common.{◌≡◌, ℕ, Bool, ◌&&◌, not, true, false, true≢false, List, [], ◌∷◌, ◌++◌, map, refl, sym, ap, ◌∙◌, unwrap_or}
use Rattle.std.proofs.lemmas.{Bool.and_parts, List.Elements.recursion_from_All}
use Rattle.std.specs.{Prelude.◌↔◌, Prelude.IsTrue, Prelude.filter, Prelude.option_map, Cmp.Lexicographic.pointwise, List.list_any, List.flat_map}
use Rattle.echo_addr.specs.{declared.address.Address.Address, declared.address.NetNode.NetNode, Address.net_node_of, ShortLines.ShortLines, ShortLines.path_prefix, ShortLines.seen_prefix}
use Rattle.echo_text.specs.{Lines.area_word, Echo.EchoText, Echo.IsEcho, Echo.ended}
use Rattle.echo_text.proofs.Sets.{same, same_is}
use Rattle.echo_filed.specs.{Filed.Filed, Sets.address_set, Sets.entry_set, Sets.same_entry, Written.short_lines, Written.text_of}
use Rattle.echo_filed.proofs.Runs.{path_short, seen_short}
use Rattle.echo_addr.proofs.Runs.{one_spelling}
use Rattle.echo_links.specs.Links.{LinkFile, links_of, same_address}
use Rattle.model_steps.specs.Scanning.{exported, targets}
use Rattle.echo_steps.specs.{Exports.has_some, Ways.CameOn, Ways.IsWay, Ways.list_lines, declared.ways.Way.Way}

pub same_list : (xs ys : List NetNode) → pointwise same xs ys ≡ true → xs ≡ ys
same_list [] [] h = refl
same_list [] (y ∷ ys) h = absurd (true≢false (sym h))
same_list (x ∷ xs) [] h = absurd (true≢false (sym h))
same_list (x ∷ xs) (y ∷ ys) h =
    let p = and_parts (same x y) (pointwise same xs ys) h in
    let first = same_is x y p.0 in
    let later = same_list xs ys p.1 in
    λ i. first i ∷ later i

same_targets : (file : LinkFile) (m n : Filed) → m.sender ≡ n.sender → m.echo.tag ≡ n.echo.tag → m.echo.seen ≡ n.echo.seen → targets file m ≡ targets file n
unfolding targets
same_targets file m n sender tag seen =
    λ i. filter (λ link. not (unwrap_or (option_map (same_address link) (sender i)) false) && not (list_any (same_entry (net_node_of link)) (seen i))) (links_of file (tag i))

same_lines : (file : LinkFile) (e f : EchoText) → e.tag ≡ f.tag → e.seen ≡ f.seen → e.path ≡ f.path → list_lines (exported file e) ≡ list_lines (exported file f)
unfolding exported
same_lines file e f tag seen path =
    λ i.
    short_lines seen_prefix (entry_set (seen i ++ map net_node_of (file.system ∷ links_of file (tag i))))
    ++ short_lines path_prefix (path i ++ net_node_of file.system ∷ [])

pub way_made : (file : LinkFile) (way : Way) (m : Filed) → way.sender ≡ m.sender → way.tag ≡ m.echo.tag → way.seen ≡ m.echo.seen → way.path ≡ m.echo.path
    → has_some way.targets ≡ true → way.targets ≡ address_set (targets file m) → way.lines ≡ list_lines (exported file m.echo) → IsWay file way
way_made file way m sender tag seen path some receivers lines = record {
  some = some;
  receivers = λ n on. receivers ∙ ap address_set (same_targets file m n (sym sender ∙ on.sender) (sym tag ∙ on.tag) (sym seen ∙ on.seen));
  lines = λ n on. lines ∙ same_lines file m.echo n.echo (sym tag ∙ on.tag) (sym seen ∙ on.seen) (sym path ∙ on.path);
}

pub on_way : (file : LinkFile) (way : Way) (m : Filed) → IsWay file way → CameOn way m → has_some (address_set (targets file m)) ≡ true
on_way file way m is came = ap has_some (sym (is.receivers m came)) ∙ is.some

pub lines_are : (e : EchoText) (seen path : List ℕ) → IsEcho e → ShortLines seen_prefix e.seen seen → ShortLines path_prefix e.path path → seen ++ path ≡ list_lines e
lines_are e seen path is s p =
    let seen_is = one_spelling seen_prefix e.seen seen (short_lines seen_prefix e.seen) s (seen_short e.seen (recursion_from_All _ e.seen is.seen_entries)) in
    let path_is = one_spelling path_prefix e.path path (short_lines path_prefix e.path) p (path_short e.path (recursion_from_All _ e.path is.path_entries)) in
    λ i. seen_is i ++ path_is i

pub text_made : (file : LinkFile) (d e : EchoText) (lines text : List ℕ) → d ≡ e → lines ≡ list_lines (exported file e)
    → text ≡ ended (area_word ++ d.tag) ++ (flat_map ended d.kept ++ lines) → text ≡ text_of (exported file e)
unfolding exported text_of
text_made file d e lines text same l t = t ∙ (λ i. ended (area_word ++ (same i).tag) ++ (flat_map ended (same i).kept ++ l i))

pub has_receivers : (l : List Address) (r : Bool) → (IsTrue r ↔ (l ≡ [])) → r ≡ false → has_some l ≡ true
has_receivers [] r is untrue = absurd (true≢false (sym (is.1 refl) ∙ untrue))
has_receivers (a ∷ more) r is untrue = refl
