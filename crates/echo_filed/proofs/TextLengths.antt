-- How many bytes a written text has at most.
use Rattle.std.proofs.Common.{◌≡◌, ℕ, ◌+◌, ◌*◌, ◌≤◌, nat_le, nat_lt, true, List, [], ◌∷◌, ◌++◌, length, None, ap, arith}
use Rattle.std.proofs.lemmas.{Bool.and_parts, Bool.leb-true, List.length-append}
use Rattle.std.specs.List.{flat_map}
use Rattle.echo_addr.specs.{declared.address.NetNode.NetNode, ShortLines.AreRuns, ShortLines.ShortLines, ShortLines.entries_text, ShortLines.line_of}
use Rattle.echo_text.specs.{Lines.area_word, Lines.is_tag, Echo.EchoText, Echo.IsEcho, Echo.TextOf, Echo.ended}
use Rattle.echo_filed.specs.Written.{text_of}
use Rattle.echo_filed.proofs.Texts.{text_is_text}

lines_len : (prefix : List ℕ) (runs : List (List NetNode)) → AreRuns prefix runs
    → length (flat_map (λ run. line_of prefix (entries_text None run)) runs) ≤ 80 * length (flat_map (λ r. r) runs)
lines_len prefix [] each = omega arith
lines_len prefix (run ∷ later) each =
    let rest = entries_text None run in
    let more = flat_map (λ r. line_of prefix (entries_text None r)) later in
    omega (
      arith,
      each.0.some,
      each.0.room,
      lines_len prefix later each.1,
      length-append prefix rest,
      length-append rest (13 ∷ []),
      length-append prefix (rest ++ 13 ∷ []),
      length-append (line_of prefix rest) more,
      length-append run (flat_map (λ r. r) later),
    )

short_len : (prefix : List ℕ) (list : List NetNode) (b : List ℕ) → ShortLines prefix list b → length b ≤ 80 * length list
short_len prefix list b h = omega (arith, lines_len prefix h.runs h.each, ap length h.lines, ap length h.cut)

whole_len : (e : EchoText) (b : List ℕ) → TextOf e b → length b ≤ 6 + length e.tag + length (flat_map ended e.kept) + 80 * length e.seen + 80 * length e.path
whole_len e b h = omega (
  arith,
  ap length h.whole,
  short_len _ e.seen h.seen_lines h.seen,
  short_len _ e.path h.path_lines h.path,
  length-append (area_word ++ e.tag) (13 ∷ []),
  length-append area_word e.tag,
  length-append h.seen_lines h.path_lines,
  length-append (flat_map ended e.kept) (h.seen_lines ++ h.path_lines),
  length-append (ended (area_word ++ e.tag)) (flat_map ended e.kept ++ (h.seen_lines ++ h.path_lines)),
)

pub text_len : (e : EchoText) → IsEcho e
    → length (text_of e) ≤ 6 + length e.tag + length (flat_map ended e.kept) + 80 * length e.seen + 80 * length e.path
text_len e h = whole_len e (text_of e) (text_is_text e h)

pub tag_len : (tag : List ℕ) → is_tag tag ≡ true → length tag ≤ 60
tag_len tag h = grind (arith, and_parts, nat_lt, nat_le, leb-true)
