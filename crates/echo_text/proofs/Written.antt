-- The written text of an echo, cut into lines and parsed, is that echo.
use Rattle.std.proofs.Common.{◌≡◌, ◌≢◌, ℕ, not, Bool, true, false, List, [], ◌∷◌, ◌++◌, map, refl, sym, ap, ◌∙◌, arith}
use Rattle.std.proofs.lemmas.List.Elements.{All-append, All-from_recursion, All-weaker, filter-append, recursion_from_All}
use Rattle.std.proofs.lemmas.Bool.{and_from, and_parts, cond-false, cond-true, ne_eqb}
use Rattle.std.proofs.lemmas.List.{append_assoc, append-nil, Folds.list_all-append, Sums.list_all-from_AllPass, Sums.sum_by-cons}
use Rattle.std.specs.List.{AllByRecursion, AllPairs, filter, flat_map, list_all}
use Rattle.echo_addr.specs.ShortLines.{ComesBefore, IsEntryByte, ReadBack, line_of, path_prefix, seen_prefix}
use Rattle.echo_addr.specs.{declared.address.NetNode.NetNode, Entries.dropped}
use Rattle.echo_addr.proofs.ReadBack.{read_back}
use Rattle.echo_text.specs.Lines.{after_word, area_tag, area_word, first_line, is_area, is_path, is_return, is_seen, later_lines, lines}
use Rattle.echo_text.specs.Tail.{all_dropped, all_entries, is_kept_control, is_tail_line, kept_of, path_lists, seen_lists, tail}
use Rattle.echo_text.specs.Echo.{EchoText, EchoOf, IsEcho, IsLine, IsSetOf, TextOf, ended, is_shed}
use Rattle.echo_text.proofs.LineKinds.{after_path, after_seen, area_is_area, kept_no_path, kept_no_seen, kept_unless_shed, path_in_tail, path_is_not_seen, path_is_path, path_not_kept, seen_in_tail, seen_is_not_path, seen_is_seen, seen_not_kept}
use Rattle.echo_text.proofs.Tails.{all_tail, body-append, body_and_tail, tail-append, tail_is_tail}
use Rattle.echo_text.proofs.{TextLines.IsPiece, TextLines.lines_ended, TextLines.lines_nil, TextLines.lines_of_ended, Tags.area_tag_back, Tags.tag_piece}

abbrev prefixed : List ℕ → List (List ℕ) → List (List ℕ)
prefixed prefix rests = map (λ rest. prefix ++ rest) rests

lines_prefixed : (prefix : List ℕ) (rests : List (List ℕ)) → flat_map (line_of prefix) rests ≡ flat_map ended (prefixed prefix rests)
lines_prefixed prefix [] = refl
lines_prefixed prefix (rest ∷ more) =
    ap (λ s. s ++ flat_map (line_of prefix) more) (sym (append_assoc prefix rest (13 ∷ [])))
    ∙ ap (λ s. ended (prefix ++ rest) ++ s) (lines_prefixed prefix more)

entry_no_return : (b : ℕ) → IsEntryByte b → is_return b ≡ false
entry_no_return b h = grind (arith, ne_eqb)

prefixed_pieces : (prefix : List ℕ) → IsPiece prefix → (rests : List (List ℕ)) → AllByRecursion (AllByRecursion IsEntryByte) rests
    → AllByRecursion IsPiece (prefixed prefix rests)
prefixed_pieces prefix piece [] bytes = tt
prefixed_pieces prefix piece (rest ∷ more) bytes = (
  All-append (λ b. is_return b ≡ false) prefix rest piece
      (All-weaker IsEntryByte (λ b. is_return b ≡ false) entry_no_return rest (All-from_recursion IsEntryByte rest bytes.0)),
  prefixed_pieces prefix piece more bytes.1,
)

all_prefixed : (p : List ℕ → Bool) (prefix : List ℕ) → ((rest : List ℕ) → p (prefix ++ rest) ≡ true) → (rests : List (List ℕ))
    → list_all p (prefixed prefix rests) ≡ true
all_prefixed p prefix passes [] = refl
all_prefixed p prefix passes (rest ∷ more) = and_from (p (prefix ++ rest)) (list_all p (prefixed prefix more)) (passes rest) (all_prefixed p prefix passes more)

filter_prefixed : (p : List ℕ → Bool) (prefix : List ℕ) → ((rest : List ℕ) → p (prefix ++ rest) ≡ true) → (rests : List (List ℕ))
    → filter p (prefixed prefix rests) ≡ prefixed prefix rests
filter_prefixed p prefix passes [] = refl
filter_prefixed p prefix passes (rest ∷ more) =
    cond-true (p (prefix ++ rest)) ((prefix ++ rest) ∷ filter p (prefixed prefix more)) (filter p (prefixed prefix more)) (passes rest)
    ∙ ap (λ ls. (prefix ++ rest) ∷ ls) (filter_prefixed p prefix passes more)

filter_prefixed_none : (p : List ℕ → Bool) (prefix : List ℕ) → ((rest : List ℕ) → p (prefix ++ rest) ≡ false) → (rests : List (List ℕ))
    → filter p (prefixed prefix rests) ≡ []
filter_prefixed_none p prefix fails [] = refl
filter_prefixed_none p prefix fails (rest ∷ more) =
    cond-false (p (prefix ++ rest)) ((prefix ++ rest) ∷ filter p (prefixed prefix more)) (filter p (prefixed prefix more)) (fails rest)
    ∙ filter_prefixed_none p prefix fails more

after_prefixed : (prefix : List ℕ) → ((rest : List ℕ) → after_word prefix (prefix ++ rest) ≡ rest) → (rests : List (List ℕ))
    → map (after_word prefix) (prefixed prefix rests) ≡ rests
after_prefixed prefix after [] = refl
after_prefixed prefix after (rest ∷ more) =
    ap (λ r. r ∷ map (after_word prefix) (prefixed prefix more)) (after rest) ∙ ap (λ rs. rest ∷ rs) (after_prefixed prefix after more)

record IsKeptEnding (ending : List (List ℕ)) : Type 0 where
  kept : filter is_kept_control ending ≡ ending
  no_seen : filter is_seen ending ≡ []
  no_path : filter is_path ending ≡ []

kept_ending : (ending : List (List ℕ)) → all_tail ending ≡ true → list_all (λ line. not (is_shed line)) ending ≡ true → IsKeptEnding ending
kept_ending [] all left = record { kept = refl; no_seen = refl; no_path = refl }
kept_ending (line ∷ more) all left =
    let alls = and_parts (is_tail_line line) (all_tail more) all in
    let lefts = and_parts (not (is_shed line)) (list_all (λ l. not (is_shed l)) more) left in
    let rest = kept_ending more alls.1 lefts.1 in
    let kept = kept_unless_shed line alls.0 lefts.0 in
    record {
      kept = cond-true (is_kept_control line) (line ∷ filter is_kept_control more) (filter is_kept_control more) kept ∙ ap (λ ls. line ∷ ls) rest.kept;
      no_seen = cond-false (is_seen line) (line ∷ filter is_seen more) (filter is_seen more) (kept_no_seen line kept) ∙ rest.no_seen;
      no_path = cond-false (is_path line) (line ∷ filter is_path more) (filter is_path more) (kept_no_path line kept) ∙ rest.no_path;
    }

abbrev laid_out : List (List ℕ) → List (List ℕ) → List (List ℕ) → List (List ℕ)
laid_out kept seen path = kept ++ (prefixed seen_prefix seen ++ prefixed path_prefix path)

shed_all_tail : (seen path : List (List ℕ)) → all_tail (prefixed seen_prefix seen ++ prefixed path_prefix path) ≡ true
shed_all_tail seen path = grind (arith, list_all-append, and_from, all_prefixed, seen_in_tail, path_in_tail)

both : (p : List ℕ → Bool) (kept left_seen left_path : List (List ℕ)) (ending seen path : List (List ℕ))
    → filter p ending ≡ kept → filter p (prefixed seen_prefix seen) ≡ left_seen → filter p (prefixed path_prefix path) ≡ left_path
    → filter p (ending ++ (prefixed seen_prefix seen ++ prefixed path_prefix path)) ≡ kept ++ (left_seen ++ left_path)
both p kept left_seen left_path ending seen path k s t = grind (arith, filter-append)

record Says (kept seen path : List (List ℕ)) : Type 0 where
  kept_back : kept_of (laid_out kept seen path) ≡ kept
  seen_back : seen_lists (laid_out kept seen path) ≡ seen
  path_back : path_lists (laid_out kept seen path) ≡ path

says : (kept seen path : List (List ℕ)) → IsKeptEnding (tail kept) → Says kept seen path
unfolding kept_of seen_lists path_lists
says kept seen path ending = grind (arith, tail-append, shed_all_tail, body-append, both, filter_prefixed_none, seen_not_kept, path_not_kept, append-nil, body_and_tail, filter_prefixed, seen_is_seen, path_is_not_seen, after_prefixed, after_seen, seen_is_not_path, path_is_path, after_path)

line_piece : (line : List ℕ) → IsLine line → IsPiece line
line_piece line h = All-weaker (λ b. (b ≢ 0) × (b ≢ 13)) (λ b. is_return b ≡ false) (λ b parts. ne_eqb b 13 parts.1) line h

line_pieces : (kept : List (List ℕ)) → AllByRecursion IsLine kept → AllByRecursion IsPiece kept
line_pieces [] h = tt
line_pieces (line ∷ more) h = (line_piece line h.0, line_pieces more h.1)

area_piece : IsPiece area_word
area_piece = All-from_recursion (λ b. is_return b ≡ false) area_word (refl, (refl, (refl, (refl, (refl, tt)))))

seen_piece : IsPiece seen_prefix
seen_piece = All-from_recursion (λ b. is_return b ≡ false) seen_prefix (refl, (refl, (refl, (refl, (refl, (refl, (refl, (refl, tt))))))))

path_piece : IsPiece path_prefix
path_piece = All-from_recursion (λ b. is_return b ≡ false) path_prefix (refl, (refl, (refl, (refl, (refl, (refl, tt))))))

prefixed_lines : (prefix : List ℕ) (rests : List (List ℕ)) (b : List ℕ) → IsPiece prefix → b ≡ flat_map (line_of prefix) rests
    → AllByRecursion (AllByRecursion IsEntryByte) rests → (more : List ℕ) → lines (b ++ more) ≡ prefixed prefix rests ++ lines more
prefixed_lines prefix rests b piece is bytes more = grind (arith, lines_prefixed, lines_of_ended, prefixed_pieces)

written_lines : (e : EchoText) (text : List ℕ) → IsEcho e → (w : TextOf e text) → (s : ReadBack seen_prefix e.seen w.seen_lines) → (p : ReadBack path_prefix e.path w.path_lines)
    → lines text ≡ (area_word ++ e.tag) ∷ laid_out e.kept s.rests p.rests
written_lines e text h w s p =
    ap lines w.whole
    ∙ lines_ended (area_word ++ e.tag) (flat_map ended e.kept ++ (w.seen_lines ++ w.path_lines))
    (All-append (λ b. is_return b ≡ false) area_word e.tag area_piece (tag_piece e.tag h.tag_bytes))
    ∙ ap (λ ls. (area_word ++ e.tag) ∷ ls)
    (lines_of_ended e.kept (w.seen_lines ++ w.path_lines) (line_pieces e.kept (recursion_from_All IsLine e.kept h.kept_lines))
    ∙ ap (λ ls. e.kept ++ ls)
    (prefixed_lines seen_prefix s.rests w.seen_lines seen_piece s.lines s.bytes w.path_lines
    ∙ ap (λ ls. prefixed seen_prefix s.rests ++ ls)
    (ap lines (sym (append-nil w.path_lines))
    ∙ prefixed_lines path_prefix p.rests w.path_lines path_piece p.lines p.bytes []
    ∙ ap (λ ls. prefixed path_prefix p.rests ++ ls) lines_nil
    ∙ append-nil (prefixed path_prefix p.rests))))

none_dropped : (rests : List (List ℕ)) → AllByRecursion (λ rest. dropped rest ≡ 0) rests → all_dropped rests ≡ 0
none_dropped [] h = refl
none_dropped (rest ∷ more) h = omega (arith, sum_by-cons dropped rest more, h.0, none_dropped more h.1)

itself : (list : List NetNode) → (all : List NetNode) → all ≡ list → AllPairs ComesBefore list → IsSetOf list all
itself list all is ascending = grind arith

record Begun (text first : List ℕ) (later : List (List ℕ)) : Type 0 where
  first_is : first_line (lines text) ≡ first
  later_is : later_lines (lines text) ≡ later

begun : (text first : List ℕ) (later : List (List ℕ)) → lines text ≡ first ∷ later → Begun text first later
begun text first later is = record { first_is = ap first_line is; later_is = ap later_lines is }

pub written_read_back : (e : EchoText) (text : List ℕ) → IsEcho e → TextOf e text → EchoOf text e 0
written_read_back e text h w =
    let s = read_back seen_prefix e.seen w.seen_lines h.seen_entries w.seen in
    let p = read_back path_prefix e.path w.path_lines h.path_entries w.path in
    let at = begun text (area_word ++ e.tag) (laid_out e.kept s.rests p.rests) (written_lines e text h w s p) in
    let left = list_all-from_AllPass (λ line. not (is_shed line)) (tail e.kept) h.ending in
    let back = says e.kept s.rests p.rests (kept_ending (tail e.kept) (tail_is_tail e.kept) left) in
    let seen = ap seen_lists at.later_is ∙ back.seen_back in
    let path = ap path_lists at.later_is ∙ back.path_back in
    record {
      area = ap is_area at.first_is ∙ area_is_area e.tag;
      tag = sym (ap area_tag at.first_is ∙ area_tag_back e.tag h.tag_bytes);
      tag_bytes = h.tag_bytes;
      kept = sym (ap kept_of at.later_is ∙ back.kept_back);
      seen = itself e.seen (all_entries (seen_lists (later_lines (lines text)))) (ap all_entries seen ∙ s.list_back) h.ascending;
      path = sym (ap all_entries path ∙ p.list_back);
      dropped_tokens =
          omega (arith, ap all_dropped seen, ap all_dropped path, none_dropped s.rests s.none_dropped, none_dropped p.rests p.none_dropped);
    }
