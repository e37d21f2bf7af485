-- A written list reads back as itself.
use Rattle.std.proofs.Common.{◌≡◌, ℕ, ◌^◌, ◌<◌, ◌≤◌, cond, true, false, List, [], ◌∷◌, ◌++◌, length, map, refl, sym, ap, zero-add, ◌∙◌, arith, Some, None, Option, inl, inr}
use Rattle.std.proofs.lemmas.Bool.{ne_eqb, eqb-true, cases_Bool, or_from, cond-true, cond-false, not-false}
use Rattle.std.proofs.lemmas.{List.length-append, List.Elements.recursion_from_All, List.Sums.sum_by-cons, Fmt.decimal_nonempty}
use Rattle.std.specs.List.{All, AllByRecursion, flat_map, filter_map, count_by, before_first}
use Rattle.std.specs.{Fmt.decimal, Option.is_none}
use Rattle.echo_addr.specs.Entries.{is_blank, tokens, part_of, entry_from, pair_of, nearest_net, entry_of, judged, entries, dropped}
use Rattle.echo_addr.specs.ShortLines.{shows_net, entry_token, entries_text, line_of, IsNetNode, IsEntryByte, ShortLines, ReadBack}
use Rattle.echo_addr.specs.{declared.address.NetNode.NetNode, Address.is_slash}
use Rattle.echo_addr.proofs.Tokens.{IsInk, IsEnded, tokens_cons, tokens_nil, before_slash, after_slash, after_no_slash}
use Rattle.echo_addr.proofs.{Decimals.IsDigit, Decimals.digits_of_decimal, Decimals.part_of-decimal, Each.weaker, Each.joined, Each.apart}

pub digit_is_no_slash : (b : ℕ) → IsDigit b → is_slash b ≡ false
digit_is_no_slash b h = ne_eqb b 47 (λ e. omega (arith, h.0))

plain_is_ink : (b : ℕ) → (47 ≤ b) × (b ≤ 57) → is_blank b ≡ false
plain_is_ink b h =
    or_from _ _ (or_from _ _ (ne_eqb b 32 (λ e. omega (arith, h.0))) (ne_eqb b 9 (λ e. omega (arith, h.0)))) (ne_eqb b 10 (λ e. omega (arith, h.0)))

no_slash_in : (n : ℕ) → n < 2 ^ 16 → AllByRecursion (λ b. is_slash b ≡ false) (decimal n)
no_slash_in n small = weaker IsDigit (λ b. is_slash b ≡ false) digit_is_no_slash (decimal n) (digits_of_decimal n (omega arith))

abbrev IsPlain : ℕ → Type 0
IsPlain b = (47 ≤ b) × (b ≤ 57)

plain_decimal : (n : ℕ) → n < 2 ^ 16 → AllByRecursion IsPlain (decimal n)
plain_decimal n small = weaker IsDigit IsPlain (λ b h. (omega (arith, h.0), h.1)) (decimal n) (digits_of_decimal n (omega arith))

pub shown : (before : Option ℕ) (e : NetNode) → shows_net before e.net ≡ true → entry_token before e ≡ decimal e.net ++ 47 ∷ decimal e.node
shown before e is = cond-true (shows_net before e.net) _ _ is

pub hidden : (before : Option ℕ) (e : NetNode) → shows_net before e.net ≡ false → entry_token before e ≡ decimal e.node
hidden before e isnt = cond-false (shows_net before e.net) _ _ isnt

plain_token : (before : Option ℕ) (e : NetNode) → IsNetNode e → AllByRecursion IsPlain (entry_token before e)
plain_token before e h = grind (arith, cases_Bool, shown, joined, plain_decimal, hidden)

some_token : (before : Option ℕ) (e : NetNode) → IsNetNode e → 0 < length (entry_token before e)
some_token before e h = grind (arith, decimal_nonempty, cases_Bool, shown, length-append, hidden)

pub pair_of-shown : (e : NetNode) → IsNetNode e → pair_of (decimal e.net ++ 47 ∷ decimal e.node) ≡ Some e
unfolding pair_of
pair_of-shown e h = grind (arith, before_slash, no_slash_in, after_slash, part_of-decimal)

pub entry_from_none : (net : Option ℕ) → entry_from net None ≡ None
entry_from_none None = refl
entry_from_none (Some net) = refl

pub pair_of-hidden : (s : List ℕ) → AllByRecursion (λ b. is_slash b ≡ false) s → pair_of s ≡ None
unfolding pair_of
pair_of-hidden s none =
    ap (λ r. entry_from (part_of (before_first is_slash s)) (part_of r)) (after_no_slash s none) ∙ entry_from_none _

Carries : Option ℕ → List (List ℕ) → Type 0
Carries None earlier = Unit {0}
Carries (Some net) earlier = nearest_net earlier ≡ Some net

record Reads (earlier : List (List ℕ)) (token : List ℕ) (e : NetNode) : Type 0 where
  entry : entry_of earlier token ≡ Some e
  net : nearest_net (token ∷ earlier) ≡ Some e.net

reads_pair : (earlier : List (List ℕ)) (token : List ℕ) (e : NetNode) → pair_of token ≡ Some e → Reads earlier token e
reads_pair earlier token e pair = grind arith

reads_node : (earlier : List (List ℕ)) (token : List ℕ) (e : NetNode) → pair_of token ≡ None → nearest_net earlier ≡ Some e.net
    → part_of token ≡ Some e.node → Reads earlier token e
reads_node earlier token e pair net node = grind arith

left_out : (before : Option ℕ) (earlier : List (List ℕ)) (net : ℕ) → shows_net before net ≡ false → Carries before earlier
    → nearest_net earlier ≡ Some net
unfolding Carries
left_out None earlier net out carries = absurd cc
left_out (Some b) earlier net out carries = carries ∙ ap Some (eqb-true b net (not-false _ out))

reads_written : (before : Option ℕ) (earlier : List (List ℕ)) (e : NetNode) → IsNetNode e → Carries before earlier
    → Reads earlier (entry_token before e) e
reads_written before earlier e h carries = grind (arith, cases_Bool, reads_pair, shown, pair_of-shown, hidden, reads_node, pair_of-hidden, no_slash_in, left_out, part_of-decimal)

carries_on : (earlier : List (List ℕ)) (token : List ℕ) (e : NetNode) → Reads earlier token e → Carries (Some e.net) (token ∷ earlier)
unfolding Carries
carries_on earlier token e r = r.net

ends : (before : Option ℕ) (es : List NetNode) → IsEnded (entries_text before es)
ends before [] = tt
ends before (e ∷ es) = refl

judged_written : (before : Option ℕ) (earlier : List (List ℕ)) (es : List NetNode) → AllByRecursion IsNetNode es → Carries before earlier
    → judged earlier (tokens (entries_text before es)) ≡ map Some es
judged_written before earlier [] h carries = ap (judged earlier) (sym tokens_nil)
judged_written before earlier (e ∷ es) h carries =
    let token = entry_token before e in
    let r = reads_written before earlier e h.0 carries in
    let ink : AllByRecursion IsInk token = weaker IsPlain IsInk plain_is_ink token (plain_token before e h.0) in
    let cut = tokens_cons token (entries_text (Some e.net) es) (some_token before e h.0) ink (ends (Some e.net) es) in
    ap (judged earlier) cut
    ∙ ap (λ o. o ∷ judged (token ∷ earlier) (tokens (entries_text (Some e.net) es))) r.entry
    ∙ ap (λ os. Some e ∷ os) (judged_written (Some e.net) (token ∷ earlier) es h.1 (carries_on earlier token e r))

kept_all : (es : List NetNode) → filter_map (λ e. e) (map Some es) ≡ es
kept_all [] = refl
kept_all (e ∷ es) = ap (λ l. e ∷ l) (kept_all es)

none_lost : (es : List NetNode) → count_by is_none (map Some es) ≡ 0
none_lost [] = refl
none_lost (e ∷ es) = sum_by-cons (λ o. cond (is_none o) 1 0) (Some e) (map Some es) ∙ zero-add _ ∙ none_lost es

carries_none : Carries None []
unfolding Carries
carries_none = tt

pub entries-entries_text : (es : List NetNode) → AllByRecursion IsNetNode es → entries (entries_text None es) ≡ es
unfolding entries
entries-entries_text es h = ap (filter_map (λ e. e)) (judged_written None [] es h carries_none) ∙ kept_all es

pub dropped-entries_text : (es : List NetNode) → AllByRecursion IsNetNode es → dropped (entries_text None es) ≡ 0
unfolding dropped
dropped-entries_text es h = ap (count_by is_none) (judged_written None [] es h carries_none) ∙ none_lost es

pub entry_bytes : (before : Option ℕ) (es : List NetNode) → AllByRecursion IsNetNode es → AllByRecursion IsEntryByte (entries_text before es)
entry_bytes before [] h = tt
entry_bytes before (e ∷ es) h = (
  inl refl,
  joined IsEntryByte (entry_token before e) (entries_text (Some e.net) es)
      (weaker IsPlain IsEntryByte (λ b p. inr p) (entry_token before e) (plain_token before e h.0))
      (entry_bytes (Some e.net) es h.1),
)

rests_of : List (List NetNode) → List (List ℕ)
rests_of runs = map (λ run. entries_text None run) runs

lines_of_rests : (prefix : List ℕ) (runs : List (List NetNode))
    → flat_map (λ run. line_of prefix (entries_text None run)) runs ≡ flat_map (line_of prefix) (rests_of runs)
unfolding rests_of
lines_of_rests prefix [] = refl
lines_of_rests prefix (run ∷ runs) = ap (λ t. line_of prefix (entries_text None run) ++ t) (lines_of_rests prefix runs)

each_run : (runs : List (List NetNode)) → AllByRecursion IsNetNode (flat_map (λ r. r) runs) → AllByRecursion (AllByRecursion IsNetNode) runs
each_run [] h = tt
each_run (run ∷ runs) h =
    let parts = apart IsNetNode run (flat_map (λ r. r) runs) h in (parts.0, each_run runs parts.1)

rests_bytes : (runs : List (List NetNode)) → AllByRecursion (AllByRecursion IsNetNode) runs
    → AllByRecursion (AllByRecursion IsEntryByte) (rests_of runs)
unfolding rests_of
rests_bytes [] h = tt
rests_bytes (run ∷ runs) h = (entry_bytes None run h.0, rests_bytes runs h.1)

rests_entries : (runs : List (List NetNode)) → AllByRecursion (AllByRecursion IsNetNode) runs
    → flat_map entries (rests_of runs) ≡ flat_map (λ r. r) runs
unfolding rests_of
rests_entries [] h = refl
rests_entries (run ∷ runs) h =
    ap (λ es. es ++ flat_map entries (rests_of runs)) (entries-entries_text run h.0) ∙ ap (λ es. run ++ es) (rests_entries runs h.1)

rests_dropped : (runs : List (List NetNode)) → AllByRecursion (AllByRecursion IsNetNode) runs
    → AllByRecursion (λ rest. dropped rest ≡ 0) (rests_of runs)
unfolding rests_of
rests_dropped [] h = tt
rests_dropped (run ∷ runs) h = (dropped-entries_text run h.0, rests_dropped runs h.1)

pub read_back : (prefix : List ℕ) (list : List NetNode) (b : List ℕ) → All IsNetNode list → ShortLines prefix list b → ReadBack prefix list b
read_back prefix list b all lines = grind (arith, each_run, recursion_from_All, rests_of, lines_of_rests, rests_bytes, rests_entries, rests_dropped)
