-- The words of a script's lines.
use Rattle.std.proofs.Common.{◌≡◌, ◌≢◌, ℕ, ◌<◌, ◌≤◌, ◌&&◌, nat_lt, not, true, false, cond, List, [], ◌∷◌, length, drop, codes, sym, ap, ◌∙◌, None, arith}
use Rattle.std.proofs.lemmas.Bool.{and_from, cond-false, cond-true, eq-eqb, le-leb, lt-leb, lt-ltb, ne_eqb}
use Rattle.std.specs.{Prelude.bytes_eq, Prelude.nat_le, Prelude.option_map, Char.is_ascii_uppercase, List.list_any, List.position_or_len}
use Rattle.echo_addr.specs.Entries.{is_blank, tokens}
use Rattle.echo_links.specs.LinkLines.{after_first_of, first_of, is_control_byte}
use Rattle.model_run.specs.declared.event.Event.TheVariants.{Deliver, Purge, Scan}
use Rattle.echo_net.specs.Script.{after_first_word, event_in, event_of, index_in, moment, number_in, only_index, posting_in, posting_of, posting_with, serial_in}

-- ---- an index

pub index_empty : (word : List ℕ) → length word ≡ 0 → index_in word ≡ None
unfolding index_in
index_empty word h = ap (λ n. cond (nat_lt 0 n && nat_le n 9) (number_in 10 word) None) h

pub index_long : (word : List ℕ) → 9 < length word → index_in word ≡ None
unfolding index_in
index_long word h = grind (arith, nat_lt, lt-leb)

pub index_short : (word : List ℕ) → length word ≢ 0 → length word ≤ 9 → index_in word ≡ number_in 10 word
unfolding index_in
index_short word some few = grind (arith, cond-true, nat_lt, and_from, lt-ltb, le-leb)

-- ---- a serial

pub serial_of_other_length : (word : List ℕ) → length word ≢ 8 → serial_in word ≡ None
unfolding serial_in
serial_of_other_length word h = ap (λ b. cond (b && not (list_any is_ascii_uppercase word)) (number_in 16 word) None) (ne_eqb (length word) 8 h)

pub serial_of_capitals : (word : List ℕ) → length word ≡ 8 → list_any is_ascii_uppercase word ≡ true → serial_in word ≡ None
unfolding serial_in
serial_of_capitals word eight h = grind (arith, eq-eqb)

pub serial_of_eight : (word : List ℕ) → length word ≡ 8 → list_any is_ascii_uppercase word ≡ false → serial_in word ≡ number_in 16 word
unfolding serial_in
serial_of_eight word eight h = grind (arith, eq-eqb)

-- ---- a posting

pub record Cut (bytes word rest : List ℕ) : Type 0 where
  pub words_are : tokens bytes ≡ word ∷ tokens rest
  pub after : rest ≡ drop (length word) (drop (position_or_len (λ b. not (is_blank b)) bytes) bytes)

pub rest_is : (bytes word rest : List ℕ) → Cut bytes word rest → after_first_word bytes ≡ rest
unfolding after_first_word
rest_is bytes word rest cut = ap (λ ws. drop (length (first_of ws)) (drop (position_or_len (λ b. not (is_blank b)) bytes) bytes)) cut.words_are ∙ sym cut.after

pub no_words : (rest : List ℕ) → tokens rest ≡ [] → posting_in rest ≡ None
unfolding posting_in
no_words rest h = ap (λ ws. posting_of ws (drop 1 (after_first_word (after_first_word (after_first_word rest))))) h

pub one_word : (rest word after : List ℕ) → Cut rest word after → tokens after ≡ [] → posting_in rest ≡ None
unfolding posting_in
one_word rest word after cut h = ap (λ ws. posting_of ws (drop 1 (after_first_word (after_first_word (after_first_word rest))))) (cut.words_are ∙ ap (λ ws. word ∷ ws) h)

pub two_words : (rest word after tag later : List ℕ) → Cut rest word after → Cut after tag later → tokens later ≡ [] → posting_in rest ≡ None
unfolding posting_in
two_words rest word after tag later cut next h =
    ap (λ ws. posting_of ws (drop 1 (after_first_word (after_first_word (after_first_word rest))))) (cut.words_are ∙ ap (λ ws. word ∷ ws) (next.words_are ∙ ap (λ ws. tag ∷ ws) h))

pub three_words : (rest word after tag later digits last : List ℕ) → Cut rest word after → Cut after tag later → Cut later digits last
    → posting_in rest ≡ posting_with (index_in word) tag digits (serial_in digits) (drop 1 last)
unfolding posting_in
three_words rest word after tag later digits last cut next third = grind (arith, rest_is)

-- ---- an event

pub control_event : (line : List ℕ) → list_any is_control_byte line ≡ true → event_in line ≡ None
unfolding event_in
control_event line h = cond-true (list_any is_control_byte line) None (event_of (first_of (tokens line)) (after_first_word line) (after_first_of (tokens line))) h

pub wordless_event : (line : List ℕ) → list_any is_control_byte line ≡ false → tokens line ≡ [] → event_in line ≡ None
unfolding event_in
wordless_event line plain h = grind (arith, cond-false)

pub worded_event : (line word rest : List ℕ) → list_any is_control_byte line ≡ false → Cut line word rest → event_in line ≡ event_of word rest (tokens rest)
unfolding event_in
worded_event line word rest plain cut = grind (arith, cond-false, rest_is)

module _ (word rest : List ℕ) (more : List (List ℕ)) where
  pub first_post : bytes_eq word (codes "POST") ≡ true → event_of word rest more ≡ posting_in rest
  first_post h = cond-true (bytes_eq word (codes "POST")) _ _ h

  pub first_scan : bytes_eq word (codes "POST") ≡ false → bytes_eq word (codes "SCAN") ≡ true
      → event_of word rest more ≡ option_map (λ i. Scan i moment) (only_index more)
  first_scan a h = cond-false (bytes_eq word (codes "POST")) _ _ a ∙ cond-true (bytes_eq word (codes "SCAN")) _ _ h

  pub first_deliver : bytes_eq word (codes "POST") ≡ false → bytes_eq word (codes "SCAN") ≡ false → bytes_eq word (codes "DELIVER") ≡ true
      → event_of word rest more ≡ option_map (λ k. Deliver k) (only_index more)
  first_deliver a b h =
      cond-false (bytes_eq word (codes "POST")) _ _ a ∙ cond-false (bytes_eq word (codes "SCAN")) _ _ b ∙ cond-true (bytes_eq word (codes "DELIVER")) _ _ h

  pub first_purge : bytes_eq word (codes "POST") ≡ false → bytes_eq word (codes "SCAN") ≡ false → bytes_eq word (codes "DELIVER") ≡ false
      → bytes_eq word (codes "PURGE") ≡ true → event_of word rest more ≡ option_map (λ i. Purge i) (only_index more)
  first_purge a b d h = grind (arith, cond-false, cond-true)

  pub first_other : bytes_eq word (codes "POST") ≡ false → bytes_eq word (codes "SCAN") ≡ false → bytes_eq word (codes "DELIVER") ≡ false
      → bytes_eq word (codes "PURGE") ≡ false → event_of word rest more ≡ None
  first_other a b d h = grind (arith, cond-false)
