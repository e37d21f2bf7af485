-- Steps of writing the entries of a line one after another.
use Rattle.std.proofs.Common.{◌≡◌, ℕ, suc, ◌+◌, ◌-◌, ◌<◌, ◌≤◌, List, [], ◌++◌, ◌∷◌, length, get_or, take, drop, sym, ap, ◌∙◌, arith, Some, None, Option}
use Rattle.std.proofs.lemmas.List.{append_assoc, append-nil, length-append, drop_more, length-take-le, take_at, take-take}
use Rattle.echo_addr.specs.{declared.address.NetNode.NetNode, ShortLines.entry_text, ShortLines.entries_text, ShortLines.line_of}

-- behind the first i entries the last net is this one, so the text of more entries is the text of these and of the others
pub record Behind (xs : List NetNode) (i : ℕ) (before : Option ℕ) : Type 0 where
  pub further : (k : ℕ) → entries_text None (take (i + k) xs) ≡ entries_text None (take i xs) ++ entries_text before (take k (drop i xs))

pub Behind-none : (xs : List NetNode) → Behind xs 0 None
Behind-none xs = record { further = λ k. ap (λ n. entries_text None (take n xs)) (let same : 0 + k ≡ k = omega arith in same) }

pub Behind-next : (xs : List NetNode) (i : ℕ) (before : Option ℕ) (d : NetNode) → i < length xs → Behind xs i before
    → entries_text None (take (i + 1) xs) ≡ entries_text None (take i xs) ++ entry_text before (get_or xs i d)
Behind-next xs i before d lt b =
    b.further 1
    ∙ ap (λ l. entries_text None (take i xs) ++ entries_text before (take 1 l)) (drop_more xs i d lt)
    ∙ ap (λ t. entries_text None (take i xs) ++ t) (append-nil (entry_text before (get_or xs i d)))

pub Behind-more : (xs : List NetNode) (i : ℕ) (before : Option ℕ) (d : NetNode) → i < length xs → Behind xs i before
    → Behind xs (i + 1) (Some (get_or xs i d).net)
Behind-more xs i before d lt b =
    let x = get_or xs i d in
    record {
      further = λ k.
          let rest = entries_text (Some x.net) (take k (drop (i + 1) xs)) in
          let place : i + 1 + k ≡ i + suc k = omega arith in
          ap (λ n. entries_text None (take n xs)) place ∙ b.further (suc k)
          ∙ ap (λ l. entries_text None (take i xs) ++ entries_text before (take (suc k) l)) (drop_more xs i d lt)
          ∙ sym (append_assoc (entries_text None (take i xs)) (entry_text before x) rest)
          ∙ ap (λ t. t ++ rest) (sym (Behind-next xs i before d lt b));
    }

pub record Written (xs : List NetNode) (i : ℕ) (before : Option ℕ) (begun : ℕ) (front : List ℕ) (at : ℕ) (line : List ℕ) : Type 0 where
  pub behind : Behind xs i before
  pub end : at ≡ begun + length (entries_text None (take i xs))
  pub text : take at line ≡ front ++ entries_text None (take i xs)

pub Written-none : (xs : List NetNode) (begun : ℕ) (line : List ℕ) → Written xs 0 None begun (take begun line) begun line
Written-none xs begun line = record { behind = Behind-none xs; end = omega arith; text = sym (append-nil (take begun line)) }

pub Written-more : (xs : List NetNode) (i : ℕ) (before : Option ℕ) (begun : ℕ) (front : List ℕ) (at end : ℕ) (line more : List ℕ) (d : NetNode) → i < length xs
    → end ≡ at + length (entry_text before (get_or xs i d))
    → take end more ≡ take (end - length (entry_text before (get_or xs i d))) line ++ entry_text before (get_or xs i d)
    → Written xs i before begun front at line → Written xs (i + 1) (Some (get_or xs i d).net) begun front end more
Written-more xs i before begun front at end line more d lt is now w =
    let x = get_or xs i d in
    let next = Behind-next xs i before d lt w.behind in
    let place : end - length (entry_text before x) ≡ at = omega arith in
    record {
      behind = Behind-more xs i before d lt w.behind;
      end = omega (arith, ap length next, length-append (entries_text None (take i xs)) (entry_text before x), w.end);
      text = now ∙ ap (λ n. take n line ++ entry_text before x) place ∙ ap (λ t. t ++ entry_text before x) w.text
          ∙ append_assoc front (entries_text None (take i xs)) (entry_text before x) ∙ ap (λ t. front ++ t) (sym next);
    }

pub Written-next : (xs : List NetNode) (i : ℕ) (before : Option ℕ) (begun : ℕ) (front : List ℕ) (at : ℕ) (line : List ℕ) (d : NetNode) → i < length xs
    → Written xs i before begun front at line
    → begun + length (entries_text None (take (i + 1) xs)) ≡ at + length (entry_text before (get_or xs i d))
Written-next xs i before begun front at line d lt w =
    omega (
      arith,
      ap length (Behind-next xs i before d lt w.behind),
      length-append (entries_text None (take i xs)) (entry_text before (get_or xs i d)),
      w.end,
    )

pub front_stays : (old new text : List ℕ) (begun end : ℕ) → begun ≤ end → begun ≤ length old → take end new ≡ take begun old ++ text
    → take begun new ≡ take begun old
front_stays old new text begun end low within is =
    sym (take-take begun end new low) ∙ ap (take begun) is ∙ take_at (take begun old) text begun (length-take-le begun old within)

pub line_ended : (line front prefix text : List ℕ) (end : ℕ) → take end line ≡ front ++ text → front ≡ prefix → take end line ++ 13 ∷ [] ≡ line_of prefix text
line_ended line front prefix text end is same =
    ap (λ t. t ++ 13 ∷ []) (is ∙ ap (λ f. f ++ text) same) ∙ append_assoc prefix text (13 ∷ [])
