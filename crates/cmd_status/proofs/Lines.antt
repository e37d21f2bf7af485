use Rattle.std.proofs.Common.{◌≡◌, ℕ, ◌+◌, ◌<◌, List, [], ◌∷◌, ◌++◌, Option, Some, length, take, drop, refl, sym, ap, subst, ◌∙◌, arith, append_assoc, append-nil, inl, inr}
use Rattle.std.proofs.{lemmas.Grind.flat_map-append, lemmas.List.take-append-drop, lemmas.List.take_more, lemmas.Option.slice_get_cases, KnownBytes.Appends-nil, KnownBytes.Appends-trans}
use Rattle.std.specs.{List.flat_map, Prelude.slice_get, Io.KnownBytes.Appends}
use Rattle.disk_io.specs.Device.{SendsFront}
use Rattle.cmd_status.specs.Lines.{PassesOn, WritesFront}

pub alone : (none lines more : List ℕ) → none ≡ [] → lines ≡ none ++ more → lines ≡ more
alone none lines more nothing whole = whole ∙ ap (λ n. n ++ more) nothing

pub none_passed : (a : Option (List ℕ)) (lines : List ℕ) → PassesOn lines lines a a
none_passed a lines = record { went = []; whole = refl; written = Appends-nil a }

pub none_added : (a : Option (List ℕ)) (lines : List ℕ) → PassesOn (lines ++ []) lines a a
none_added a lines = record { went = []; whole = append-nil lines; written = Appends-nil a }

pub none_begun : (a : Option (List ℕ)) (lines : List ℕ) → WritesFront lines a a
none_begun a lines = record { rest = lines; passed = none_passed a lines }

pub front_sent : (a b : Option (List ℕ)) (bytes : List ℕ) (m n : ℕ) → SendsFront a b bytes m n → WritesFront bytes a b
front_sent a b bytes m n (k, short, out, count) =
    record { rest = drop k bytes; passed = record { went = take k bytes; whole = sym (take-append-drop k bytes); written = out } }

pub passed_more : (a b c : Option (List ℕ)) (kept x mid y rest : List ℕ) → PassesOn (kept ++ x) mid a b → PassesOn (mid ++ y) rest b c
    → PassesOn (kept ++ (x ++ y)) rest a c
passed_more a b c kept x mid y rest first second = record {
  went = first.went ++ second.went;
  whole = sym (append_assoc kept x y) ∙ ap (λ t. t ++ y) first.whole ∙ append_assoc first.went mid y ∙ ap (λ t. first.went ++ t) second.whole
      ∙ sym (append_assoc first.went second.went rest);
  written = Appends-trans a b c first.went second.went first.written second.written;
}

pub begun_more : (a b c : Option (List ℕ)) (kept x mid y : List ℕ) → PassesOn (kept ++ x) mid a b → WritesFront (mid ++ y) b c
    → WritesFront (kept ++ (x ++ y)) a c
begun_more a b c kept x mid y first second = record { rest = second.rest; passed = passed_more a b c kept x mid y second.rest first second.passed }

pub front_more : (a b : Option (List ℕ)) (lines more : List ℕ) → WritesFront lines a b → WritesFront (lines ++ more) a b
front_more a b lines more begun = record {
  rest = begun.rest ++ more;
  passed = record {
    went = begun.passed.went;
    whole = ap (λ t. t ++ more) begun.passed.whole ∙ append_assoc begun.passed.went begun.rest more;
    written = begun.passed.written;
  };
}

pub begun_after : (a b c : Option (List ℕ)) (lines mid : List ℕ) → PassesOn lines mid a b → WritesFront mid b c → WritesFront lines a c
begun_after a b c lines mid first begun =
    let second = begun.passed in
    record {
      rest = begun.rest;
      passed = record {
        went = first.went ++ second.went;
        whole = first.whole ∙ ap (λ t. first.went ++ t) second.whole ∙ sym (append_assoc first.went second.went begun.rest);
        written = Appends-trans a b c first.went second.went first.written second.written;
      };
    }

pub sent_after : (a b c : Option (List ℕ)) (lines mid : List ℕ) → PassesOn lines mid a b → Appends b c mid → Appends a c lines
sent_after a b c lines mid first out = subst (Appends a c) (sym first.whole) (Appends-trans a b c first.went mid first.written out)

pub begun_kept : (a b c : Option (List ℕ)) (lines : List ℕ) → WritesFront lines a b → Appends b c [] → WritesFront lines a c
begun_kept a b c lines begun none =
    let passed = begun.passed in
    record {
      rest = begun.rest;
      passed = record {
        went = passed.went;
        whole = passed.whole;
        written = subst (Appends a c) (append-nil passed.went) (Appends-trans a b c passed.went [] passed.written none);
      };
    }

no_front : (went rest : List ℕ) → [] ≡ went ++ rest → went ≡ []
no_front [] rest is = refl
no_front (x ∷ went) rest is = absurd cc

pub nothing_begun : (a b : Option (List ℕ)) → WritesFront [] a b → Appends a b []
nothing_begun a b begun = subst (Appends a b) (no_front begun.passed.went begun.rest begun.passed.whole) begun.passed.written

pub flat_more : {X : Type 0} (f : X → List ℕ) (xs : List X) (k : ℕ) (first old new : List ℕ) → k < length xs → ((x : X) → slice_get xs k ≡ Some x → new ≡ old ++ f x)
    → old ≡ first ++ flat_map f (take k xs) → new ≡ first ++ flat_map f (take (k + 1) xs)
flat_more f xs k first old new inside added so = elim (slice_get_cases xs k).1 [
  | inl (x, below, got, read) ↦
      added x got ∙ ap (λ l. l ++ f x) so ∙ append_assoc first (flat_map f (take k xs)) (f x)
      ∙ ap (λ t. first ++ t)
      (ap (λ t. flat_map f (take k xs) ++ t) (sym (append-nil (f x))) ∙ sym (flat_map-append f (take k xs) (x ∷ []))
      ∙ ap (flat_map f) (ap (λ y. take k xs ++ y ∷ []) (sym read) ∙ sym (take_more xs k x inside)))
  | inr past ↦ absurd (let less = past.0 in omega (arith, less, inside))
]
