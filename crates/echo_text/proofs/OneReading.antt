-- A text has one reading, and a reading has one text.
use Rattle.std.proofs.Common.{◌≡◌, ℕ, suc, zero, List, [], ◌∷◌, ◌++◌, Result, Ok, Err, refl, sym, ap, subst, ◌∙◌, arith, inl, inr, ◌⊎◌}
use Rattle.std.proofs.lemmas.List.Elements.{All-contains}
use Rattle.std.specs.List.{All, AllPairs, Contains, flat_map}
use Rattle.echo_addr.specs.{declared.address.NetNode.NetNode, ShortLines.ComesBefore, ShortLines.path_prefix, ShortLines.seen_prefix}
use Rattle.echo_addr.proofs.Runs.{one_spelling}
use Rattle.echo_text.specs.Echo.{EchoOf, EchoText, HasNoZero, IsSetOf, TextOf, ended}
use Rattle.echo_text.specs.{declared.fault.TextFault.TextFault, declared.fault.TextFault.TheVariants.Memory, Lines.area_word, Refusal.TextAnswers}
use Rattle.echo_text.proofs.{PutTogether.same_parts, Reread.read_is_echo, SaidAfter.not_refused, Written.written_read_back}

not_both : (x y : NetNode) → ComesBefore x y → ComesBefore y x → ⊥
not_both x y h k = grind arith

first_before : (x : NetNode) (xs : List NetNode) → AllPairs ComesBefore (x ∷ xs) → All (ComesBefore x) xs
first_before x xs h k d within = h 0 (suc k) d (omega arith) (omega arith)

later_ascend : (x : NetNode) (xs : List NetNode) → AllPairs ComesBefore (x ∷ xs) → AllPairs ComesBefore xs
later_ascend x xs h i j d low high = h (suc i) (suc j) d (omega arith) (omega arith)

member_cases : (x : NetNode) (xs : List NetNode) (e : NetNode) → Contains (x ∷ xs) e → (x ≡ e) ⊎ Contains xs e
member_cases x xs e (zero, within, is) = inl is
member_cases x xs e (suc k, within, is) = inr (k, omega arith, is)

first_member : (x : NetNode) (xs : List NetNode) → Contains (x ∷ xs) x
first_member x xs = (0, omega arith, refl)

later_member : (x : NetNode) (xs : List NetNode) (e : NetNode) → Contains xs e → Contains (x ∷ xs) e
later_member x xs e h = (suc h.0, omega (arith, h.1), h.2)

none_member : (e : NetNode) → Contains [] e → ⊥
none_member e h = omega (arith, h.1)

same_first : (x y : NetNode) (xs ys : List NetNode) → AllPairs ComesBefore (x ∷ xs) → AllPairs ComesBefore (y ∷ ys)
    → Contains (y ∷ ys) x → Contains (x ∷ xs) y → x ≡ y
same_first x y xs ys p q x_in y_in = elim (member_cases y ys x x_in) [
  | inl same ↦ sym same
  | inr later ↦ elim (member_cases x xs y y_in) [
    | inl same ↦ same
    | inr other ↦
        absurd (not_both x y (All-contains (ComesBefore x) xs y (first_before x xs p) other) (All-contains (ComesBefore y) ys x (first_before y ys q) later))
  ]
]

later_in : (x y : NetNode) (xs ys : List NetNode) → x ≡ y → AllPairs ComesBefore (x ∷ xs) → (e : NetNode) → Contains xs e → Contains (y ∷ ys) e → Contains ys e
later_in x y xs ys same p e here there = grind (arith, member_cases, All-contains, first_before, not_both)

same_members : (xs ys : List NetNode) → AllPairs ComesBefore xs → AllPairs ComesBefore ys → ((e : NetNode) → Contains xs e → Contains ys e)
    → ((e : NetNode) → Contains ys e → Contains xs e) → xs ≡ ys
same_members [] [] p q f g = refl
same_members [] (y ∷ ys) p q f g = absurd (none_member y (g y (first_member y ys)))
same_members (x ∷ xs) [] p q f g = absurd (none_member x (f x (first_member x xs)))
same_members (x ∷ xs) (y ∷ ys) p q f g =
    let same = same_first x y xs ys p q (f x (first_member x xs)) (g y (first_member y ys)) in
    let rest =
    same_members xs ys (later_ascend x xs p) (later_ascend y ys q)
    (λ e here. later_in x y xs ys same p e here (f e (later_member x xs e here)))
    (λ e here. later_in y x ys xs (sym same) q e here (g e (later_member y ys e here)))
    in
    ap (λ e. e ∷ xs) same ∙ ap (λ es. y ∷ es) rest

one_set : (s t all : List NetNode) → IsSetOf s all → IsSetOf t all → s ≡ t
one_set s t all h k =
    same_members s t h.ascending k.ascending (λ e here. (k.members e).1 ((h.members e).0 here)) (λ e here. (h.members e).1 ((k.members e).0 here))

pub one_echo : (text : List ℕ) (e f : EchoText) (m n : ℕ) → EchoOf text e m → EchoOf text f n → e ≡ f
one_echo text e f m n h k =
    same_parts e.tag f.tag e.kept f.kept e.seen f.seen e.path f.path (h.tag ∙ sym k.tag) (h.kept ∙ sym k.kept) (one_set e.seen f.seen _ h.seen k.seen)
    (h.path ∙ sym k.path)

pub one_count : (text : List ℕ) (e f : EchoText) (m n : ℕ) → EchoOf text e m → EchoOf text f n → m ≡ n
one_count text e f m n h k = h.dropped_tokens ∙ sym k.dropped_tokens

pub one_answer : (text : List ℕ) (e : EchoText) (d : ℕ) (r : Result (EchoText × ℕ) TextFault) → EchoOf text e d → TextAnswers text r
    → (r ≡ Ok (e, d)) ⊎ (r ≡ Err Memory)
one_answer text e d r h1 h2 = grind (arith, one_echo, one_count, not_refused)

pub one_text : (e : EchoText) (b c : List ℕ) → TextOf e b → TextOf e c → b ≡ c
one_text e b c h k =
    h.whole
    ∙ ap (λ s. ended (area_word ++ e.tag) ++ (flat_map ended e.kept ++ (s ++ h.path_lines)))
    (one_spelling seen_prefix e.seen h.seen_lines k.seen_lines h.seen k.seen)
    ∙ ap (λ s. ended (area_word ++ e.tag) ++ (flat_map ended e.kept ++ (k.seen_lines ++ s)))
    (one_spelling path_prefix e.path h.path_lines k.path_lines h.path k.path)
    ∙ sym k.whole

pub written_again : (text : List ℕ) (e f : EchoText) (d n : ℕ) (b c : List ℕ) → HasNoZero text → EchoOf text e d → TextOf e b → EchoOf b f n → TextOf f c
    → (f ≡ e) × (n ≡ 0) × (c ≡ b)
written_again text e f d n b c no_zero read wrote again rewrote =
    let back = written_read_back e b (read_is_echo text e d no_zero read) wrote in
    let same = one_echo b f e n 0 again back in
    let P : EchoText → Type 0 = λ x. TextOf x c in
    (same, one_count b f e n 0 again back, one_text e c b (subst P same rewrote) wrote)
