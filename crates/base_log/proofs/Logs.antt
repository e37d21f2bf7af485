-- The bytes of a log: its records, the gate after them, and both after a torn write.
use Rattle.std.proofs.Common.{◌≡◌, ◌≢◌, ◌≤◌, inl, inr, ℕ, ◌+◌, List, [], ◌∷◌, ◌++◌, length, get_or, take, drop, Option, refl, sym, ◌∙◌, ap, arith, append_assoc, length-append, take-append-drop}
use Rattle.std.proofs.lemmas.List.{take_at, drop_at, drop-drop, get_or_at, drop_more, append-nil}
use Rattle.disk_io.specs.{Disk.bytes_in, Steps.IsWrittenAt, Steps.TornWrite}
use Rattle.base_log.specs.Log.{opened, AreBodies, EndsHere, IsLog, IsShutAt, recorded_by, last_recorded}

-- ---- one record more

pub opened-snoc : (bodies : List (List ℕ)) (body rest : List ℕ) → opened (bodies ++ body ∷ []) ++ rest ≡ opened bodies ++ (1 ∷ body ++ rest)
opened-snoc [] body rest = ap (λ (l : List ℕ). 1 ∷ l ++ rest) (append-nil body)
opened-snoc (b ∷ bodies) body rest =
    let tail : opened (bodies ++ body ∷ []) ++ rest ≡ opened bodies ++ (1 ∷ body ++ rest) = opened-snoc bodies body rest in
    ap (λ (l : List ℕ). 1 ∷ l) (append_assoc b (opened (bodies ++ body ∷ [])) rest ∙ ap (λ (l : List ℕ). b ++ l) tail ∙ sym (append_assoc b (opened bodies) (1 ∷ body ++ rest)))

pub AreBodies-snoc : (bodies : List (List ℕ)) (body : List ℕ) → AreBodies bodies → length body ≡ 49 → AreBodies (bodies ++ body ∷ [])
AreBodies-snoc [] body all size = (size, tt)
AreBodies-snoc (b ∷ bodies) body all size = (all.0, AreBodies-snoc bodies body all.1 size)

pub last_recorded-snoc : (bodies : List (List ℕ)) (body : List ℕ) → last_recorded (bodies ++ body ∷ []) ≡ recorded_by body
last_recorded-snoc [] body = refl
last_recorded-snoc (b ∷ []) body = refl
last_recorded-snoc (b ∷ c ∷ bodies) body = last_recorded-snoc (c ∷ bodies) body

pub shut_log : (bodies : List (List ℕ)) (gate : ℕ) (rest bytes : List ℕ) → AreBodies bodies → gate ≢ 1 → bytes ≡ opened bodies ++ gate ∷ rest → IsLog bodies bytes
shut_log bodies gate rest bytes sizes shut is = record { rest = gate ∷ rest; parts = is; sizes = sizes; ends = inr shut }

pub shut_at : (front : List ℕ) (gate : ℕ) (rest bytes : List ℕ) → gate ≢ 1 → bytes ≡ front ++ gate ∷ rest → IsShutAt (length front) bytes
shut_at front gate rest bytes shut is = grind (arith, get_or, get_or_at, length-append)

-- ---- a log has one list of records

not_ended : (e body rest : List ℕ) → length body ≡ 49 → EndsHere e → e ≡ 1 ∷ body ++ rest → ⊥
not_ended e body rest size (inl short) is = omega (arith, ap length is, length-append body rest)
not_ended e body rest size (inr shut) is = shut (ap (λ (l : List ℕ). get_or l 0 0) is)

same_bodies : (xs ys : List (List ℕ)) (e f : List ℕ) → AreBodies xs → AreBodies ys → EndsHere e → EndsHere f → opened xs ++ e ≡ opened ys ++ f → xs ≡ ys
same_bodies [] [] e f a b p q is = refl
same_bodies [] (y ∷ ys) e f a b p q is = absurd (not_ended e y (opened ys ++ f) b.0 p (is ∙ append_assoc (1 ∷ y) (opened ys) f))
same_bodies (x ∷ xs) [] e f a b p q is = absurd (not_ended f x (opened xs ++ e) a.0 q (sym is ∙ append_assoc (1 ∷ x) (opened xs) e))
same_bodies (x ∷ xs) (y ∷ ys) e f a b p q is =
    let behind : x ++ (opened xs ++ e) ≡ y ++ (opened ys ++ f) = sym (append_assoc x (opened xs) e) ∙ ap (λ (l : List ℕ). drop 1 l) is ∙ append_assoc y (opened ys) f in
    let first : x ≡ y = sym (take_at x (opened xs ++ e) 49 a.0) ∙ ap (λ (l : List ℕ). take 49 l) behind ∙ take_at y (opened ys ++ f) 49 b.0 in
    let others : xs ≡ ys = same_bodies xs ys e f a.1 b.1 p q (sym (drop_at x (opened xs ++ e) 49 a.0) ∙ ap (λ (l : List ℕ). drop 49 l) behind ∙ drop_at y (opened ys ++ f) 49 b.0) in
    λ i. first i ∷ others i

pub one_log : (xs ys : List (List ℕ)) (bytes : List ℕ) → IsLog xs bytes → IsLog ys bytes → xs ≡ ys
one_log xs ys bytes a b = same_bodies xs ys a.rest b.rest a.sizes b.sizes a.ends b.ends (sym a.parts ∙ b.parts)

-- ---- the writes of a commit: in front are the records

pub kept_before : (at count : ℕ) (old new : Option (List ℕ)) → TornWrite at count old new → at ≤ length (bytes_in old) → take at (bytes_in new) ≡ take at (bytes_in old)
kept_before at count old new torn within = grind arith

just_behind : (front : List ℕ) (gate : ℕ) (rest : List ℕ) → drop (length front + 1) (front ++ gate ∷ rest) ≡ rest
just_behind front gate rest =
    ap (λ (l : List ℕ). drop (length front + 1) l) (sym (append_assoc front (gate ∷ []) rest)) ∙ drop_at (front ++ gate ∷ []) rest (length front + 1) (omega (arith, length-append front (gate ∷ [])))

behind : (front : List ℕ) (gate : ℕ) (rest : List ℕ) (n : ℕ) → drop (length front + 1 + n) (front ++ gate ∷ rest) ≡ drop n rest
behind front gate rest n = sym (drop-drop n (length front + 1) (front ++ gate ∷ rest)) ∙ ap (λ (l : List ℕ). drop n l) (just_behind front gate rest)

up_to : (front : List ℕ) (gate : ℕ) (rest : List ℕ) → take (length front + 1) (front ++ gate ∷ rest) ≡ front ++ gate ∷ []
up_to front gate rest =
    ap (λ (l : List ℕ). take (length front + 1) l) (sym (append_assoc front (gate ∷ []) rest))
    ∙ take_at (front ++ gate ∷ []) rest (length front + 1) (omega (arith, length-append front (gate ∷ [])))

pub torn_record : (front : List ℕ) (gate : ℕ) (tail : List ℕ) (count : ℕ) (old new : Option (List ℕ)) → TornWrite (length front + 1) count old new → bytes_in old ≡ front ++ gate ∷ tail
    → bytes_in new ≡ front ++ gate ∷ drop (length front + 1) (bytes_in new)
torn_record front gate tail count old new torn is =
    let n = length front + 1 in
    let c = bytes_in new in
    let within : n ≤ length (bytes_in old) = omega (arith, ap length is, length-append front (gate ∷ tail)) in
    let kept : take n c ≡ front ++ gate ∷ [] = kept_before n count old new torn within ∙ ap (λ (l : List ℕ). take n l) is ∙ up_to front gate tail in
    sym (take-append-drop n c) ∙ ap (λ (l : List ℕ). l ++ drop n c) kept ∙ append_assoc front (gate ∷ []) (drop n c)

pub whole_record : (front : List ℕ) (gate : ℕ) (tail bytes new : List ℕ) → IsWrittenAt (front ++ gate ∷ tail) (length front + 1) bytes new → new ≡ front ++ gate ∷ (bytes ++ drop (length bytes) tail)
whole_record front gate tail bytes new is = grind (arith, up_to, behind, append_assoc)

pub torn_gate : (front : List ℕ) (gate : ℕ) (tail : List ℕ) (old new : Option (List ℕ)) → TornWrite (length front) 1 old new → bytes_in old ≡ front ++ gate ∷ tail
    → bytes_in new ≡ front ++ get_or (bytes_in new) (length front) 0 ∷ tail
torn_gate front gate tail old new torn is = grind (arith, length-append, just_behind, kept_before, take_at, get_or, drop_more, take-append-drop)

pub whole_gate : (front : List ℕ) (gate : ℕ) (tail new : List ℕ) → IsWrittenAt (front ++ gate ∷ tail) (length front) (1 ∷ []) new → new ≡ front ++ 1 ∷ tail
whole_gate front gate tail new is = grind (arith, take_at, just_behind, append_assoc)
