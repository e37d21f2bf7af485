-- The files of a folder are in it, and their paths differ.
use Rattle.std.proofs.Common.{◌==◌, ◌&&◌, not, true, ◌≡◌, ◌≢◌, ℕ, ◌+◌, List, [], ◌∷◌, ◌++◌, get_or, inl, inr, refl, sym, subst, ap, arith, All}
use Rattle.std.proofs.lemmas.{List.append_cancel_left, List.Elements.All-weaker, List.Sums.AllPass-from_list_all, Bool.eqb-false, Bool.ne_eqb, Bool.not-true}
use Rattle.std.specs.List.{list_all}
use Rattle.disk_io.specs.Disk.{IsIn}
use Rattle.base_log.specs.{Names.IsFileOf, Names.IsOtherNumber, Names.log_of, Names.messages_of, Names.keys_of, declared.names.TheConstants.LOG, declared.names.TheConstants.MESSAGES, declared.names.TheConstants.KEYS}

pub log_not_messages : (path : List ℕ) (n : ℕ) → log_of path ≢ messages_of path n
log_not_messages path n is = absurd (omega (arith, ap (λ (l : List ℕ). get_or l 0 0) (append_cancel_left path LOG.now (MESSAGES.now ++ (48 + n) ∷ []) is)))

pub log_not_keys : (path : List ℕ) (n : ℕ) → log_of path ≢ keys_of path n
log_not_keys path n is = absurd (omega (arith, ap (λ (l : List ℕ). get_or l 0 0) (append_cancel_left path LOG.now (KEYS.now ++ (48 + n) ∷ []) is)))

pub messages_not_keys : (path : List ℕ) (n m : ℕ) → messages_of path n ≢ keys_of path m
messages_not_keys path n m is = absurd (omega (arith, ap (λ (l : List ℕ). get_or l 0 0) (append_cancel_left path (MESSAGES.now ++ (48 + n) ∷ []) (KEYS.now ++ (48 + m) ∷ []) is)))

pub messages_not_log : (path : List ℕ) (n : ℕ) → messages_of path n ≢ log_of path
messages_not_log path n is = log_not_messages path n (sym is)

pub keys_not_log : (path : List ℕ) (n : ℕ) → keys_of path n ≢ log_of path
keys_not_log path n is = log_not_keys path n (sym is)

pub keys_not_messages : (path : List ℕ) (n m : ℕ) → keys_of path n ≢ messages_of path m
keys_not_messages path n m is = messages_not_keys path m n (sym is)

pub messages_of-injective : (path : List ℕ) (n m : ℕ) → messages_of path n ≡ messages_of path m → n ≡ m
messages_of-injective path n m is = omega (arith, ap (λ (l : List ℕ). get_or l 9 0) (append_cancel_left path (MESSAGES.now ++ (48 + n) ∷ []) (MESSAGES.now ++ (48 + m) ∷ []) is))

pub keys_of-injective : (path : List ℕ) (n m : ℕ) → keys_of path n ≡ keys_of path m → n ≡ m
keys_of-injective path n m is = omega (arith, ap (λ (l : List ℕ). get_or l 5 0) (append_cancel_left path (KEYS.now ++ (48 + n) ∷ []) (KEYS.now ++ (48 + m) ∷ []) is))

no_slash : (xs : List ℕ) → list_all (λ b. not (b == 47)) xs ≡ true → All (λ b. b ≢ 47) xs
no_slash xs h = All-weaker (λ b. not (b == 47) ≡ true) (λ b. b ≢ 47) (λ b is. eqb-false b 47 (not-true (b == 47) is)) xs (AllPass-from_list_all (λ b. not (b == 47)) xs h)

digit : (n : ℕ) → (not ((48 + n) == 47) && true) ≡ true
digit n = ap (λ b. not b && true) (ne_eqb (48 + n) 47 (λ is. omega (arith, is)))

pub log_in : (path : List ℕ) → IsIn path (log_of path)
log_in path = record { name = LOG.now; parts = refl; plain = no_slash LOG.now refl }

pub messages_in : (path : List ℕ) (n : ℕ) → IsIn path (messages_of path n)
messages_in path n = record { name = MESSAGES.now ++ (48 + n) ∷ []; parts = refl; plain = no_slash (MESSAGES.now ++ (48 + n) ∷ []) (digit n) }

pub keys_in : (path : List ℕ) (n : ℕ) → IsIn path (keys_of path n)
keys_in path n = record { name = KEYS.now ++ (48 + n) ∷ []; parts = refl; plain = no_slash (KEYS.now ++ (48 + n) ∷ []) (digit n) }

pub log_own : (path : List ℕ) → IsFileOf path (log_of path)
log_own path = inl refl

pub messages_own : (path : List ℕ) (n : ℕ) → IsFileOf path (messages_of path n)
messages_own path n = inr (n, inl refl)

pub keys_own : (path : List ℕ) (n : ℕ) → IsFileOf path (keys_of path n)
keys_own path n = inr (n, inr refl)

pub own_in : (path m : List ℕ) → IsFileOf path m → IsIn path m
own_in path m own = grind (arith, log_in, messages_in, keys_in)

pub other_than : (path file m : List ℕ) → IsFileOf path file → (IsFileOf path m → ⊥) → m ≢ file
other_than path file m own out is = out (subst (λ (l : List ℕ). IsFileOf path l) (sym is) own)

pub not_own : (path m : List ℕ) → (IsIn path m → ⊥) → IsFileOf path m → ⊥
not_own path m out own = out (own_in path m own)

pub messages_others : (path : List ℕ) (n number : ℕ) → number ≢ n → IsOtherNumber path n (messages_of path number)
messages_others path n number other = grind (arith, messages_own, log_not_messages, messages_of-injective, keys_not_messages)

pub keys_others : (path : List ℕ) (n number : ℕ) → number ≢ n → IsOtherNumber path n (keys_of path number)
keys_others path n number other = grind (arith, keys_own, log_not_keys, messages_not_keys, keys_of-injective)
