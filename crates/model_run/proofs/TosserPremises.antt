-- The number of messages in a list with a key.
use Rattle.std.proofs.{Common.{◌≡◌, ◌≢◌, ◌⊎◌, inl, inr, refl, sym, ap, ◌∙◌, ℕ, ◌+◌, ◌≤◌, arith, Bool, IsTrue, List, [], ◌∷◌, ◌++◌, cond, map, None}, lemmas.Bool.{cases_Bool, both_ways}}
use Rattle.model_graph.specs.Walk.{Among, Different}
use Rattle.echo_addr.specs.{declared.address.Address.Address, declared.address.NetNode.NetNode, Address.IsAddress}
use Rattle.echo_text.specs.{Echo.EchoText, Echo.IsEcho, Refusal.text_refusal, Ids.id_of}
use Rattle.model_steps.specs.{declared.draft.Draft.Draft, declared.stamp.Stamp.Stamp, Posting.IsAllowed, Posting.posted, Scanning.exported}
use Rattle.echo_links.specs.Links.{LinkFile, same_address, upper, IsFile}
use Rattle.echo_filed.specs.{declared.key.Key.TheVariants.ById, Sets.address_set, Sets.entry_set, Sets.same_entry, Filed.Filed, Filed.key_of, Filed.same_key, Stubs.stub_of, Written.echo_of, Written.text_of}

-- a test of equality
pub record Tells {K : Type 0} (same : K → K → Bool) : Type 0 where
  pub sound : (a b : K) → IsTrue (same a b) → a ≡ b
  pub full : (a b : K) → a ≡ b → IsTrue (same a b)

pub Tells-can : {K : Type 0} (same : K → K → Bool) → Tells same → (a b : K) → (a ≡ b) ⊎ (a ≢ b)
Tells-can same tells a b =
    elim (cases_Bool (same a b)) [
      | inl t ↦ inl (tells.sound a b t)
      | inr f ↦ inr (λ e. both_ways (same a b) f (tells.full a b e))
    ]

-- 1 if the test says yes
abbrev pub one_if : Bool → ℕ
one_if b = cond b 1 0

one_if-true : (b : Bool) → IsTrue b → one_if b ≡ 1
one_if-true b h1 = grind arith

one_if-false : (b : Bool) → ¬ IsTrue b → one_if b ≡ 0
one_if-false b h1 = grind arith

pub one_if-most : (b : Bool) → one_if b ≤ 1
one_if-most b = grind arith

module _ {K M : Type 0} (key : M → K) (same : K → K → Bool) where
  -- the number of messages with the key
  abbrev pub count : K → List M → ℕ
  count k [] = 0
  count k (m ∷ ms) = one_if (same (key m) k) + count k ms

  pub count-append : (k : K) (xs ys : List M) → count k (xs ++ ys) ≡ count k xs + count k ys
  count-append k [] ys = omega arith
  count-append k (m ∷ xs) ys = omega (arith, count-append k xs ys)

module _ {K M : Type 0} (key : M → K) (same : K → K → Bool) (tells : Tells same) where
  one : (k : K) (m : M) → key m ≡ k → one_if (same (key m) k) ≡ 1
  one k m e = one_if-true (same (key m) k) (tells.full (key m) k e)

  none : (k : K) (m : M) → key m ≢ k → one_if (same (key m) k) ≡ 0
  none k m other = one_if-false (same (key m) k) (λ t. other (tells.sound (key m) k t))

  pub count-has : (k : K) (ms : List M) (m : M) → Among m ms → key m ≡ k → 1 ≤ count key same k ms
  count-has k [] m h e = absurd h
  count-has k (x ∷ ms) m h e = grind (arith, one, count-has k ms m)

  pub count-none : (k : K) (ms : List M) → ((m : M) → Among m ms → key m ≢ k) → count key same k ms ≡ 0
  count-none k [] h = refl
  count-none k (x ∷ ms) h = omega (arith, none k x (h x (inl refl)), count-none k ms (λ m i. h m (inr i)))

  pub count-names_one : (k : K) (ms : List M) → count key same k ms ≤ 1 → (a b : M) → Among a ms → Among b ms → key a ≡ k → key b ≡ k → a ≡ b
  count-names_one k [] h a b at_a at_b e q = absurd at_a
  count-names_one k (x ∷ ms) h a b at_a at_b e q = grind (arith, one, count-has, count-names_one k ms (omega arith) a b)

  pub count-different : (k : K) (ms : List M) → Different (map key ms) → count key same k ms ≤ 1
  count-different k [] d = omega arith
  count-different k (x ∷ ms) d =
      elim (Tells-can same tells (key x) k) [
        | inl e ↦ omega (arith, one_if-most (same (key x) k), count-none k ms (λ m i q. d.0 (alike m i (e ∙ sym q))))
        | inr other ↦ omega (arith, none k x other, count-different k ms d.1)
      ]
    where
      alike : (m : M) → Among m ms → key x ≡ key m → Among (key x) (map key ms)
      alike m i e = found ms i
        where
          found : (ns : List M) → Among m ns → Among (key x) (map key ns)
          found [] h = h
          found (n ∷ ns) h = elim h [ inl q ↦ inl (e ∙ ap key q) | inr t ↦ inr (found ns t) ]

-- The premises of a net's runs: the laws of one tosser.

pub record Laws : Type 0 where
  pub addresses : Tells same_address
  pub entries : Tells same_entry
  pub keys : Tells same_key
  pub stub_key : (m : Filed) → key_of (stub_of m) ≡ key_of m
  pub stub_again : (m : Filed) → stub_of (stub_of m) ≡ stub_of m
  pub posted_key : (file : LinkFile) (tag : List ℕ) (draft : Draft) (serial : ℕ) (stamp : Stamp) → IsFile file →
      key_of (posted file tag draft serial stamp) ≡ ById (upper tag) (id_of file.system serial)
  pub posted_text : (file : LinkFile) (base : List Filed) (tag : List ℕ) (draft : Draft) (serial : ℕ) (stamp : Stamp) → IsFile file →
      IsAllowed file base tag draft serial stamp → IsEcho (posted file tag draft serial stamp).echo
  pub exported_text : (file : LinkFile) (e : EchoText) → IsFile file → IsEcho e → IsEcho (exported file e)
  pub read_back : (e : EchoText) → IsEcho e → (text_refusal (text_of e) ≡ None) × (echo_of (text_of e) ≡ e)
  pub ids : (a b : Address) (serial other : ℕ) → IsAddress a → IsAddress b → id_of a serial ≡ id_of b other → a ≡ b
  pub set_only : (n : NetNode) (all : List NetNode) → Among n (entry_set all) → Among n all
  pub set_all : (n : NetNode) (all : List NetNode) → Among n all → Among n (entry_set all)
  pub addresses_only : (a : Address) (all : List Address) → Among a (address_set all) → Among a all
  pub addresses_all : (a : Address) (all : List Address) → Among a all → Among a (address_set all)
  pub addresses_once : (all : List Address) → Different (address_set all)
