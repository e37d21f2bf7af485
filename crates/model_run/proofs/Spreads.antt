-- A posting came to every carrier from just one system: the consequences for the links.
use Rattle.std.{proofs.Common.{◌≡◌, ◌≢◌, ◌⊎◌, inl, inr, refl, sym, subst, ap, ◌∙◌, ℕ, zero, suc, ◌+◌, ◌≤◌, arith, IsTrue, List, [], ◌∷◌, ◌++◌, length, length-append, Some, None}, specs.Prelude.{Bool, true, false}}
use Rattle.echo_addr.specs.{declared.address.Address.Address, declared.address.NetNode.NetNode, Address.net_node_of}
use Rattle.model_graph.{specs.Walk.Reaches, proofs.Members.Reaches-trans}
use Rattle.echo_links.proofs.Addresses.{same_address_decides}
use Rattle.echo_filed.specs.Filed.{Filed}
use Rattle.model_steps.specs.Scanning.{is_seen_by}
use Rattle.model_run.proofs.{Lists.not_both, Lists.yes_or_no, Targets.some_same, Targets.none_some}

-- y has the net and node of u or of a link of u
abbrev pub IsNear : (Address → Address → Bool) → Address → Address → Type 0
IsNear linked u y = (net_node_of y ≡ net_node_of u) ⊎ ((z : Address) × IsTrue (linked u z) × (net_node_of y ≡ net_node_of z))

-- the message came to x from a link that holds it, which added itself to PATH, and itself and its links to SEEN-BY
pub record Came (linked : Address → Address → Bool) (Holds : Address → Filed → Type 0) (x : Address) (m : Filed) : Type 0 where
  pub from : Address
  pub original : Filed
  pub holds : Holds from original
  pub sender : m.sender ≡ Some from
  pub link : IsTrue (linked from x)
  pub back : IsTrue (linked x from)
  pub unseen : is_seen_by original x ≡ false
  pub path : m.echo.path ≡ original.echo.path ++ net_node_of from ∷ []
  pub seen_from : (y : Address) → is_seen_by m y ≡ true → (is_seen_by original y ≡ true) ⊎ IsNear linked from y
  pub seen_to : (y : Address) → (is_seen_by original y ≡ true) ⊎ IsNear linked from y → is_seen_by m y ≡ true

-- each carrier holds the message once; each except the poster has it from a link; an unlisted link has it from no other
-- system
pub record Spread (linked : Address → Address → Bool) (Carrier : Address → Type 0) (f : Address) (Holds : Address → Filed → Type 0) : Type 0 where
  pub posting : Filed
  pub at_poster : Holds f posting
  pub own : posting.sender ≡ None
  pub no_path : posting.echo.path ≡ []
  pub unlisted : (y : Address) → is_seen_by posting y ≡ false
  pub carriers : (x : Address) (m : Filed) → Holds x m → Carrier x
  pub all : (x : Address) → Carrier x → (m : Filed) × Holds x m
  pub one : (x : Address) (m n : Filed) → Holds x m → Holds x n → m ≡ n
  pub came : (x : Address) (m : Filed) → Holds x m → (x ≡ f) ⊎ Came linked Holds x m
  pub sole : (u : Address) (n : Filed) (y : Address) (m : Filed) → Holds u n → IsTrue (linked u y) → is_seen_by n y ≡ false → n.sender ≢ Some y →
      Holds y m → m.sender ≡ Some u

pub one_or_two : (a b : Address) → (a ≡ b) ⊎ (a ≢ b)
one_or_two a b = grind (arith, yes_or_no, same_address_decides, not_both)

module _ (linked : Address → Address → Bool) (Carrier : Address → Type 0) (f : Address) (Holds : Address → Filed → Type 0)
    (spread : Spread linked Carrier f Holds) where
  open spread use {posting}

  -- a system holds the posting as its poster, or its message came
  pub source : (x : Address) (m : Filed) → Holds x m → ((x ≡ f) × (m ≡ posting)) ⊎ Came linked Holds x m
  source x m h = grind arith

  -- a message with a sender came from it
  pub came_from : (x : Address) (m : Filed) → Holds x m → (u : Address) → m.sender ≡ Some u → (c : Came linked Holds x m) × (c.from ≡ u)
  came_from x m h u e =
      elim (source x m h) [
        | inl here ↦ absurd (none_some (sym spread.own ∙ (ap (λ (n : Filed). n.sender) (sym here.1) ∙ e)))
        | inr came ↦ (came, some_same (sym came.sender ∙ e))
      ]

  -- a link of the poster has the message from it
  pub from_poster : (y : Address) (m : Filed) → IsTrue (linked f y) → Holds y m → m.sender ≡ Some f
  from_poster y m link h = grind (arith, none_some)

  pub longer : (x : Address) (m : Filed) (c : Came linked Holds x m) → length m.echo.path ≡ length c.original.echo.path + 1
  longer x m c = ap (λ (es : List NetNode). length es) c.path ∙ length-append c.original.echo.path (net_node_of c.from ∷ [])

  -- some walk leads from the poster to each holder
  walks : (n : ℕ) (x : Address) (m : Filed) → length m.echo.path ≤ n → Holds x m → Reaches linked f x
  walks zero x m few h =
      elim (source x m h) [
        | inl here ↦ ([], sym here.0)
        | inr c ↦ absurd (let long = longer x m c in omega arith)
      ]
  walks (suc n) x m few h =
      elim (source x m h) [
        | inl here ↦ ([], sym here.0)
        | inr c ↦ Reaches-trans linked f c.from x (walks n c.from c.original (let long = longer x m c in omega arith) c.holds) (x ∷ [], (c.link, refl))
      ]

  pub reached : (x : Address) → Carrier x → Reaches linked f x
  reached x carries = let (m, h) = spread.all x carries in walks (length m.echo.path) x m (omega arith) h

  pub answered : (y : Address) → Carrier y → IsTrue (linked f y) → IsTrue (linked y f)
  answered y carries link = grind (arith, came_from, from_poster)

  -- only the poster sends the message to a system in the poster's SEEN-BY
  module _ (y : Address) (near : IsNear linked f y) where
    listed : (n : ℕ) (x : Address) (m : Filed) → length m.echo.path ≤ n → Holds x m → x ≢ f → is_seen_by m y ≡ true
    listed zero x m few h other =
        elim (source x m h) [
          | inl here ↦ absurd (other here.0)
          | inr c ↦ absurd (let long = longer x m c in omega arith)
        ]
    listed (suc n) x m few h other =
        elim (source x m h) [
          | inl here ↦ absurd (other here.0)
          | inr c ↦ elim (one_or_two c.from f) [
            | inl e ↦ (let P : Address → Type 0 = λ a. IsNear linked a y in c.seen_to y (inr (subst P (sym e) near)))
            | inr later ↦ c.seen_to y (inl (listed n c.from c.original (let long = longer x m c in omega arith) c.holds later))
          ]
        ]

    -- so no carrier is hidden in it unless it is a link of the poster
    pub not_hidden : Carrier y → y ≢ f → IsTrue (linked f y)
    not_hidden carries other = grind (arith, source, one_or_two, not_both, listed)

  -- if links are carriers, and carriers differ by net and node
  module _ (known : (a b : Address) → IsTrue (linked a b) → Carrier b)
      (apart : (a b : Address) → Carrier a → Carrier b → net_node_of a ≡ net_node_of b → a ≡ b) where
    pub near-is : (u y : Address) → Carrier u → Carrier y → IsNear linked u y → (y ≡ u) ⊎ IsTrue (linked u y)
    near-is u y at_u at_y near =
        elim near [
          | inl same ↦ inl (apart y u at_y at_u same)
          | inr link ↦ (let (z, to_z, same) = link in
              inr (rw (← (apart y z at_y (known u z to_z) same)) at to_z))
        ]

    -- the copies that the poster sent list it and its links
    pub first_seen : (u y : Address) (n : Filed) → IsTrue (linked f u) → Holds u n → Carrier y → is_seen_by n y ≡ true → (y ≡ f) ⊎ IsTrue (linked f y)
    first_seen u y n link h at_y seen =
        let (c, from) = came_from u n h f (from_poster u n link h) in
        let is_posting = spread.one f c.original posting (rw from at c.holds) spread.at_poster in
        elim (c.seen_from y seen) [
          | inl before ↦ absurd (not_both (is_seen_by posting y) (ap (λ (m : Filed). is_seen_by m y) (sym is_posting) ∙ before) (spread.unlisted y))
          | inr near ↦ near-is f y (spread.carriers f posting spread.at_poster) at_y (rw from at near)
        ]

    -- two links of the poster are not both linked with a system that is no link of it
    pub no_kite : (b x y : Address) → IsTrue (linked f b) → IsTrue (linked f x) → IsTrue (linked b y) → IsTrue (linked x y) →
        y ≢ f → ¬ IsTrue (linked f y) → b ≡ x
    no_kite b x y to_b to_x b_y x_y other unlinked = grind (arith, yes_or_no, first_seen, some_same, from_poster)
