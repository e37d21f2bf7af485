-- A posting spreads in branches, one for each link of the poster; links join two branches only at those links.
use Rattle.std.{proofs.Common.{◌≡◌, ◌≢◌, ◌⊎◌, inl, inr, refl, sym, subst, ◌∙◌, ℕ, zero, suc, ◌≤◌, arith, IsTrue, List, [], ◌∷◌, ◌++◌, length}, specs.Prelude.{Bool, true, false}}
use Rattle.echo_addr.specs.{declared.address.Address.Address, declared.address.NetNode.NetNode, Address.net_node_of}
use Rattle.model_graph.specs.Walk.{Among, Simple, Walk}
use Rattle.echo_filed.specs.Filed.{Filed}
use Rattle.model_steps.specs.Scanning.{is_seen_by}
use Rattle.model_run.proofs.{Spreads.{Came, IsNear, Spread, came_from, first_seen, from_poster, longer, near-is, one_or_two, source}, Lists.{not_both, yes_or_no}}

-- the second entry of a path, or the system's entry if there is none
abbrev pub second : NetNode → List NetNode → NetNode
second own [] = own
second own (e ∷ []) = own
second own (e ∷ g ∷ path) = g

second-more : (own e g : NetNode) (path : List NetNode) → second own ((path ++ g ∷ []) ++ e ∷ []) ≡ second e (path ++ g ∷ [])
second-more own e g [] = refl
second-more own e g (h ∷ []) = refl
second-more own e g (h ∷ k ∷ path) = refl

-- the first system after the poster on the message's way: the second entry of PATH, or the holder itself
abbrev branch : Address → Filed → NetNode
branch x m = second (net_node_of x) m.echo.path

module _ (linked : Address → Address → Bool) (Carrier : Address → Type 0) (f : Address) (Holds : Address → Filed → Type 0)
    (spread : Spread linked Carrier f Holds) (simple : Simple linked)
    (known : (a b : Address) → IsTrue (linked a b) → Carrier b)
    (apart : (a b : Address) → Carrier a → Carrier b → net_node_of a ≡ net_node_of b → a ≡ b) where
  open spread use {posting}

  -- a message from a system other than the poster keeps its branch
  same_branch : (x : Address) (m : Filed) (c : Came linked Holds x m) → c.from ≢ f → branch x m ≡ branch c.from c.original
  same_branch x m c other = grind (arith, source, second-more)

  -- a link of the poster begins a branch
  own_branch : (x : Address) (m : Filed) → IsTrue (linked f x) → Holds x m → branch x m ≡ net_node_of x
  own_branch x m link h = grind (arith, came_from, from_poster)

  -- a system other than the poster sends a message within its branch
  sent_on : (u : Address) (n : Filed) → Holds u n → u ≢ f → (y : Address) (k : Filed) → Holds y k → IsTrue (linked u y) →
      is_seen_by n y ≡ false → branch u n ≡ branch y k
  sent_on u n at_u u_other y k at_y link unseen = grind (arith, came_from, not_both, same_branch)

  -- a system in SEEN-BY is a link of the poster, or belongs to the branch
  module _ (y : Address) (k : Filed) (at_y : Holds y k) (y_other : y ≢ f) where
    seen_side : (n : ℕ) (x : Address) (m : Filed) → length m.echo.path ≤ n → Holds x m → x ≢ f → is_seen_by m y ≡ true →
        IsTrue (linked f y) ⊎ (branch x m ≡ branch y k)
    seen_side zero x m few h other seen =
        elim (source linked Carrier f Holds spread x m h) [
          | inl here ↦ absurd (other here.0)
          | inr c ↦ absurd (let long = longer linked Carrier f Holds spread x m c in omega arith)
        ]
    seen_side (suc n) x m few h other seen =
        elim (source linked Carrier f Holds spread x m h) [
          | inl here ↦ absurd (other here.0)
          | inr c ↦ elim (one_or_two c.from f) [
            | inl e ↦ (elim (first_seen linked Carrier f Holds spread known apart x y m (rw e at c.link) h (spread.carriers y k at_y) seen) [
              | inl here ↦ absurd (y_other here)
              | inr link ↦ inl link
            ])
            | inr later ↦ from_branch c later
                (λ before. seen_side n c.from c.original (let long = longer linked Carrier f Holds spread x m c in omega arith) c.holds later before)
                (c.seen_from y seen)
          ]
        ]
      where
        from_branch : (c : Came linked Holds x m) → c.from ≢ f →
            (is_seen_by c.original y ≡ true → IsTrue (linked f y) ⊎ (branch c.from c.original ≡ branch y k)) →
            (is_seen_by c.original y ≡ true) ⊎ IsNear linked c.from y → IsTrue (linked f y) ⊎ (branch x m ≡ branch y k)
        from_branch c later before where_seen =
            let up = same_branch x m c later in
            let further : IsTrue (linked f y) ⊎ (branch c.from c.original ≡ branch y k) → IsTrue (linked f y) ⊎ (branch x m ≡ branch y k) = λ side.
            (elim side [ inl t ↦ inl t | inr e ↦ inr (up ∙ e) ]) in
            elim where_seen [
              | inl seen ↦ further (before seen)
              | inr near ↦ elim (near-is linked Carrier f Holds spread known apart c.from y (spread.carriers c.from c.original c.holds) (spread.carriers y k at_y) near) [
                | inl e ↦ grind arith
                | inr link ↦ grind (arith, yes_or_no, sent_on)
              ]
            ]

  one_side : (x : Address) (m : Filed) (y : Address) (k : Filed) → Holds x m → Holds y k → x ≢ f → y ≢ f → IsTrue (linked x y) →
      IsTrue (linked f y) ⊎ (branch x m ≡ branch y k)
  one_side x m y k at_x at_y x_other y_other link =
      elim (yes_or_no (is_seen_by m y)) [
        | inl seen ↦ seen_side y k at_y y_other (length m.echo.path) x m (omega arith) at_x x_other seen
        | inr unseen ↦ inr (sent_on x m at_x x_other y k at_y link unseen)
      ]

  -- a link joins two systems of one branch, or two links of the poster
  both_sides : (x : Address) (m : Filed) (y : Address) (k : Filed) → Holds x m → Holds y k → x ≢ f → y ≢ f → IsTrue (linked x y) →
      (IsTrue (linked f x) × IsTrue (linked f y)) ⊎ (branch x m ≡ branch y k)
  both_sides x m y k at_x at_y x_other y_other link = grind (arith, one_side)

-- d is a or a link of a
abbrev pub Touches : (Address → Address → Bool) → Address → Address → Type 0
Touches linked a d = (d ≡ a) ⊎ IsTrue (linked a d)

pub touches-cases : (linked : Address → Address → Bool) (a d : Address) → Touches linked a d ⊎ (¬ Touches linked a d)
touches-cases linked a d = grind (arith, one_or_two, yes_or_no, not_both)

-- of two linked links of b, c touches both or neither, if c is in no kite
pub closed-by : (linked : Address → Address → Bool) (b c : Address) → ¬ IsTrue (linked b b) →
    ((x y : Address) → IsTrue (linked c x) → IsTrue (linked b y) → IsTrue (linked x y) → y ≢ c → ¬ IsTrue (linked c y) → b ≡ x) →
    (x y : Address) → IsTrue (linked b x) → IsTrue (linked b y) → IsTrue (linked x y) → Touches linked c x → Touches linked c y
closed-by linked b c not_self no_kite x y to_x to_y side touches = grind (arith, touches-cases)

module _ (linked : Address → Address → Bool) (Carrier : Address → Type 0) (f : Address) (Holds : Address → Filed → Type 0)
    (spread : Spread linked Carrier f Holds) (simple : Simple linked)
    (known : (a b : Address) → IsTrue (linked a b) → Carrier b)
    (apart : (a b : Address) → Carrier a → Carrier b → net_node_of a ≡ net_node_of b → a ≡ b) (a : Address)
    (closed : (x y : Address) → IsTrue (linked f x) → IsTrue (linked f y) → IsTrue (linked x y) → Touches linked a x → Touches linked a y) where
  -- a system that holds a message of a branch; the branch begins with a or a link of a
  record IsClose (x : Address) : Type 0 where
    message : Filed
    holds : Holds x message
    first : Address
    is_first : branch x message ≡ net_node_of first
    touches : Touches linked a first
    from_f : IsTrue (linked f first)

  stays_close : (x y : Address) → IsTrue (linked x y) → x ≢ f → y ≢ f → IsClose x → IsClose y
  stays_close x y link x_other y_other close =
      let (k, at_y) = spread.all y (known x y link) in
      elim (both_sides linked Carrier f Holds spread simple known apart x close.message y k close.holds at_y x_other y_other link) [
        | inr same ↦ record { message = k; holds = at_y; first = close.first; is_first = sym same ∙ close.is_first; touches = close.touches; from_f = close.from_f }
        | inl both ↦ (
            let own = own_branch linked Carrier f Holds spread simple known apart in
            let here : close.first ≡ x = apart close.first x (known f close.first close.from_f) (known f x both.0)
            (sym close.is_first ∙ own x close.message both.0 close.holds) in
            let P : Address → Type 0 = λ z. Touches linked a z in
            grind arith
            )
      ]

  along_walk : (x : Address) (rest : List Address) (c : Address) → Walk linked x rest c → ¬ Among f (x ∷ rest) → IsClose x → IsClose c
  along_walk x [] c w around close = let P : Address → Type 0 = IsClose in subst P w close
  along_walk x (y ∷ rest) c w around close = grind (arith, stays_close, along_walk y rest c w.1)

  -- no walk leads around the poster from one of its links to another that is not linked with it
  pub no_way_around : (c : Address) → IsTrue (linked f a) → IsTrue (linked f c) → ¬ Touches linked a c →
      (rest : List Address) → Walk linked a rest c → ¬ Among f (a ∷ rest) → ⊥
  no_way_around c to_a to_c none rest w around =
      let own = own_branch linked Carrier f Holds spread simple known apart in
      let (m, h) = spread.all a (known f a to_a) in
      let close = along_walk a rest c w around (grind arith) in
      let here : close.first ≡ c = apart close.first c (known f close.first close.from_f) (known f c to_c)
      (sym close.is_first ∙ own c close.message to_c close.holds) in
      none (rw here at close.touches)
