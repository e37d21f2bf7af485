-- Properties of a run by the rules at all times.
use Rattle.std.specs.Prelude.{is_none, true}
use Rattle.std.proofs.Common.{◌≡◌, ◌≢◌, ◌⊎◌, IsTrue, List, map, Some, None, inl, inr, sym, subst, ◌∙◌, ◌∷◌, Option, arith}
use Rattle.model_graph.{specs.{Walk.{Among, Different, Simple, Reaches}, Beyond.{Beyond, IsWay, Parted}}, proofs.{Members.{CanTell, Among-at, linked_differ, walk_ends, Around-step, Around-trans, Beyond-from_no_around, no_around-from_Beyond}, Cycles.{Around-from_Beyond, Beyond-trans, way-not_beyond, link_cases, further, Parted-from_Polygons}}}
use Rattle.model_run.specs.{Events.Text, Events.Filed, Events.Copy, Events.Event, Events.filed, Events.exported, Events.copies, Events.came, Events.Has, Nets.Net, Nets.Tidy, RulesOrderly.place, RulesOrderly.goal, Rules.IsTarget, Rules.HasSeenBy}

-- a message of f came to y from u. All walks to f pass u. Its SEEN-BY has all links of both, and of the systems beyond y
-- only y
pub record Parent {A N : Type 0} (net : Net A N) (y f : A) (seen : List N) (u : A) : Type 0 where
  pub way : IsWay net.linked f y u
  pub outside : (d : A) → IsTrue (net.carries d) → Beyond net.linked y f d → d ≢ y → ¬ Among (net.net_node d) seen
  pub links : (l : A) → IsTrue (net.linked u l) → IsTrue (net.linked y l) → Among (net.net_node l) seen

-- a message was posted here and lists no other carrier, or came from a link
abbrev pub Source : {A N K C : Type 0} → Net A N → A → Filed A N K C → Type 0
Source {A} net f m =
    ((f ≡ m.at) × (m.sender ≡ None) × ((d : A) → IsTrue (net.carries d) → Among (net.net_node d) m.text.seen → d ≡ m.at))
    ⊎ ((u : A) × (m.sender ≡ Some u) × Parent net m.at f m.text.seen u)

-- the filed and exported messages, the copies sent, and the copies that came
pub record View (A N K C : Type 0) : Type 0 where
  pub filed : List (Filed A N K C)
  pub exported : List (Filed A N K C)
  pub copies : List (Copy A N K C)
  pub came : List (Copy A N K C)

abbrev pub view_of : {A N K C : Type 0} → List (Event A N K C) → View A N K C
view_of run = record { filed = filed run; exported = exported run; copies = copies run; came = came run }

module _ {A N K C : Type 0} (net : Net A N) (Same : C → C → Type 0) (v : View A N K C) where
  -- p is the posting of this text
  pub record IsPoster (p : Filed A N K C) (text : Text N K C) : Type 0 where
    pub is_filed : Among p v.filed
    pub own : p.sender ≡ None
    pub carrier : IsTrue (net.carries p.at)
    pub same_key : p.text.key ≡ text.key
    pub same_content : Same text.content p.text.content

  -- the invariant of a filed message
  pub record Good (m : Filed A N K C) : Type 0 where
    pub carrier : IsTrue (net.carries m.at)
    pub poster : Filed A N K C
    pub posted : IsPoster poster m.text
    pub source : Source net poster.at m

  -- the invariant of a sent copy
  pub record Sent (c : Copy A N K C) : Type 0 where
    pub carrier : IsTrue (net.carries c.to)
    pub poster : Filed A N K C
    pub posted : IsPoster poster c.text
    pub parent : Parent net c.to poster.at c.text.seen c.from
    pub is_exported : Has c.from c.text.key v.exported

  -- a copy with this key was sent to d
  abbrev pub IsSentTo : A → K → Type 0
  IsSentTo d key = (c : Copy A N K C) × Among c v.copies × (c.to ≡ d) × (c.text.key ≡ key)

  pub record Invariant : Type 0 where
    pub once : Different (map place v.filed)
    pub good : (m : Filed A N K C) → Among m v.filed → Good m
    pub one_posting : (p q : Filed A N K C) → Among p v.filed → Among q v.filed → p.sender ≡ None → q.sender ≡ None → p.text.key ≡ q.text.key → p ≡ q
    pub was_filed : (m : Filed A N K C) → Among m v.exported → Among m v.filed
    pub sent : (c : Copy A N K C) → Among c v.copies → Sent c
    pub sent_once : Different (map goal v.copies)
    pub passed_on : (m : Filed A N K C) → Among m v.exported →
        (p : Filed A N K C) → Among p v.filed → p.sender ≡ None → p.text.key ≡ m.text.key →
        (d : A) → IsTrue (net.linked m.at d) → Beyond net.linked m.at p.at d → IsSentTo d m.text.key
    pub known : (c : Copy A N K C) → Among c v.came → Has c.to c.text.key v.filed

-- The targets of a message are the links that lead away from its poster.

pub none_some : {X : Type 0} {x : X} → (let none : Option X = None in none ≡ Some x) → ⊥
none_some e = cc

pub is-none : {X : Type 0} (o : Option X) → is_none o ≡ true → o ≡ None
is-none o e = grind arith

pub some_same : {X : Type 0} {x y : X} → Some x ≡ Some y → x ≡ y
some_same e = cc

module _ {A N : Type 0} (can : CanTell A) (net : Net A N) (tidy : Tidy net) where
  pub simple : Simple net.linked
  simple = record { both_ways = tidy.joined.both; no_self = tidy.joined.no_self }

  pub parted : Parted net.linked
  parted = Parted-from_Polygons can net.linked simple tidy.cycles

  pub carriers_to : (a b : A) → IsTrue (net.linked a b) → IsTrue (net.carries b)
  carriers_to a b link = tidy.joined.carriers b a (tidy.joined.both a b link)

  -- every walk from anywhere to f passes f
  beyond_itself : (y f x : A) → f ≡ y → Beyond net.linked y f x
  beyond_itself y f x e rest w = Among-at y f (x ∷ rest) (sym e) (walk_ends net.linked x rest f w)

  -- if y parts x from f, all that x parts from f it also parts from y
  behind : (f y x d : A) → y ≢ x → Reaches net.linked x f → Beyond net.linked y f x → Beyond net.linked x f d → Beyond net.linked x y d
  behind f y x d other reaches beyond_y beyond_x =
      Beyond-from_no_around can net.linked x y d (λ around.
      no_around-from_Beyond net.linked x f d beyond_x
      (Around-trans net.linked x d y f around (Around-from_Beyond can net.linked simple f x y other reaches beyond_y)))

  -- if y parts x from f, it parts the links of x from f
  links_beyond : (f y x l : A) → y ≢ x → IsTrue (net.linked x l) → Beyond net.linked y f x → Beyond net.linked y f l
  links_beyond f y x l other link beyond =
      Beyond-from_no_around can net.linked y f l (λ around.
      no_around-from_Beyond net.linked y f x beyond (Around-step net.linked y x l f other link around))

  module _ {K C : Type 0} (f : A) (m : Filed A N K C) (at_m : IsTrue (net.carries m.at)) (at_f : IsTrue (net.carries f))
      (source : Source net f m) where
    reaches : Reaches net.linked m.at f
    reaches = tidy.joined.connected m.at f at_m at_f

    -- a target is beyond
    pub target-beyond : (x : A) → IsTarget net m x → Beyond net.linked m.at f x
    target-beyond x target =
        elim source [
          | inl here ↦ beyond_itself m.at f x here.0
          | inr came ↦ (let (u, is_sender, parent) = came in
              elim (can x u) [
                | inl e ↦ (let P : A → Type 0 = λ a. m.sender ≡ Some a in absurd (target.not_sender (subst P (sym e) is_sender)))
                | inr other ↦ elim (link_cases can net.linked simple parted f m.at u x reaches parent.way target.link other) [
                  | inl joined ↦ absurd (target.not_seen (parent.links x joined target.link))
                  | inr beyond ↦ beyond
                ]
              ])
        ]

    -- a link that is beyond is a target
    pub beyond-target : (x : A) → IsTrue (net.linked m.at x) → Beyond net.linked m.at f x → IsTarget net m x
    beyond-target x link beyond =
        elim source [
          | inl here ↦ grind (arith, linked_differ, simple, carriers_to)
          | inr came ↦ (let (u, is_sender, parent) = came in
              record {
                link = link;
                not_sender = λ e.
                    let same : u ≡ x = some_same (sym is_sender ∙ e) in
                    way-not_beyond can net.linked simple f m.at u reaches parent.way (rw (← same) at beyond);
                not_seen = λ h. parent.outside x (carriers_to m.at x link) beyond (λ e. linked_differ net.linked simple m.at x link (sym e)) h;
              })
        ]

    -- the SEEN-BY for a target is in order there
    pub reported-parent : (to : List A) → ((l : A) → IsTarget net m l → Among l to) → (x : A) (seen : List N) →
        IsTarget net m x → HasSeenBy net m to x seen → Parent net x f seen m.at
    reported-parent to all x seen target reported =
        record {
          way = record { link = tidy.joined.both m.at x target.link; passed = beyond };
          outside = λ d at_d beyond_x other h.
              let (not_m, not_link) = further can net.linked simple f m.at x d reaches target.link beyond beyond_x other in
              not_listed d at_d beyond_x not_m (reported.behind d at_d (behind f m.at x d differ reaches_x beyond beyond_x) other h);
          links = grind (arith, beyond-target, links_beyond, differ, beyond);
        }
      where
        beyond : Beyond net.linked m.at f x
        beyond = target-beyond x target

        differ : m.at ≢ x
        differ = linked_differ net.linked simple m.at x target.link

        reaches_x : Reaches net.linked x f
        reaches_x = tidy.joined.connected x f (carriers_to m.at x target.link) at_f

        not_listed : (d : A) → IsTrue (net.carries d) → Beyond net.linked x f d → d ≢ m.at → ¬ Among (net.net_node d) m.text.seen
        not_listed d at_d beyond_x other h =
            elim source [
              | inl here ↦ other (here.2 d at_d h)
              | inr came ↦ (let (u, is_sender, parent) = came in
                  parent.outside d at_d (Beyond-trans can net.linked m.at x f d beyond_x beyond) other h)
            ]
