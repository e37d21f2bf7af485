-- A net that is tidy: a triangle.
use Rattle.std.{proofs.Common.{◌≡◌, ◌≢◌, ◌⊎◌, inl, inr, refl, sym, subst, ap, ℕ, arith, IsTrue, List, [], ◌∷◌, codes}, specs.Prelude.{true, false}}
use Rattle.echo_addr.specs.{declared.address.Address.Address, Address.net_node_of}
use Rattle.model_graph.{specs.Walk.{Among, Walk}, proofs.Members.Among-at}
use Rattle.echo_links.specs.Links.{LinkFile, links_of}
use Rattle.model_run.{specs.Tidy.{Carries, Tidy, lists}, proofs.{TosserLaws.the_laws, Lists.{and-parts, any-from, not_both, Among-map_to}, NetExamples.{address, triangle}}}

abbrev pub test : List ℕ
test = codes "TEST"

is_false : (let no_bit = false in no_bit ≡ true) → ⊥
is_false e = not_both false e refl

one_node : (i j : ℕ) → address i ≡ address j → i ≡ j
one_node i j e = ap (λ (a : Address). a.node) e

-- the triangle is tidy
module _ (files : List LinkFile) (tag : List ℕ) where
  carrier-from : (a : Address) → Carries files tag a → (f : LinkFile) × Among f files × (a ≡ f.system)
  carrier-from a h = grind (arith, any-from, and-parts)

  link-from : (a b : Address) → IsTrue (lists files tag a b) → (f : LinkFile) × Among f files × (a ≡ f.system) × Among b (links_of f tag)
  link-from a b h = grind (arith, any-from, and-parts, the_laws, Among-at)

-- one of the three
abbrev OneOfThree : Address → Type 0
OneOfThree a = Among a (address 1 ∷ (address 2 ∷ (address 3 ∷ [])))

three-carry : (a : Address) → OneOfThree a → Carries triangle test a
three-carry a h = grind arith

carriers-three : (a : Address) → Carries triangle test a → OneOfThree a
carriers-three a h = grind (arith, carrier-from, Among-at, Among-map_to)

-- any two of them are linked
abbrev OneOrLinked : Address → Address → Type 0
OneOrLinked a b = (a ≡ b) ⊎ IsTrue (lists triangle test a b)

all-linked : (a b : Address) → OneOfThree a → OneOfThree b → OneOrLinked a b
unfolding links_of
all-linked a b h k = grind arith

-- and no other systems are linked
record Ends (a b : Address) : Type 0 where
  first : OneOfThree a
  second : OneOfThree b
  differ : a ≢ b

link-ends : (a b : Address) → IsTrue (lists triangle test a b) → Ends a b
unfolding links_of
link-ends a b h = ends (link-from triangle test a b h)
  where
    ends_at : (i j : ℕ) → OneOfThree (address i) → OneOfThree (address j) → i ≢ j → a ≡ address i → b ≡ address j → Ends a b
    ends_at i j one two other p q = grind (arith, one_node)

    ends : ((f : LinkFile) × Among f triangle × (a ≡ f.system) × Among b (links_of f test)) → Ends a b
    ends (f, i, p, j) =
        let P : LinkFile → Type 0 = λ g. (a ≡ g.system) × Among b (links_of g test) in
        elim i [
          | inl e ↦ grind (arith, ends_at)
          | inr g ↦ grind (arith, ends_at)
        ]
      where
        at_file : (g : LinkFile) → f ≡ g → (a ≡ g.system) × Among b (links_of g test)
        at_file g e = let P : LinkFile → Type 0 = λ h. (a ≡ h.system) × Among b (links_of h test) in subst P e (p, j)

walk-three : (a : Address) (rest : List Address) (b : Address) → Walk (lists triangle test) a rest b → (x : Address) → Among x rest → OneOfThree x
walk-three a [] b walk x h = absurd h
walk-three a (c ∷ rest) b walk x h = grind (arith, link-ends, walk-three c rest b walk.1 x)

pub triangle_tidy : Tidy triangle test
triangle_tidy = record {
  joined = record {
    some = refl;
    one_file = grind (arith, one_node);
    no_self = λ a h. (link-ends a a h).differ refl;
    known = λ a b h. three-carry b (link-ends a b h).second;
    both = λ a b h. (let ends = link-ends a b h in elim (all-linked b a ends.second ends.first) [ inl e ↦ absurd (ends.differ (sym e)) | inr l ↦ l ]);
    apart = λ a b h k e. ten a b (carriers-three a h) (carriers-three b k) e;
    connected = λ a b h k. elim (all-linked a b (carriers-three a h) (carriers-three b k)) [
      | inl e ↦ ([], e)
      | inr l ↦ (b ∷ [], (l, refl))
    ];
  };
  cycles = λ first rest cycle x y h k other.
      let (last, walk, close) = cycle.closed in
      let begins : OneOfThree first = (link-ends last first close).second in
      grind (arith, walk-three, all-linked);
}
  where
    zone_one : (a : Address) → OneOfThree a → a.zone ≡ 1
    zone_one a h = grind arith

    ten : (a b : Address) → OneOfThree a → OneOfThree b → net_node_of a ≡ net_node_of b → a ≡ b
    ten a b h k e = grind (arith, zone_one)
