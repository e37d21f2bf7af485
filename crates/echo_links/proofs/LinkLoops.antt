-- Reading the links of an AREA line one by one.
use Rattle.std.proofs.Common.{◌≡◌, ℕ, ◌||◌, Bool, true, false, List, [], ◌∷◌, ◌++◌, map, refl, ap, ◌∙◌, Some, None, arith}
use Rattle.std.{proofs.lemmas.{Bool.{cond-false, cond-true}, List.{append_assoc, append-nil}}, specs.{Prelude.is_err, List.list_any}}
use Rattle.echo_addr.specs.{declared.address.Address.Address, Address.address_in, Address.outcome}
use Rattle.echo_links.specs.declared.fault.LinkFault.TheVariants as fault
use Rattle.echo_links.specs.{Links.same_address, LinkLines.links_fault, LinkReading.IsWordOf}

pub record LinksRead (number : ℕ) (all later : List (List ℕ)) (links : List Address) : Type 0 where
  pub before : List (List ℕ)
  pub faults : links_fault number [] all ≡ links_fault number before later
  pub whole : map address_in all ≡ links ++ map address_in later
  pub known : (a : Address) → list_any (same_address a) (map address_in before) ≡ list_any (same_address a) links

pub any_last : (a b : Address) (links : List Address) → list_any (same_address a) (links ++ b ∷ []) ≡ (same_address a b || list_any (same_address a) links)
any_last a b [] = refl
any_last a b (c ∷ links) = ap (λ t. same_address a c || t) (any_last a b links) ∙ turned (same_address a c) (same_address a b) (list_any (same_address a) links)
  where
    turned : (x y z : Bool) → (x || (y || z)) ≡ (y || (x || z))
    turned true true z = refl
    turned true false z = refl
    turned false true z = refl
    turned false false z = refl

module _ (number : ℕ) (all : List (List ℕ)) (word : List ℕ) (more : List (List ℕ)) (links : List Address) where
  pub links_more : (later : List (List ℕ)) (a : Address) → LinksRead number all later links → later ≡ word ∷ more → IsWordOf word (Some a)
      → list_any (same_address a) links ≡ false → LinksRead number all more (links ++ a ∷ [])
  links_more later a h next is new = grind (arith, cond-false, append_assoc, any_last)

  pub links_bad : (later : List (List ℕ)) → LinksRead number all later links → later ≡ word ∷ more → IsWordOf word None
      → links_fault number [] all ≡ Some (fault.BadAddress number)
  links_bad later h next is = h.faults ∙ ap (links_fault number h.before) next ∙ cond-true (is_err (outcome word)) (Some (fault.BadAddress number)) _ is.1

  pub links_again : (later : List (List ℕ)) (a : Address) → LinksRead number all later links → later ≡ word ∷ more → IsWordOf word (Some a)
      → list_any (same_address a) links ≡ true → links_fault number [] all ≡ Some (fault.RepeatedLink number)
  links_again later a h next is old = grind (arith, cond-false, cond-true)

pub links_done : (number : ℕ) (all later : List (List ℕ)) (links : List Address) → LinksRead number all later links → later ≡ []
    → (links_fault number [] all ≡ None) × (links ≡ map address_in all)
links_done number all later links h none = grind (arith, append-nil)
