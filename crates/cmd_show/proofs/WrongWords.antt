-- The wrong word in a line, found word by word.
use Rattle.std.proofs.{Common.{◌≡◌, ℕ, ◌||◌, Bool, true, false, cond, List, [], ◌∷◌, map, sym, ap, ◌∙◌, Some, None, arith}, lemmas.Bool.{cond-false, cond-true}}
use Rattle.{std.specs.{Prelude.is_err, List.list_any, Ordering.is_eq}, echo_addr.specs.{declared.address.Address.Address, Address.{address_in, outcome}}}
use Rattle.echo_links.{specs.{Links.same_address, LinkLines.links_fault, LinkReading.IsWordOf, Found.{HaveTheSame, address_order}}, proofs.Found.link_found}
use Rattle.{echo_links.proofs.LinkLoops.any_last, cmd_show.specs.FaultyLines.{link_again, no_address}}
use Rattle.echo_links.specs.declared.fault.LinkFault.TheVariants as fault

-- ---- after SYSTEM

-- ---- links

-- links passed so far without a fault, and the words left
pub record LinksSeen (number : ℕ) (all later : List (List ℕ)) (sorted : List Address) : Type 0 where
  pub before : List (List ℕ)
  pub faults : links_fault number [] all ≡ links_fault number before later
  pub same : HaveTheSame sorted (map address_in before)
  pub bad : no_address all ≡ no_address later
  pub again : link_again [] all ≡ link_again before later

pub links_unseen : (number : ℕ) (all : List (List ℕ)) (sorted : List Address) → sorted ≡ [] → LinksSeen number all all sorted
links_unseen number all sorted none = grind arith

module _ (number : ℕ) (all : List (List ℕ)) (word : List ℕ) (more later : List (List ℕ)) (sorted : List Address)
    (seen : LinksSeen number all later sorted) (next : later ≡ word ∷ more) where
  stands : Bool
  stands = list_any (same_address (address_in word)) (map address_in seen.before)

  found : (a : Address) → a ≡ address_in word → list_any (λ k. is_eq (address_order a k)) sorted ≡ stands
  unfolding stands
  found a value = seen.same a ∙ ap (λ b. list_any (same_address b) (map address_in seen.before)) value

  judged : is_err (outcome word) ≡ false → links_fault number [] all ≡ cond stands (Some (fault.RepeatedLink number)) (links_fault number (word ∷ seen.before) more)
  unfolding stands
  judged fine = seen.faults ∙ ap (links_fault number seen.before) next ∙ cond-false (is_err (outcome word)) (Some (fault.BadAddress number)) _ fine

  pub link_seen : (a : Address) (keys : List Address) → IsWordOf word (Some a) → list_any (λ k. is_eq (address_order a k)) sorted ≡ false
      → ((b : Address) → list_any (λ k. is_eq (address_order b k)) keys ≡ cond (is_eq (address_order a b)) true (list_any (λ k. is_eq (address_order b k)) sorted))
      → LinksSeen number all more keys
  unfolding stands
  link_seen a keys is new updates =
      let value : a ≡ address_in word = is.2 in
      let unknown : stands ≡ false = sym (found a value) ∙ new in
      record {
        before = word ∷ seen.before;
        faults = judged is.1 ∙ cond-false stands (Some (fault.RepeatedLink number)) (links_fault number (word ∷ seen.before) more) unknown;
        same = λ b. link_found sorted keys (map address_in seen.before) a updates seen.same b ∙ any_last b a (map address_in seen.before)
            ∙ ap (λ c. same_address b c || list_any (same_address b) (map address_in seen.before)) value;
        bad = seen.bad ∙ ap no_address next ∙ cond-false (is_err (outcome word)) word (no_address more) is.1;
        again = seen.again ∙ ap (link_again seen.before) next ∙ cond-false stands word (link_again (word ∷ seen.before) more) unknown;
      }

  pub link_bad : IsWordOf word None → (links_fault number [] all ≡ Some (fault.BadAddress number)) × (word ≡ no_address all)
  link_bad is = grind (arith, cond-true)

  pub link_repeated : (a : Address) → IsWordOf word (Some a) → list_any (λ k. is_eq (address_order a k)) sorted ≡ true
      → (links_fault number [] all ≡ Some (fault.RepeatedLink number)) × (word ≡ link_again [] all)
  unfolding stands
  link_repeated a is old = grind (arith, stands, found, judged, cond-true)

pub links_right : (number : ℕ) (all later : List (List ℕ)) (sorted : List Address) → LinksSeen number all later sorted → later ≡ [] → links_fault number [] all ≡ None
links_right number all later sorted seen none = seen.faults ∙ ap (links_fault number seen.before) none
