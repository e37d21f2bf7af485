-- The tags of the areas that the link files of a net have.
use Rattle.std.specs.{Prelude.{ℕ, ◌↔◌, Bool, Contains, List}, declared.cmp.Ordering.Ordering, Ordering.{is_eq, nat_cmp}, Cmp.Lexicographic.slice_cmp}
use Rattle.std.specs.List.{list_any, Sorted.IsStrictlySortedBy}
use Rattle.{echo_links.specs.Links.LinkFile, echo_verdict.specs.Faults.IsCarried}

-- The order of tags: by the first byte that differs. A tag's beginning precedes the tag.
abbrev pub tag_order : List ℕ → List ℕ → Ordering
tag_order = slice_cmp nat_cmp

-- Exactly the tags of areas that some file has, ascending, each once.
pub record AreAllTags (files : List LinkFile) (tags : List (List ℕ)) : Type 0 where
  pub ascending : IsStrictlySortedBy tag_order tags
  pub members : (tag : List ℕ) → Contains tags tag ↔ IsCarried files tag

-- Whether the tag is one of these keys.
abbrev pub has_tag : {K : Type 0} → (K → List ℕ) → List K → List ℕ → Bool
has_tag bytes keys tag = list_any (λ k. is_eq (tag_order tag (bytes k))) keys
