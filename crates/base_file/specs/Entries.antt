-- A base in memory: its messages by their keys, and their tags.
use Rattle.std.specs.Prelude.{◌≡◌, ◌≤◌, ℕ, nat_lt, true, List, map, take, Option, Some, None, bytes_eq, if◌then◌else◌}
use Rattle.std.specs.{List.AllByRecursion, List.list_any, Ordering.is_eq, Ordering.nat_cmp, Cmp.Lexicographic.slice_cmp, Map.keys_of, Map.values_of}
use Rattle.echo_filed.specs.{declared.key.Key.Key, Filed.Filed, Filed.key_of, Stubs.is_stub}
use Rattle.base_file.specs.Base.{IsBase}

abbrev pub HasTagIn : List (List ℕ) → Filed → Type 0
HasTagIn tags m = list_any (bytes_eq m.echo.tag) tags ≡ true

-- Each key of the ordered list is one of the tags.
abbrev pub AreAmong : {K : Type 0} → (K → List ℕ) → List K → List K → Type 0
AreAmong tag_of sorted tags =
    (tag : List ℕ) → list_any (λ k. is_eq (slice_cmp nat_cmp tag (tag_of k))) sorted ≡ true → list_any (bytes_eq tag) (map tag_of tags) ≡ true

-- The first `purged` messages were scanned and are stubs.
pub record ArePurged (messages : List Filed) (cursor purged : ℕ) : Type 0 where
  pub within : purged ≤ cursor
  pub stubs : AllByRecursion (λ m. is_stub m ≡ true) (take purged messages)

-- The number of such messages after a purge of an area, or of all, that ends there.
abbrev pub front_after : Option (List ℕ) → ℕ → ℕ → ℕ
front_after None purged end = if nat_lt purged end then end else purged
front_after (Some area) purged end = purged

-- The messages are a base. Each has its key, its tag is among the tags, and the first ones are purged.
pub record AreEntries (entries : List (Key × Filed)) (tags : List (List ℕ)) (cursor purged : ℕ) : Type 0 where
  pub is_base : IsBase (values_of entries) cursor
  pub own_keys : keys_of entries ≡ map key_of (values_of entries)
  pub own_tags : AllByRecursion (HasTagIn tags) (values_of entries)
  pub front : ArePurged (values_of entries) cursor purged
