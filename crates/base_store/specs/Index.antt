-- An index of the keys of a base folder by the low bits of digests.
use Rattle.std.specs.Prelude.{◌≡◌, ℕ, ◌*◌, ◌/◌, List, ◌++◌, length, if◌then◌else◌}
use Rattle.base_store.specs.{Chains.AreChains, Expected.AreFound, Expected.is_expected, declared.index.Index.Index}

abbrev pub entries_of : Index → List ℕ
entries_of index = index.keys.items

-- The index has a front of the keys, chains of the first of them, and the expected messages of all keys.
pub record IsIndexOf (keys : List ℕ) (index : Index) : Type 0 where
  pub rest : List ℕ
  pub front : keys ≡ index.keys.items ++ rest
  pub even : 16 * (length index.keys.items / 16) ≡ length index.keys.items
  pub chains : AreChains index.keys.items index.chains
  pub found : AreFound keys index.expected

-- The number of first messages that a look-up of the digest covers.
abbrev pub covered : Index → ℕ → ℕ
covered index digest = if is_expected index.expected digest then index.expected.passed else length index.keys.items / 16
