-- Blocks of members, so that each link stays within one, and the links of a member by their blocks.
use Rattle.std.specs.Prelude.{◌≡◌, ◌≢◌, ◌<◌, ◌⊎◌, ℕ, Bool, false, IsTrue, Option, Some, None, List, length, slice_index, slice_index_or}
use Rattle.model_graph.specs.declared.blocks.Blocks.{Blocks}

abbrev pub block_of : Blocks → ℕ → ℕ
block_of blocks member = slice_index blocks.numbers.items member

-- The member at the top of a member's block; a root is its own.
abbrev pub top_of : Blocks → ℕ → ℕ
top_of blocks member = slice_index blocks.tops.items member

-- The rank of a member; by default its own number.
abbrev pub rank_of : Blocks → ℕ → ℕ
rank_of blocks member = slice_index_or blocks.ranks.items member member

abbrev pub full_of : Blocks → ℕ → Bool
full_of blocks block = slice_index_or blocks.full.items block false

-- Both have one block below one top, or one is at the top of the other's block.
abbrev pub InOneBlock : (ℕ → ℕ) → (ℕ → ℕ) → ℕ → ℕ → Type 0
InOneBlock block top x y = ((block x ≡ block y) × (top x ≡ top y)) ⊎ ((top x ≡ y) ⊎ (top y ≡ x))

-- The top of x is a member, and is x or ranks before it.
abbrev pub RanksBefore : ℕ → (ℕ → ℕ) → (ℕ → ℕ) → ℕ → Type 0
RanksBefore members top rank x = (top x < members) × ((top x ≡ x) ⊎ (rank (top x) < rank x))

-- The links of x stay within a block, and its top ranks before it.
abbrev pub IsInBlock : (ℕ → ℕ → Bool) → ℕ → (ℕ → ℕ) → (ℕ → ℕ) → (ℕ → ℕ) → ℕ → Type 0
IsInBlock linked members block top rank x = ((y : ℕ) → IsTrue (linked x y) → InOneBlock block top x y) × RanksBefore members top rank x

-- Each link stays within a block, and tops rank before their members.
pub record AreBlocks (linked : ℕ → ℕ → Bool) (members : ℕ) (block top rank : ℕ → ℕ) : Type 0 where
  pub links : (x y : ℕ) → IsTrue (linked x y) → InOneBlock block top x y
  pub ranks : (x : ℕ) → x < members → RanksBefore members top rank x

-- The members of a full block are linked with its top, and with each other.
pub record AreFull (linked : ℕ → ℕ → Bool) (members : ℕ) (block top : ℕ → ℕ) (full : ℕ → Bool) : Type 0 where
  pub to_top : (x : ℕ) → x < members → IsTrue (full (block x)) → IsTrue (linked x (top x))
  pub each_other : (x y : ℕ) → x < members → y < members → block x ≡ block y → x ≢ y → IsTrue (full (block x)) → IsTrue (linked x y)

-- Links a and c of b are in one block at b: in one below b, or both in the block of b.
abbrev pub OnOneSide : (ℕ → ℕ) → (ℕ → ℕ) → ℕ → ℕ → ℕ → Type 0
OnOneSide block top b a c = ((top a ≡ b) × (top c ≡ b) × (block a ≡ block c)) ⊎ ((top a ≢ b) × (top c ≢ b))

-- The block at b of a link a of b is full.
abbrev pub IsInFull : (ℕ → ℕ) → (ℕ → ℕ) → (ℕ → Bool) → ℕ → ℕ → Type 0
IsInFull block top full b a = ((top a ≡ b) × IsTrue (full (block a))) ⊎ ((top a ≢ b) × IsTrue (full (block b)))

-- The number of the block of a link, from b to a.
abbrev pub IsBlockOfLink : (ℕ → ℕ) → (ℕ → ℕ) → ℕ → ℕ → ℕ → Type 0
IsBlockOfLink block top b a k = ((top a ≡ b) × (k ≡ block a)) ⊎ ((top a ≢ b) × (k ≡ block b))

-- The last of the members of block k before this one, if any.
abbrev pub IsLastBefore : (ℕ → ℕ) → ℕ → ℕ → Option ℕ → Type 0
IsLastBefore block k before None = (y : ℕ) → y < before → block y ≢ k
IsLastBefore block k before (Some last) = (last < before) × (block last ≡ k) × ((y : ℕ) → last < y → y < before → block y ≢ k)

-- Of the members before this one: each one's last before it in its block, and the last of each block.
pub record LastMembers (block : ℕ → ℕ) (members before : ℕ) (of_members of_blocks : List (Option ℕ)) : Type 0 where
  pub one_each : length of_members ≡ before
  pub all_blocks : length of_blocks ≡ members
  pub previous : (x : ℕ) → x < before → block x < members → IsLastBefore block (block x) x (slice_index_or of_members x None)
  pub last : (k : ℕ) → k < members → IsLastBefore block k before (slice_index_or of_blocks k None)

-- x is linked with the top of its block, and with each earlier member of it.
abbrev pub IsFullyLinked : (ℕ → ℕ → Bool) → (ℕ → ℕ) → (ℕ → ℕ) → ℕ → Type 0
IsFullyLinked linked block top x = IsTrue (linked x (top x)) × ((y : ℕ) → y < x → block y ≡ block x → IsTrue (linked x y))

-- Some link of b after a, in its block at b, is not linked with it.
abbrev pub HasUnlinkedAfter : (ℕ → ℕ → Bool) → (ℕ → ℕ) → (ℕ → ℕ) → ℕ → ℕ → Type 0
HasUnlinkedAfter linked block top b a = (c : ℕ) × IsTrue (linked b c) × (a < c) × OnOneSide block top b a c × ¬ IsTrue (linked a c)

-- Each link of b in the block of r there is r, or linked with r.
abbrev pub IsCovered : (ℕ → ℕ → Bool) → (ℕ → ℕ) → (ℕ → ℕ) → ℕ → ℕ → Type 0
IsCovered linked block top b r = (c : ℕ) → IsTrue (linked b c) → OnOneSide block top b r c → c ≢ r → IsTrue (linked r c)
