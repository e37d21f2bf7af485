-- Ascending lists without repeats.
use Rattle.std.specs.Prelude.{◌==◌, ◌||◌, ◌&&◌, nat_lt, Bool, List, [], ◌∷◌, if◌then◌else◌}
use Rattle.echo_addr.specs.declared.address.{Address.Address, NetNode.NetNode}

-- A member inserted into an ascending list, once.
abbrev pub put_in : {X : Type 0} → (X → X → Bool) → X → List X → List X
put_in before x [] = x ∷ []
put_in before x (y ∷ ys) =
    if before x y then x ∷ (y ∷ ys)
    else if before y x then y ∷ put_in before x ys
    else y ∷ ys

-- The members of a list, ascending and without repeats.
abbrev pub set_of : {X : Type 0} → (X → X → Bool) → List X → List X
set_of before [] = []
set_of before (x ∷ xs) = put_in before x (set_of before xs)

-- Entries by net and then by node.
abbrev pub entry_before : NetNode → NetNode → Bool
entry_before x y = nat_lt x.net y.net || ((x.net == y.net) && nat_lt x.node y.node)

-- Addresses by zone, then by net, then by node.
abbrev pub address_before : Address → Address → Bool
address_before a b =
    nat_lt a.zone b.zone
    || ((a.zone == b.zone) && (nat_lt a.net b.net || ((a.net == b.net) && nat_lt a.node b.node)))

abbrev pub same_entry : NetNode → NetNode → Bool
same_entry x y = (x.net == y.net) && (x.node == y.node)

unfoldable pub entry_set : List NetNode → List NetNode
entry_set all = set_of entry_before all

unfoldable pub address_set : List Address → List Address
address_set all = set_of address_before all
