-- The text of an address, and the reasons to refuse other bytes.
use Rattle.std.specs.Prelude.{◌≡◌, ℕ, ◌+◌, ◌==◌, ◌&&◌, not, nat_lt, Bool, List, ◌∷◌, ◌++◌, length, decimal, codes, Option, Some, None, if◌then◌else◌, Result, Ok, Err}
use Rattle.std.specs.List.{count_by, position_or_len, before_first, after_first, slice_range}
use Rattle.std.specs.{Int.IsInRange, Int.is_in_range, Str.Parse.digits_value}
use Rattle.echo_addr.specs.declared.{address.Address.Address, address.NetNode.NetNode, fault.AddrFault.AddrFault}
use Rattle.echo_addr.specs.declared.fault.AddrFault.TheVariants.{Empty, Shape, NotDigits, OutOfRange}
use Rattle.echo_addr.specs.Digits.{Writes, is_number}

-- The parts of an address are in range.
pub record IsAddress (a : Address) : Type 0 where
  pub zone : IsInRange 1 32767 a.zone
  pub net : IsInRange 1 32767 a.net
  pub node : IsInRange 0 32767 a.node

-- The bytes are `zone:net/node` of an address in range.
pub record AddressOf (b : List ℕ) (a : Address) : Type 0 where
  pub zone_digits : List ℕ
  pub net_digits : List ℕ
  pub node_digits : List ℕ
  pub bytes : b ≡ zone_digits ++ 58 ∷ (net_digits ++ 47 ∷ node_digits)
  pub zone : Writes zone_digits a.zone
  pub net : Writes net_digits a.net
  pub node : Writes node_digits a.node
  pub in_range : IsAddress a

-- `net/node` without leading zeros.
abbrev pub net_node_text : NetNode → List ℕ
net_node_text e = decimal e.net ++ (codes "/" ++ decimal e.node)

abbrev pub net_node_of : Address → NetNode
net_node_of a = record { net = a.net; node = a.node }

-- `zone:net/node` without leading zeros.
abbrev pub address_text : Address → List ℕ
address_text a = decimal a.zone ++ (codes ":" ++ net_node_text (net_node_of a))

abbrev pub is_colon : ℕ → Bool
is_colon b = b == 58

abbrev pub is_slash : ℕ → Bool
is_slash b = b == 47

-- One colon and one slash, the colon first.
abbrev pub has_shape : List ℕ → Bool
has_shape b =
    (count_by is_colon b == 1) && (count_by is_slash b == 1)
    && nat_lt (position_or_len is_colon b) (position_or_len is_slash b)

-- The bytes before the colon, between colon and slash, and after the slash.
abbrev pub zone_part : List ℕ → List ℕ
zone_part b = before_first is_colon b

abbrev pub net_part : List ℕ → List ℕ
net_part b = slice_range b (position_or_len is_colon b + 1) (position_or_len is_slash b)

abbrev pub node_part : List ℕ → List ℕ
node_part b = after_first is_slash b

-- Each part has only digits, at least one.
abbrev pub has_digits : List ℕ → Bool
has_digits b = is_number (zone_part b) && is_number (net_part b) && is_number (node_part b)

-- The number of each part is in its range.
abbrev pub is_in_bounds : List ℕ → Bool
is_in_bounds b =
    is_in_range 1 32767 (digits_value 10 (zone_part b)) && is_in_range 1 32767 (digits_value 10 (net_part b))
    && is_in_range 0 32767 (digits_value 10 (node_part b))

-- The address of three numbers, or a fault if one is out of its range.
abbrev pub address_within : ℕ → ℕ → ℕ → Result Address AddrFault
address_within zone net node =
    if is_in_range 1 32767 zone && is_in_range 1 32767 net && is_in_range 0 32767 node
    then Ok (record { zone = zone; net = net; node = node })
    else Err OutOfRange

-- The first refusal that applies.
unfoldable pub refusal : List ℕ → Option AddrFault
refusal b =
    if length b == 0 then Some Empty
    else if not (has_shape b) then Some Shape
    else if not (has_digits b) then Some NotDigits
    else if not (is_in_bounds b) then Some OutOfRange
    else None

-- The address that the parts spell.
abbrev pub address_in : List ℕ → Address
address_in b = record {
  zone = digits_value 10 (zone_part b);
  net = digits_value 10 (net_part b);
  node = digits_value 10 (node_part b);
}

abbrev pub answer_of : Option AddrFault → Address → Result Address AddrFault
answer_of None a = Ok a
answer_of (Some f) a = Err f

abbrev pub outcome : List ℕ → Result Address AddrFault
outcome b = answer_of (refusal b) (address_in b)
