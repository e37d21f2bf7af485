-- The address in an origin line (FTS-0004).
use Rattle.std.specs.Prelude.{ℕ, ◌-◌, ◌==◌, not, Bool, List, length, take, drop, Option, Some, None}
use Rattle.std.specs.{Result.result_ok, List.prefix_len, List.suffix_len, Int.is_in_range}
use Rattle.echo_addr.specs.{declared.address.Address.Address, Address.outcome}
use Rattle.echo_text.specs.Echo.{EchoText, origin_of}

abbrev pub is_address_byte : ℕ → Bool
is_address_byte b = is_in_range 47 58 b

-- The bytes after the last `(`, or all bytes without one.
abbrev pub behind_bracket : List ℕ → List ℕ
behind_bracket line = drop (length line - suffix_len (λ b. not (b == 40)) line) line

-- The bytes of an address at the front, which end before a point, a domain or `)`.
abbrev pub address_word : List ℕ → List ℕ
address_word bytes = take (prefix_len is_address_byte bytes) bytes

-- The address of an origin line, or `None` if it has no address of a system.
abbrev pub origin_address : List ℕ → Option Address
origin_address line = result_ok (outcome (address_word (behind_bracket line)))

-- The address of an origin line that may be absent.
abbrev pub address_found : Option (List ℕ) → Option Address
address_found None = None
address_found (Some line) = origin_address line

abbrev pub address_in_origin : EchoText → Option Address
address_in_origin e = address_found (origin_of e.kept)
