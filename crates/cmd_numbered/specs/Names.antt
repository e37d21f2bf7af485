-- The names of stored messages in a folder: a number, and `.msg` in letters of either case.
use Rattle.std.specs.Prelude.{ℕ, ◌-◌, ◌&&◌, List, length, take, drop, codes, if◌then◌else◌, bytes_eq, Bool, Option, None, is_some}
use Rattle.{echo_addr.specs.Digits.number_within, echo_links.specs.Links.upper}

abbrev pub front_of_name : List ℕ → List ℕ
front_of_name name = take (length name - 4) name

abbrev pub ends_in_msg : List ℕ → Bool
ends_in_msg name = bytes_eq (upper (drop (length name - 4) name)) (codes ".MSG")

-- The number of the message with this name: at most 99999999, the most that the field's file systems take.
abbrev pub number_of_name : List ℕ → Option ℕ
number_of_name name = if ends_in_msg name then number_within 99999999 (front_of_name name) else None

-- Whether a file with this name is the staging file of a stored message that a stopped run left.
abbrev pub is_left : List ℕ → Bool
is_left name = bytes_eq (drop (length name - 10) name) (codes ".~msg~.new") && is_some (number_of_name (take (length name - 10) name))
