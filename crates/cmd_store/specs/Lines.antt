-- The lines in which `post`, `scan`, `purge` and `toss` report their work.
use Rattle.std.specs.{Prelude.{ℕ, ◌+◌, ◌≤◌, List, ◌++◌, Vec, codes, decimal, vec_capacity, vec_len}, declared.alloc.Global.Global}
use Rattle.{echo_addr.specs.{declared.address.Address.Address, Address.address_text}, echo_links.specs.Links.upper}
use Rattle.{echo_packet.specs.declared.header.Header.Header, echo_steps.specs.declared.tally.Tally.Tally, cmd_store.specs.declared.lines.TheConstants.MOST_TALLY}

-- The tag in upper case, and the id: the own address and the serial.
abbrev pub posted_line : List ℕ → List ℕ → List ℕ
posted_line tag id = codes "posted " ++ (upper tag ++ (codes " " ++ (id ++ codes "\n")))

-- The receiver of the packet according to its header.
abbrev pub named_receiver : Header → Address
named_receiver h = record { zone = h.dest_zone; net = h.dest_net; node = h.dest_node }

-- The line of a packet: its receiver, and its number of messages and of bytes.
abbrev pub sent_line : Address → ℕ → ℕ → List ℕ
sent_line to messages bytes =
    codes "packet " ++ (address_text to ++ (codes " " ++ (decimal messages ++ (codes " messages " ++ (decimal bytes ++ codes " bytes\n")))))

abbrev pub purged_line : ℕ → List ℕ
purged_line count = codes "purged " ++ (decimal count ++ codes "\n")

abbrev pub tally_line : Tally → List ℕ
tally_line t =
    codes "filed " ++ (decimal t.filed ++ (codes " known " ++ (decimal t.known ++ (codes " notecho " ++ (decimal t.not_echo
    ++ (codes " badtag " ++ (decimal t.bad_tag ++ (codes " noarea " ++ (decimal t.no_area ++ (codes " notlinked " ++ (decimal t.not_linked ++ codes "\n")))))))))))

abbrev pub HasTallyRoom : Vec ℕ Global → Type 0
HasTallyRoom text = vec_len text + MOST_TALLY ≤ vec_capacity text
