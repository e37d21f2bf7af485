-- The way of a harm's message to the system that the harm names: the packets to that system that hold it.
use Rattle.std.specs.Prelude.{ℕ, ◌+◌, ◌&&◌, nat_le, nat_lt, Bool, count_by, if◌then◌else◌, List, [], ◌∷◌, ◌++◌, Option, Some, None}
use Rattle.{echo_addr.specs.declared.address.Address.Address, echo_links.specs.Links.{LinkFile, same_address}, echo_filed.specs.declared.key.Key.Key}
use Rattle.{echo_filed.specs.declared.key.Key.TheVariants.ById, model_steps.specs.declared.packet.Packet.Packet}
use Rattle.{echo_verdict.specs.declared.drawing.Crossing.Crossing, echo_net.specs.Counts.packet_counts, model_run.specs.Orderly.{copies, count, origin}}
use Rattle.{model_run.specs.Run.{destination, start}, cmd_why.specs.declared.shown.Harm.{Harm, TheVariants.{NeverGets, NeverSettles, SentAgain, SentOwn}}}
use Rattle.cmd_why.specs.{declared.shown.Shown.Shown, Shown.{posting_and_moves, shown_run}}

abbrev pub system_named : Harm → Option Address
system_named (SentAgain a times) = Some a
system_named (SentOwn a) = Some a
system_named (NeverGets a) = Some a
system_named NeverSettles = None

-- Whether a packet to this address holds the message.
abbrev pub brings : Address → Key → Packet → Bool
brings to key p = same_address (destination p) to && nat_lt 0 (count key (copies p))

-- The number of the event that made the packet of this index. The list has the number of packets after each event.
-- The event follows all events after which the packet did not exist yet. The first event has the number 1.
abbrev pub step_of : List ℕ → ℕ → ℕ
step_of counts k = count_by (λ n. nat_le n k) counts + 1

-- A packet on its way, with its sender and its receiver.
abbrev pub crossing : List ℕ → ℕ → Packet → Crossing
crossing counts k p = record { step = step_of counts k; from = origin p; to = destination p }

abbrev pub crossing_at : List ℕ → Address → Key → ℕ → Packet → List Crossing
crossing_at counts to key k p = if brings to key p then crossing counts k p ∷ [] else []

-- The packets that bring it; the first of the packets has this index.
abbrev pub crossings_from : List ℕ → Address → Key → ℕ → List Packet → List Crossing
crossings_from counts to key k [] = []
crossings_from counts to key k (p ∷ later) = crossing_at counts to key k p ++ crossings_from counts to key (k + 1) later

abbrev pub crossings_to : List LinkFile → List ℕ → Shown → Option Address → List Crossing
crossings_to files tag shown None = []
crossings_to files tag shown (Some to) =
    crossings_from (packet_counts (start files) (posting_and_moves shown.poster tag shown.moves)) to (ById tag shown.id) 0
    (shown_run files shown.poster tag shown.moves).packets

abbrev pub shown_crossings : List LinkFile → List ℕ → Shown → List Crossing
shown_crossings files tag shown = crossings_to files tag shown (system_named shown.harm)

-- The crossings of a found run, if one was found.
abbrev pub found_crossings : List LinkFile → List ℕ → Option Shown → List Crossing
found_crossings files tag None = []
found_crossings files tag (Some shown) = shown_crossings files tag shown
