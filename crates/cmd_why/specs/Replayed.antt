-- The lines of `replay`.
use Rattle.std.specs.{Prelude.{ℕ, ◌+◌, Bool, List, [], ◌∷◌, ◌++◌, codes, decimal, if◌then◌else◌, length}, List.flat_map}
use Rattle.{echo_addr.specs.{declared.address.Address.Address, Address.address_text}, echo_links.specs.Links.{Area, LinkFile}, model_run.specs.Run.Run}
use Rattle.model_run.specs.World.{filed_at, is_settled, undelivered, waiting_at}

-- The line of an area: its address, its tag and its two numbers. The tag is printed unchanged.
abbrev pub area_counts_line : Address → List ℕ → ℕ → ℕ → List ℕ
area_counts_line a tag filed waiting =
    codes "system " ++ (address_text a ++ (codes " " ++ (tag ++ (codes " filed " ++ (decimal filed ++ (codes " waiting " ++ (decimal waiting ++ codes "\n")))))))

-- The line of an area of the system with an index.
abbrev pub area_state_line : Run → ℕ → Address → Area → List ℕ
area_state_line run i a area = area_counts_line a area.tag (filed_at run i area.tag) (waiting_at run i area.tag)

-- The lines of the areas of systems, in order. The first system has this index.
abbrev pub systems_from : Run → ℕ → List LinkFile → List ℕ
systems_from run i [] = []
systems_from run i (file ∷ later) = flat_map (area_state_line run i file.system) file.areas ++ systems_from run (i + 1) later

-- The line of the packets.
abbrev pub packets_line : ℕ → ℕ → List ℕ
packets_line packets missing = codes "packets " ++ (decimal packets ++ (codes " undelivered " ++ (decimal missing ++ codes "\n")))

-- The line that says whether the net has settled.
abbrev pub settled_line : Bool → List ℕ
settled_line settled = if settled then codes "settled yes\n" else codes "settled no\n"

-- The lines of a run on these link files.
abbrev pub replay_lines : List LinkFile → Run → List ℕ
replay_lines files run = systems_from run 0 files ++ (packets_line (length run.packets) (undelivered run) ++ settled_line (is_settled run))
