-- The net in one area, according to link files.
use Rattle.std.specs.Prelude.{ℕ, List}
use Rattle.echo_addr.specs.{declared.address.Address.Address, declared.address.NetNode.NetNode, Address.net_node_of}
use Rattle.echo_links.specs.Links.{LinkFile}
use Rattle.model_run.specs.{Nets.Net, Nets.Tidy, Tidy.carries, Tidy.lists}

-- Which addresses have the area, which links each lists in it, and the net and node of each.
abbrev pub net_of : List LinkFile → List ℕ → Net Address NetNode
net_of files tag = record { carries = carries files tag; linked = lists files tag; net_node = net_node_of }

-- This net is in order for any tossers.
abbrev pub IsTidyNet : List LinkFile → List ℕ → Type 0
IsTidyNet files tag = Tidy (net_of files tag)
