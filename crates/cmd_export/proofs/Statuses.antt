-- The status of a fault is never 0.
use Rattle.{std.proofs.Common.{◌≡◌, arith}, base_file.specs.declared.fault.BaseFault.BaseFault, echo_nodelist.specs.declared.fault.NodeFault.NodeFault}
use Rattle.cmd_status.specs.Status.{base_status, link_status, node_status, packet_status, post_status, scan_status, status_of, text_status}
use Rattle.{cmd_status.specs.declared.{status.Status.TheVariants.Good, fault.Fault.Fault}, echo_links.specs.declared.fault.LinkFault.LinkFault}
use Rattle.{echo_packet.specs.declared.fault.PacketFault.PacketFault, model_steps.specs.declared.fault.{PostFault.PostFault, ScanFault.ScanFault}}
use Rattle.echo_text.specs.declared.fault.TextFault.{TextFault}
use Rattle.cmd_status.specs.declared.fault.Fault.TheVariants as fault

of_packet : (f : PacketFault) → packet_status f ≡ Good → ⊥
of_packet h1 is = grind arith

of_text : (f : TextFault) → text_status f ≡ Good → ⊥
of_text h1 is = grind arith

of_nodes : (f : NodeFault) → node_status f ≡ Good → ⊥
of_nodes h1 is = grind arith

of_links : (f : LinkFault) → link_status f ≡ Good → ⊥
of_links h1 is = grind arith

of_base : (f : BaseFault) → base_status f ≡ Good → ⊥
of_base h1 is = grind arith

of_post : (f : PostFault) → post_status f ≡ Good → ⊥
of_post h1 is = grind arith

of_scan : (f : ScanFault) → scan_status f ≡ Good → ⊥
of_scan h1 is = grind arith

pub never_good : (f : Fault) → status_of f ≡ Good → ⊥
never_good (fault.Packet f) is = of_packet f is
never_good (fault.Text f) is = of_text f is
never_good (fault.Nodelist f) is = of_nodes f is
never_good (fault.Link f) is = of_links f is
never_good (fault.Base f) is = of_base f is
never_good (fault.NotOwner a) is = cc (is)
never_good (fault.Post f) is = of_post f is
never_good (fault.NotForUs a) is = cc (is)
never_good fault.TossMemory is = cc (is)
never_good (fault.Scan f) is = of_scan f is
never_good fault.BadHex is = cc (is)
never_good fault.BadAddress is = cc (is)
never_good fault.BadStamp is = cc (is)
never_good fault.BadSerial is = cc (is)
never_good fault.BadNumber is = cc (is)
never_good (fault.ScriptLine line) is = cc (is)
never_good (fault.ListLine line) is = cc (is)
never_good (fault.NotLinked a) is = cc (is)
never_good (fault.NoArea tag) is = cc (is)
never_good (fault.TooLarge path) is = cc (is)
never_good (fault.CannotUse path) is = cc (is)
never_good fault.OutOfMemory is = cc (is)
