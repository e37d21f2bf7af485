-- The exit statuses of the program, and the status of each fault.
use Rattle.std.specs.Prelude.{ℕ}
use Rattle.cmd_status.specs.declared.{status.Status.{TheVariants.{Good, Differs, Refused, Device, CommandLine}, Status}, fault.Fault.Fault}
use Rattle.cmd_status.specs.declared.fault.Fault.TheVariants as fault
use Rattle.echo_links.specs.declared.fault.LinkFault.{LinkFault}
use Rattle.echo_links.specs.declared.fault.LinkFault.TheVariants as link
use Rattle.base_file.specs.declared.fault.BaseFault.{BaseFault}
use Rattle.base_file.specs.declared.fault.BaseFault.TheVariants as base
use Rattle.echo_nodelist.specs.declared.fault.NodeFault.{NodeFault}
use Rattle.echo_nodelist.specs.declared.fault.NodeFault.TheVariants as node
use Rattle.echo_packet.specs.declared.fault.PacketFault.{PacketFault}
use Rattle.echo_packet.specs.declared.fault.PacketFault.TheVariants as packet
use Rattle.model_steps.specs.declared.fault.{PostFault.PostFault, ScanFault.ScanFault}
use Rattle.model_steps.specs.declared.fault.PostFault.TheVariants as post
use Rattle.model_steps.specs.declared.fault.ScanFault.TheVariants as scan
use Rattle.echo_text.specs.declared.fault.TextFault.{TextFault}
use Rattle.echo_text.specs.declared.fault.TextFault.TheVariants as text

-- 0 good, 1 a verdict No or a checksum that differs, 2 refused input, 3 device or memory, 4 command line.
abbrev pub code_of : Status → ℕ
code_of Good = 0
code_of Differs = 1
code_of Refused = 2
code_of Device = 3
code_of CommandLine = 4

-- The status of a packet's fault: P6, P7 and P9 blame a device or memory.
abbrev pub packet_status : PacketFault → Status
packet_status (packet.Read at) = Device
packet_status packet.Memory = Device
packet_status (packet.Write bytes) = Device
packet_status _ = Refused

-- The status of a text's fault: X3 blames memory.
abbrev pub text_status : TextFault → Status
text_status text.Memory = Device
text_status _ = Refused

-- The status of a nodelist's fault: N5 and N6 blame memory or a device.
abbrev pub node_status : NodeFault → Status
node_status node.Memory = Device
node_status (node.Write bytes) = Device
node_status _ = Refused

-- The status of a link file's fault: L9 blames memory.
abbrev pub link_status : LinkFault → Status
link_status link.Memory = Device
link_status _ = Refused

-- The status of a base's fault: F4, F5 and F6 blame a device or memory.
abbrev pub base_status : BaseFault → Status
base_status base.Read = Device
base_status (base.Write bytes) = Device
base_status base.Memory = Device
base_status _ = Refused

-- The status of a refused posting: B7 blames memory.
abbrev pub post_status : PostFault → Status
post_status post.Memory = Device
post_status _ = Refused

-- The status of a refused scan: S2 blames memory.
abbrev pub scan_status : ScanFault → Status
scan_status scan.Memory = Device
scan_status _ = Refused

abbrev pub status_of : Fault → Status
status_of (fault.Packet f) = packet_status f
status_of (fault.Text f) = text_status f
status_of (fault.Nodelist f) = node_status f
status_of (fault.Link f) = link_status f
status_of (fault.Base f) = base_status f
status_of (fault.NotOwner a) = Refused
status_of (fault.Post f) = post_status f
status_of (fault.NotForUs a) = Refused
status_of fault.TossMemory = Device
status_of (fault.Scan f) = scan_status f
status_of fault.BadHex = Refused
status_of fault.BadAddress = Refused
status_of fault.BadStamp = Refused
status_of fault.BadSerial = Refused
status_of fault.BadNumber = Refused
status_of (fault.ScriptLine line) = Refused
status_of (fault.ListLine line) = Refused
status_of (fault.NotLinked a) = Refused
status_of (fault.NoArea tag) = Refused
status_of (fault.TooLarge path) = Refused
status_of (fault.CannotUse path) = Device
status_of fault.OutOfMemory = Device
