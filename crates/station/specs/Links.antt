-- The link file of a station.
use Rattle.std.specs.Prelude.{◌≡◌, ◌⊎◌, ℕ, List, Some, Ok, Err}
use Rattle.{disk_io.specs.Disk.DiskState, echo_links.specs.{LinkLines.LinksOf, Links.LinkFile}}
use Rattle.{echo_links.specs.declared.fault.LinkFault.LinkFault, station.specs.Faults.LinksUnread, cmd_status.specs.declared.fault.Fault.Fault}
use Rattle.cmd_status.specs.declared.fault.Fault.TheVariants.{Link}
use Rattle.echo_links.specs.declared.fault.LinkFault.TheVariants as link

-- The bytes of the link file read as this.
pub record AreLinks (disk : DiskState) (links : List ℕ) (file : LinkFile) : Type 0 where
  pub bytes : List ℕ
  pub seen : disk.seen links ≡ Some bytes
  pub judged : LinksOf bytes (Ok file)

-- The link file has a fault, and this is its report.
pub record AreFaulty (disk : DiskState) (links : List ℕ) (fault : Fault) : Type 0 where
  pub bytes : List ℕ
  pub seen : disk.seen links ≡ Some bytes
  pub why : LinkFault
  pub judged : LinksOf bytes (Err why)
  pub reported : fault ≡ Link why

-- The link file cannot be read, or memory ran out during its check, or it has a fault.
abbrev pub NoLinks : DiskState → List ℕ → Type 0 → Fault → Type 0
NoLinks disk links failed fault = LinksUnread disk links failed fault ⊎ ((fault ≡ Link link.Memory) ⊎ AreFaulty disk links fault)
