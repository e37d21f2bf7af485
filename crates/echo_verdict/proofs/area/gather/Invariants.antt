use Rattle.std.proofs.Common.{◌≡◌, ◌<◌, ℕ, get_or, take}
use Rattle.echo_links.specs.Links.{IsFile, LinkFile}
use Rattle.echo_verdict.specs.Nets as net
use Rattle.echo_verdict.proofs.area.gather.Given as goal

abbrev pub invariant-files : goal.invariant-files
invariant-files l = record {
  carriers : l.carriers.items ≡ net.systems (net.carrying (take l.file-index l.files) l.tag);
  links : l.links.items ≡ net.listed_links (take l.file-index l.files) l.tag;
  fit : (k : ℕ) (d : LinkFile) → k < l.file-index → IsFile (get_or l.files k d);
}
