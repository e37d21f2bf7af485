use Rattle.std.{proofs.Common.{◌≡◌, ◌<◌, ℕ, get_or, take}, specs.List.flat_map}
use Rattle.echo_links.specs.Links.{IsFile, LinkFile}
use Rattle.echo_verdict.specs.Nets.{links_from_file}
use Rattle.echo_verdict.proofs.area_lists.listed_links.Given as goal

abbrev pub invariant-files : goal.invariant-files
invariant-files l = record {
  links : l.all.items ≡ flat_map (links_from_file l.tag) (take l.file-index l.files);
  fit : (k : ℕ) (d : LinkFile) → k < l.file-index → IsFile (get_or l.files k d);
}
