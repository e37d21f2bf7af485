use Rattle.std.proofs.Common.{◌≡◌, map, take}
use Rattle.echo_links.specs.Links.{LinkFile}
use Rattle.echo_verdict.proofs.area_lists.systems.Given as goal

abbrev pub invariant-files : goal.invariant-files
invariant-files l = l.all.items ≡ map (λ (file : LinkFile). file.system) (take l.file-index l.files)
