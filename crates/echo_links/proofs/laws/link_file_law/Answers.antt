use Rattle.std.proofs.Common.{subst, sym}
use Rattle.echo_links.{specs.Links.IsFile, proofs.LinkFiles.file_is_file}
use Rattle.echo_links.proofs.laws.link_file_law.Goals as goal

pub returns : goal.returns
returns c = λ bytes file h. subst IsFile (sym h.1) (file_is_file bytes h.0)
