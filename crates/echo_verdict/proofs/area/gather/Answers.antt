use Rattle.std.proofs.Common.{◌++◌, ◌∷◌, [], sym, ap, ◌∙◌, List, take, subst, arith}
use Rattle.echo_addr.specs.declared.address.Address.{Address}
use Rattle.echo_links.specs.Links.{IsFile, LinkFile}
use Rattle.echo_verdict.{specs.declared.link.Link.Link, proofs.{Orders.one_more, Collected.{flat_map_take, systems_take}}}
use Rattle.echo_verdict.specs.Nets as net
use Rattle.echo_verdict.proofs.area.gather.Goals as goal

pub files-preserved : goal.files-preserved
files-preserved c =
    let files = c.args.files.now in
    let tag = c.args.tag.now in
    let i = c.files.file-index in
    let file = c.file-item.result in
    let f : LinkFile → List Link = net.links_from_file tag in
    let own : LinkFile → List Address = λ x. net.systems (net.carrying (x ∷ []) tag) in
    record {
      carriers = grind (arith, systems_take);
      links = c.in_ok-take_file.ensures.links
          ∙ (ap (λ (ls : List Link). ls ++ f file) c.files.invariant.links
          ∙ (ap (λ (x : LinkFile). net.listed_links (take i files) tag ++ f x) c.file-item.is ∙ sym (flat_map_take f files i file c.files-test.true)));
      fit = one_more files IsFile i file c.files-test.true (subst IsFile c.file-item.is c.in_ok-take_file.ensures.fits) c.files.invariant.fit;
    }
