use Rattle.std.{proofs.Common.{◌++◌, sym, ap, ◌∙◌, List, take, subst}, specs.List.flat_map}
use Rattle.echo_links.specs.Links.{IsFile, LinkFile}
use Rattle.echo_verdict.{specs.{declared.link.Link.Link, Nets.links_from_file}, proofs.{Orders.one_more, Collected.flat_map_take}}
use Rattle.echo_verdict.proofs.area_lists.listed_links.Goals as goal

pub files-preserved : goal.files-preserved
files-preserved c =
    let files = c.args.files.now in
    let i = c.files.file-index in
    let file = c.file-item.result in
    let f : LinkFile → List Link = links_from_file c.args.tag.now in
    record {
      links = c.in_ok-push_links.ensures.links
          ∙ (ap (λ (ls : List Link). ls ++ f file) c.files.invariant.links
          ∙ (ap (λ (x : LinkFile). flat_map f (take i files) ++ f x) c.file-item.is ∙ sym (flat_map_take f files i file c.files-test.true)));
      fit = one_more files IsFile i file c.files-test.true (subst IsFile c.file-item.is c.in_ok-push_links.ensures.fits) c.files.invariant.fit;
    }
