use Rattle.std.proofs.{Common.{◌∙◌, ap, inl, inr, sym}, lemmas.Result.err_from_is_err_and}
use Rattle.echo_addr.specs.Entries.{tokens}
use Rattle.echo_links.{specs.LinkReading.is_area_known, proofs.LinkTaking.{area_links, area_repeated}}
use Rattle.echo_links.proofs.link_file.reading.LinkFileParts.take_area.Goals as goal

pub returns-then-has : goal.returns-then-has
returns-then-has c =
    inr (area_repeated c.args.self.now.areas c.args.number (tokens c.args.rest.now) c.in-Some.word.now (tokens c.in-Some.after.now) c.in_ok-tag.tag.items
    c.in-Some.ensures.token (sym c.is_tag.ensures ∙ c.if-not-is_tag.false) c.in_ok-tag.ensures.ok
    (ap (is_area_known c.args.self.now.areas) (sym c.deref.ensures.value) ∙ sym c.has.ensures ∙ c.if-has.true))

pub returns-in_err-links : goal.returns-in_err-links
returns-in_err-links c =
    let p = err_from_is_err_and c.from_residual-in_err-links.result c.from_residual-in_err-links.ensures.1 in
    rw (p.1, p.2) (elim c.in_err-links.ensures [
      | inl memory ↦ inl memory
      | inr h ↦
          inr (area_links c.args.self.now.areas c.args.number (tokens c.args.rest.now) c.in-Some.word.now (tokens c.in-Some.after.now) c.in_ok-tag.tag.items
          c.in-Some.ensures.token (sym c.is_tag.ensures ∙ c.if-not-is_tag.false) c.in_ok-tag.ensures.ok
          (ap (is_area_known c.args.self.now.areas) (sym c.deref.ensures.value) ∙ sym c.has.ensures ∙ c.if-has.false) ∙ h)
    ])
