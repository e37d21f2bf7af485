use Rattle.{std.{proofs.{Common.{inr, refl}, lemmas.Result.err_from_is_err_and}, specs.Option.option_copied}, cmd_suppose.specs.Listings.IsListing}
use Rattle.{cmd_suppose.proofs.Zips.zip_length, cmd_status.specs.Devices.output_of, cmd_check.proofs.Judgements.{supposed_refused, was_judged}}
use Rattle.cmd_check.proofs.supposing.check_read.Goals as goal

pub read_supposed-requires : goal.read_supposed-requires
read_supposed-requires g c = rw c.deref-2.ensures.value (rw c.as_slice.ensures.value at c.in_ok-listings.ensures)

pub check_whole-requires : goal.check_whole-requires
check_whole-requires g c =
    rw c.deref-2.ensures.value (zip_length (IsListing c.args.links.now.items) c.args.tags.now c.in_ok-listings.listings.items (rw c.as_slice.ensures.value at c.in_ok-listings.ensures))

pub returns-in_err-read_supposed : goal.returns-in_err-read_supposed
returns-in_err-read_supposed g c =
    let p = err_from_is_err_and c.from_residual-in_err-read_supposed.result c.from_residual-in_err-read_supposed.ensures.1 in
    let zips = rw c.as_slice.ensures.value at c.in_ok-listings.ensures in
    let are = (rw (c.as_slice-2.ensures.value, c.deref.ensures.value) at c.in_ok-assumed.ensures) c.args.tags.now zips in
    rw (p.1, p.2) (inr (
      supposed_refused c.args.links.now.items c.args.tags.now c.args.supposed.named.now c.args.supposed.missing c.args.judging.listed c.args.supposed.without.now c.in_ok-assumed.assumed.items _
          are (rw c.deref-3.ensures.value at c.in_err-read_supposed.ensures.err),
      refl,
    ))

pub returns : goal.returns
returns g c =
    let zips = rw c.as_slice.ensures.value at c.in_ok-listings.ensures in
    let are = (rw (c.as_slice-2.ensures.value, c.deref.ensures.value) at c.in_ok-assumed.ensures) c.args.tags.now zips in
    was_judged c.args.links.now.items (option_copied c.args.judging.list) c.args.judging.more c.args.judging.listed c.args.tags.now c.args.supposed.named.now c.args.supposed.missing
    c.args.supposed.without.now c.in_ok-assumed.assumed.items c.read_supposed.new.links.items
    (output_of g.W.Write.contents g.W.Sink.failures g.W.Sink.holds c.args.out.now) (output_of g.W.Write.contents g.W.Sink.failures g.W.Sink.holds c.check_whole.new.out) c.check_whole.result
    are (rw c.deref-3.ensures.value at c.in_ok-read_supposed.ensures.ok)
    ((rw (c.as_slice-3.ensures.value, c.deref-4.ensures.value, c.deref-2.ensures.value) at c.check_whole.ensures) c.args.links.now.items zips)
