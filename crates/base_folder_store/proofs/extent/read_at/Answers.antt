use Rattle.std.proofs.Common.{◌∙◌, refl, arith}
use Rattle.base_file.specs.Alone.{IsStoredAlone}
use Rattle.base_folder_store.specs.{Extent.bytes_of, Vouched.IsMessageAt}
use Rattle.base_folder_store.proofs.{Causes.{answers_error, ok_both}, Extents.size_is, Vouchings.bytes_at}
use Rattle.base_folder_store.proofs.extent.read_at.Goals as goal

pub returns-in_err-at-clause-read : goal.returns-in_err-at-clause-read
returns-in_err-at-clause-read g c honest = grind (arith, answers_error, size_is)

pub returns-in-Some-clause-read : goal.returns-in-Some-clause-read
returns-in-Some-clause-read g c honest = λ s size alone has part.
    let x = c.args.extent in
    let file = bytes_of (g.D.Disk.state c.args.disk.now) x in
    let long = size_is (g.D.Disk.state c.args.disk.now) x c.requires.head (c.requires.readable (c.read.ensures.quiet.honest honest)) in
    c.read_alone.ensures.read _ (record { s = s; size = size; alone = alone; is = refl; same = c.in-Some.ensures.part file (c.read.ensures.part honest part) ∙ c.in_ok-at.ensures.bytes file s long has })

pub returns-in-Some-clause-at : goal.returns-in-Some-clause-at
returns-in-Some-clause-at g c honest = λ part.
    let x = c.args.extent in
    let file = bytes_of (g.D.Disk.state c.args.disk.now) x in
    let long = size_is (g.D.Disk.state c.args.disk.now) x c.requires.head (c.requires.readable (c.read.ensures.quiet.honest honest)) in
    let entries = c.args.entries.now in
    let bytes = c.in-Some.bytes.now in
    let at = c.in_ok-at.at in
    let bounds = c.in_ok-at.ensures.at file long in
    let there = bytes_at file entries bytes c.args.place at.begins at.ends _ long bounds.0 bounds.1 c.in_ok-at.ensures.order c.in_ok-at.ensures.within (c.in-Some.ensures.part file (c.read.ensures.part honest part)) in
    ok_both (λ m. IsStoredAlone m bytes) (λ m. IsStoredAlone m bytes) (IsMessageAt file entries c.args.place) (λ m alone same. record { bytes = bytes; at = there; alone = alone }) c.read_alone.result c.read_alone.ensures.stored c.read_alone.ensures.stored
