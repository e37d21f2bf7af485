use Rattle.std.proofs.Common.{◌≡◌, ◌≤◌, ◌<◌, ℕ, ◌+◌, ◌-◌, List, ◌++◌, length, take, drop, sym, ◌∙◌, ap, arith, length-take}
use Rattle.std.proofs.{Math.Seq.take-add, lemmas.List.drop_at, lemmas.List.drop-drop, lemmas.List.take-append-le, lemmas.Slice.take-put_mid_below}
use borrow.Rule.Slice.PartMut.{put_mid, post_of}
use Rattle.disk_io.specs.Disk.{bytes_in}
use Rattle.disk_io.proofs.part.read_more.Goals as goal

more_read : (file part buf : List ℕ) (from done count k : ℕ) → done < length part → count ≤ length buf → take done part ≡ take done (drop from file)
    → take count buf ≡ take count (drop (from + done) file) → take (done + count) (put_mid done k part buf) ≡ take (done + count) (drop from file)
more_read file part buf from done count k low few front got =
    let all = put_mid done k part buf in
    let rest = post_of done k part in
    let one : take done all ≡ take done (drop from file) = take-put_mid_below done k part buf done (omega arith) (omega arith) ∙ front in
    let size : length (take done part) ≡ done = omega (arith, length-take done part) in
    let next : drop done all ≡ buf ++ rest = drop_at (take done part) (buf ++ rest) done size in
    let two : take count (drop done all) ≡ take count (drop done (drop from file)) =
    ap (λ (l : List ℕ). take count l) next ∙ take-append-le count buf rest few ∙ got ∙ ap (λ (l : List ℕ). take count l) (sym (drop-drop done from file)) in
    take-add done count all
    ∙ ap (λ (l : List ℕ). l ++ take count (drop done all)) one
    ∙ ap (λ (l : List ℕ). take done (drop from file) ++ l) two
    ∙ sym (take-add done count (drop from file))

pub returns-clause-front : goal.returns-clause-front
returns-clause-front g c honest =
    let file = bytes_in ((g.D.Disk.state c.args.disk.now).seen c.args.path.now) in
    more_read file c.args.part.now c.read_at.new.buf c.args.from c.args.done c.in_ok-count.count (length c.args.part.now - c.args.done) c.requires.open c.in_ok-count.ensures.bound
    (c.requires.front (c.read_at.ensures.quiet.honest honest)) (c.in_ok-count.ensures.bytes honest)
