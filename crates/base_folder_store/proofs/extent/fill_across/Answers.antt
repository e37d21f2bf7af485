use Rattle.std.proofs.Common.{◌≡◌, ◌≤◌, ◌+◌, ◌-◌, ℕ, List, ◌++◌, take, drop, sym, ap, ◌∙◌, arith, length-drop}
use Rattle.std.proofs.lemmas.List.{drop-drop, drop-take, length-take-le, take-take}
use Rattle.disk_io.specs.Disk.{bytes_in}
use Rattle.base_folder_store.proofs.Waits.{part_across}
use Rattle.base_folder_store.proofs.extent.fill_across.Goals as goal

pub returns-clause-bytes : goal.returns-clause-bytes
returns-clause-bytes g c honest =
    let x = c.args.extent in
    let h0 = c.fill_with_part.ensures.quiet.honest honest in
    let all = take x.end (bytes_in ((g.D.Disk.state c.args.disk.now).seen x.path.now)) in
    let n = x.end - x.head in
    let first = c.min-first.result in
    let last = c.min-last.result in
    let from = c.saturating_sub-from.result in
    let to = c.saturating_sub-to.result in
    let e1 = c.min-first.ensures in
    let e2 = c.min-last.ensures in
    let e3 = c.saturating_sub-from.ensures in
    let e4 = c.saturating_sub-to.ensures in
    let order = c.requires.order in
    let head = c.requires.head in
    let long = length-take-le x.end (bytes_in ((g.D.Disk.state c.args.disk.now).seen x.path.now)) (c.requires.readable h0).long in
    let inside : x.head + last ≤ x.end = omega (arith, e2, head) in
    let wide : from + (to - from) ≡ to = omega (arith, e3, e4, order) in
    let part : c.fill_with_part.new.part.items ≡ drop first (take last (drop x.head all)) =
    c.in_ok-fill_with_part.ensures.bytes honest
    ∙ ap (λ (l : List ℕ). drop (x.head + first) l) (sym (take-take (x.head + last) x.end (bytes_in ((g.D.Disk.state c.args.disk.now).seen x.path.now)) inside))
    ∙ sym (drop-drop first x.head (take (x.head + last) all))
    ∙ ap (λ (l : List ℕ). drop first l) (drop-take x.head last all) in
    let slice : take (to - from) (drop from x.waiting.now) ≡ drop from (take to x.waiting.now) =
    sym (drop-take from (to - from) x.waiting.now) ∙ ap (λ (k : ℕ). drop from (take k x.waiting.now)) wide in
    c.in_ok-extend_from_slice.ensures.items
    ∙ (λ i. part i ++ slice i)
    ∙ part_across (drop x.head all) x.waiting.now n c.args.begins c.args.ends first last from to (omega (arith, length-drop x.head all, long)) order e1 e2 e3 e4
