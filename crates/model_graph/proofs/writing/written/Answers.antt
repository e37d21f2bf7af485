use Rattle.std.proofs.{Common.{◌≡◌, ◌-◌, ◌<◌, ℕ, List, length, get_or, reverse, ◌∙◌, ap, arith}, lemmas.List.get_or_read}
use Rattle.model_graph.{specs.Loops.turned, proofs.Rings.{IsWritten-forth, IsWritten-back, length-turned}}
use Rattle.model_graph.proofs.writing.written.Goals as goal

read_at : (xs : List ℕ) (i x : ℕ) → i < length xs → x ≡ get_or xs i x → x ≡ get_or xs i 0
read_at xs i x lt read = get_or_read xs i x lt read 0

forth_length : (ring forth : List ℕ) (k : ℕ) → forth ≡ turned k ring → length forth ≡ length ring
forth_length ring forth k is = ap length is ∙ length-turned ring k

pub returns-then-index : goal.returns-then-index
returns-then-index c = grind (arith, forth_length c.args.ring.now c.in_ok-forth.forth.items c.smallest_place-start.result c.in_ok-forth.ensures, read_at, IsWritten-forth)

pub returns : goal.returns
returns c =
    let ring = c.args.ring.now in
    let forth : List ℕ = c.in_ok-forth.forth.items in
    let k : ℕ = c.smallest_place-start.result in
    let same = forth_length ring forth k c.in_ok-forth.ensures in
    let long = c.requires.long in
    let one = read_at forth 1 c.index.result.now (omega arith) c.index.ensures in
    let last = read_at forth (length ring - 1) c.index-2.result.now (omega arith) c.index-2.ensures in
    let greater = c.if-index.false in
    IsWritten-back ring forth c.reverse.new.self.items k c.requires.long c.requires.different c.smallest_place-start.ensures.within c.smallest_place-start.ensures.smallest c.in_ok-forth.ensures (omega arith) (c.reverse.ensures.items ∙ ap reverse c.in_ok-back.ensures)
