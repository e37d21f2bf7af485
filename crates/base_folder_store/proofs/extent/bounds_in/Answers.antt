use Rattle.std.proofs.Common.{◌≡◌, ◌∙◌, arith}
use Rattle.base_folder_store.specs.Extent.{size_of}
use Rattle.base_folder_store.proofs.Numbered.{in_order, piece_is, within}
use Rattle.base_folder_store.proofs.extent.bounds_in.Goals as goal

pub returns-then-begins-ends-clause-bytes : goal.returns-then-begins-ends-clause-bytes
returns-then-begins-ends-clause-bytes c = grind (arith, in_order, within)

pub returns-clause-bytes : goal.returns-clause-bytes
returns-clause-bytes c = λ file s long has.
    let all : size_of c.args.extent ≡ c.in-Some.all = omega (arith, c.in-Some.ensures) in
    piece_is file c.args.entries.now c.args.place c.message_start-begins.result c.message_end-ends.result s has c.message_start-begins.ensures (c.message_end-ends.ensures file (long ∙ all))

pub returns-clause-at : goal.returns-clause-at
returns-clause-at c = λ file long.
    let all : size_of c.args.extent ≡ c.in-Some.all = omega (arith, c.in-Some.ensures) in
    (c.message_start-begins.ensures, c.message_end-ends.ensures file (long ∙ all))
