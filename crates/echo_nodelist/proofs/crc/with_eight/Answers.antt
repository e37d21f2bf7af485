use Rattle.std.{proofs.{Common.{◌/◌, ◌%◌, ◌^◌, ℕ, get_or, sym, ◌∙◌, arith}, lemmas.Nat.xor_of_8}, specs.Int.Bits.bit_xor}
use Rattle.echo_nodelist.proofs.{EightBytes.crc_eight, EightBytes.xor_same, Registers.table_entry}
use Rattle.echo_nodelist.proofs.crc.with_eight.Goals as goal

pub returns : goal.returns
returns c = λ bytes is.
    let r = c.args.register in
    let at : ℕ → ℕ = λ i. get_or c.args.eight i 0 in
    let tables = c.requires in
    xor_same (tables.6 (bit_xor (r / 2 ^ 8) (at 0)) (xor_of_8 (r / 2 ^ 8) (at 0) (omega arith) (omega arith)))
    (xor_same (tables.5 (bit_xor (r % 2 ^ 8) (at 1)) (xor_of_8 (r % 2 ^ 8) (at 1) (omega arith) (omega arith)))
    (xor_same (tables.4 (at 2) (omega arith))
    (xor_same (tables.3 (at 3) (omega arith))
    (xor_same (tables.2 (at 4) (omega arith))
    (xor_same (tables.1 (at 5) (omega arith))
    (xor_same (tables.0 (at 6) (omega arith)) (table_entry (at 7) (omega arith))))))))
    ∙ sym (crc_eight bytes c.args.eight r is (omega arith))
