use Rattle.std.{proofs.Common.{◌≡◌, [], ◌∷◌, ◌++◌, ◌*◌, ◌/◌, ◌%◌, ◌^◌, sym, ap, subst, ◌∙◌}, specs.Int.Bits.bit_xor}
use Rattle.echo_nodelist.{specs.Crc.crc, proofs.Registers.crc-push}
use Rattle.echo_nodelist.proofs.crc.with_byte.Goals as goal

pub returns : goal.returns
returns c = λ bytes is.
    ap (λ n. bit_xor n (c.args.register * 2 ^ 8 % 2 ^ 16)) c.of_byte.ensures
    ∙ sym (
    subst
    (λ r. crc (bytes ++ c.args.byte ∷ []) ≡ bit_xor (crc (bit_xor (r / 2 ^ 8) c.args.byte ∷ [])) (r * 2 ^ 8 % 2 ^ 16))
    is
    (crc-push bytes c.args.byte)
    )
