use Rattle.std.proofs.Common.{◌≡◌, length, arith, rules}
use Rattle.echo_packet.specs.Header.{header_bytes}
use Rattle.echo_packet.proofs.Headers.{IsHeader-from_bytes}
use Rattle.echo_packet.proofs.encoding.write_header.Goals as goal

pub returns-clause-header : goal.returns-clause-header
unfolding header_bytes
returns-clause-header c =
    let out = c.copy_from_slice-3.new.self in
    let h = c.args.header.now in
    let is : out ≡ header_bytes h = search rules in
    let size : length out ≡ 58 = search rules in
    let password : length h.password ≡ 8 = search rules in
    let fill : length h.fill ≡ 20 = search rules in
    IsHeader-from_bytes h out is (λ i. omega (arith, c.type_inv.out i)) size password fill
