use Rattle.std.proofs.Common.{◌≡◌, true, rules, arith}
use Rattle.echo_addr.specs.Digits.{is_number}
use Rattle.cmd_status.proofs.Numerals.{parsed_number}
use Rattle.cmd_status.proofs.options.parse_number.Goals as goal

pub returns-clause-ok : goal.returns-clause-ok
returns-clause-ok c =
    let is : is_number c.args.word.now ≡ true = first_of (cc, search rules, grind arith) in
    (is, parsed_number c.args.word.now c.parse.result c.unwrap_or.result is c.parse.ensures.value.0 c.unwrap_or.ensures)
