use Rattle.std.proofs.Common.{length, sym, ap, arith}
use Rattle.echo_addr.proofs.Decimals.{one_digit, two_digits, three_digits, four_digits, five_digits}
use Rattle.echo_addr.proofs.shortening.decimal_len.Goals as goal

pub returns-in-0-to-9-clause-exact : goal.returns-in-0-to-9-clause-exact
returns-in-0-to-9-clause-exact c = sym (ap length (one_digit c.args.n (omega arith)))

pub returns-in-10-to-99-clause-exact : goal.returns-in-10-to-99-clause-exact
returns-in-10-to-99-clause-exact c = sym (ap length (two_digits c.args.n (omega arith) (omega arith)))

pub returns-in-100-to-999-clause-exact : goal.returns-in-100-to-999-clause-exact
returns-in-100-to-999-clause-exact c = sym (ap length (three_digits c.args.n (omega arith) (omega arith)))

pub returns-in-1000-to-9999-clause-exact : goal.returns-in-1000-to-9999-clause-exact
returns-in-1000-to-9999-clause-exact c = sym (ap length (four_digits c.args.n (omega arith) (omega arith)))

pub returns-in_default-clause-exact : goal.returns-in_default-clause-exact
returns-in_default-clause-exact c = sym (ap length (five_digits c.args.n (omega arith) (omega arith)))
