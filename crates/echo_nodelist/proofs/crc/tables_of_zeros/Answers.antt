use Rattle.echo_nodelist.proofs.Registers.{table_entry}
use Rattle.echo_nodelist.proofs.crc.tables_of_zeros.Goals as goal

pub returns : goal.returns
returns c =
    let one = c.after_zero-one.ensures 0 table_entry in
    let two = c.after_zero-two.ensures 1 one in
    let three = c.after_zero-three.ensures 2 two in
    let four = c.after_zero-four.ensures 3 three in
    let five = c.after_zero-five.ensures 4 four in
    let six = c.after_zero-six.ensures 5 five in
    (one, two, three, four, five, six, c.after_zero-seven.ensures 6 six)
