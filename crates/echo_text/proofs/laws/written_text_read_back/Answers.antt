use Rattle.echo_text.proofs.{Agreement.written_is_read, NoZeros.written_has_no_zero, Written.written_read_back}
use Rattle.echo_text.proofs.laws.written_text_read_back.Goals as goal

pub returns : goal.returns
returns c = record { parts = written_read_back; no_zero = written_has_no_zero; read = written_is_read }
