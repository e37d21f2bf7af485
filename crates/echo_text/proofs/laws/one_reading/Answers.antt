use Rattle.echo_text.proofs.{Agreement.readers_agree, Agreement.refused_is_answered, OneReading.one_answer, OneReading.one_count, OneReading.one_echo, Reread.read_is_echo}
use Rattle.echo_text.proofs.laws.one_reading.Goals as goal

pub returns : goal.returns
returns c = record {
  echo = read_is_echo;
  same = λ text e f m n h k. (one_echo text e f m n h k, one_count text e f m n h k);
  only = one_answer;
  refused = refused_is_answered;
  readers = readers_agree;
}
