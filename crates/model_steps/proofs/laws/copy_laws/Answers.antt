use Rattle.model_steps.proofs.Copies.{copy_accepted, copy_keeps_key, copy_read_back, exported_is_echo}
use Rattle.model_steps.proofs.laws.copy_laws.Goals as goal

pub returns-clause-echo : goal.returns-clause-echo
returns-clause-echo c = λ file m h is. exported_is_echo file h m.echo is

pub returns-clause-accepted : goal.returns-clause-accepted
returns-clause-accepted c = copy_accepted

pub returns-clause-read_back : goal.returns-clause-read_back
returns-clause-read_back c = copy_read_back

pub returns-clause-keep_keys : goal.returns-clause-keep_keys
returns-clause-keep_keys c = copy_keeps_key
