use Rattle.std.proofs.{Common.⊎_elim, Common.arith, Common.get_or, Common.vec_len, lemmas.Bool.cases_lt, lemmas.List.get_or_default}
use Rattle.station_scan.proofs.finishing.left_packets.Goals as goal

pub paths-preserved : goal.paths-preserved
paths-preserved c = grind (arith, ⊎_elim, vec_len, get_or, get_or_default, cases_lt)
