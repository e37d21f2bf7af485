use Rattle.std.proofs.Common.{◌≡◌, refl, codes}
use Rattle.echo_nodelist.specs.Crc.{crc}

digits_one_to_nine : crc (codes "123456789") ≡ 12739
unfolding crc
digits_one_to_nine = refl
