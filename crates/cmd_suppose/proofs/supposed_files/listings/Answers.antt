use Rattle.{std.proofs.Common.arith, cmd_suppose.proofs.Zips.zip_next}
use Rattle.cmd_suppose.proofs.supposed_files.listings.Goals as goal

pub tags-preserved : goal.tags-preserved
tags-preserved c = grind (arith, zip_next)
