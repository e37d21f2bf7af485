use Rattle.{std.proofs.{Common.{arith, length-drop}, lemmas.List.take_all}, station_bases.proofs.EntryJudged.sound_here}
use Rattle.station_bases.proofs.entry_opening.sound_in.Goals as goal

pub returns-in-Sound-clause-sound : goal.returns-in-Sound-clause-sound
returns-in-Sound-clause-sound c = grind (arith, take_all, length-drop, sound_here)
