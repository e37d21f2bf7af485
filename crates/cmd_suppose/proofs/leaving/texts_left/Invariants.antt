use Rattle.{std.proofs.Common.{◌≡◌, take}, cmd_suppose.specs.Leaving.texts_left}
use Rattle.cmd_suppose.proofs.leaving.texts_left.Given as goal

abbrev pub invariant-files : goal.invariant-files
invariant-files l = l.texts.items ≡ texts_left l.out (take l.file-index l.files)
