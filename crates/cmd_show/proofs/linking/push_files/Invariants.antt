use Rattle.{std.{proofs.Common.{◌≡◌, take}, specs.List.list_all}, cmd_show.specs.Linking.is_good_file}
use Rattle.cmd_show.proofs.linking.push_files.Given as goal

abbrev pub invariant-files : goal.invariant-files
invariant-files l = l.good ≡ list_all is_good_file (take l.file-index l.files)
