use Rattle.{std.proofs.Common.{◌≡◌, take}, cmd_why.specs.Sources.files_of}
use Rattle.cmd_why.proofs.sources.read_files.Given as goal

abbrev pub invariant-sources : goal.invariant-sources
invariant-sources l = l.files.items ≡ files_of (take l.source-index l.sources)
