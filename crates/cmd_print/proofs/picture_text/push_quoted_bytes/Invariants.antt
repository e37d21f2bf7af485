use Rattle.{std.{proofs.Common.{◌≡◌, ◌++◌, take}, specs.List.flat_map}, cmd_print.specs.Pictured.quoted_byte}
use Rattle.cmd_print.proofs.picture_text.push_quoted_bytes.Given as goal

abbrev pub invariant-bytes : goal.invariant-bytes
invariant-bytes l = l.lines.items ≡ l.initial.lines.items ++ flat_map quoted_byte (take l.byte-index l.bytes)
