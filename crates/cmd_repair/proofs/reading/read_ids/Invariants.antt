use Rattle.{std.proofs.Common.{◌≡◌, ◌++◌, length, map}, echo_links.specs.LinkLines.file_lines, cmd_repair.specs.declared.reading.Stage.TheVariants.Start}
use Rattle.cmd_repair.specs.IdList.{id_words, wrong_line}
use Rattle.cmd_repair.proofs.reading.read_ids.Given as goal

abbrev pub invariant-lines : goal.invariant-lines
invariant-lines l = record {
  right : wrong_line l.area l.number l.stage (file_lines l.rest) ≡ wrong_line l.area 1 Start (file_lines l.bytes);
  words : map (λ word. word.now) l.words.items ++ id_words (file_lines l.rest) ≡ id_words (file_lines l.bytes);
}

abbrev pub decreases-lines : goal.decreases-lines
decreases-lines l = length l.rest
