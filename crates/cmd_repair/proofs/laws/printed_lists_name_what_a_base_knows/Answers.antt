use Rattle.cmd_repair.proofs.AreaIds.{base-listed, named-known}
use Rattle.cmd_repair.proofs.laws.printed_lists_name_what_a_base_knows.Goals as goal

pub returns-clause-lists : goal.returns-clause-lists
returns-clause-lists c = λ area list base status tag is small few listed. base-listed area list base status tag is small few listed

pub returns-clause-knows : goal.returns-clause-knows
returns-clause-knows c = λ area id base. named-known area id base.messages
