use Rattle.model_run.proofs.harm_laws.runs_are_known.Goals as goal

pub returns : goal.returns
returns c = λ files fit. record {
  fit = fit;
  stays = c.what_is_filed_stays.ensures files;
  once = c.each_message_is_filed_once.ensures files fit;
  waiting = c.bases_are_what_was_filed.ensures.waiting files;
  packets = c.packets_are_exports.ensures files;
  made = c.exports_go_to_targets.ensures files fit;
  sent = c.each_message_is_exported_by_one_scan.ensures.targets files fit;
  accepted = c.packets_hold_echomail.ensures.accepted files fit;
  allowed = λ file base tag draft serial stamp. (c.posting_refusals.ensures.filed file base tag draft serial stamp).1;
  toss = c.toss_law.ensures;
}
