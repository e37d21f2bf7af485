use Rattle.std.proofs.Common.{◌≡◌, false, take}
use Rattle.std.specs.List.{list_any}
use Rattle.echo_filed.specs.declared.key.Key.TheVariants.{ById}
use Rattle.base_file.specs.Base.{is_known}
use Rattle.base_file.proofs.base.Base.has_id.Given as goal

abbrev pub invariant-tags : goal.invariant-tags
invariant-tags g l = list_any (λ t. is_known l.self.messages (ById t.items l.msgid)) (take l.tag-index l.tag-items) ≡ false
