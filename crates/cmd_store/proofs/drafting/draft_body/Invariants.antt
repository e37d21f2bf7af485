use Rattle.{std.proofs.Common.{◌≡◌, ◌++◌, drop}, cmd_store.specs.Drafts.{draft_after, draft_body}}
use Rattle.cmd_store.proofs.drafting.draft_body.Given as goal

abbrev pub invariant-bytes : goal.invariant-bytes
invariant-bytes l = l.lines.items ++ draft_after l.before (drop l.byte-index l.body) ≡ draft_body l.body
