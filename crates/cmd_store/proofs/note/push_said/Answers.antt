use Rattle.{std.proofs.Common.{◌≡◌, ◌++◌, List, ℕ, OnOk, subst}, cmd_store.proofs.Noted.said_area}
use Rattle.cmd_store.proofs.note.push_said.Goals as goal

pub returns-in-Ok : goal.returns-in-Ok
returns-in-Ok c =
    let P : List ℕ → Type 0 = λ s. OnOk c.push_area.result (c.push_area.new.line.items ≡ c.args.line.now.items ++ s) in
    subst P (said_area c.args.text.now _ _ c.in-Ok.ensures) c.push_area.ensures
