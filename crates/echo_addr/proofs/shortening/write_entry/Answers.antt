use Rattle.std.proofs.Common.{◌-◌, ◌∷◌, ◌<◌, ◌≤◌, ℕ, List, length, set, arith}
use Rattle.echo_addr.specs.ShortLines.{entry_token}
use Rattle.echo_addr.proofs.LineBytes.{WritesBefore, byte_before, line_with}
use Rattle.echo_addr.proofs.shortening.write_entry.Goals as goal

pub returns : goal.returns
returns c =
    let token : List ℕ = entry_token c.args.before c.args.entry in
    let start : ℕ = c.write_token-start.result in
    let old : List ℕ = c.args.line.now in
    let new : List ℕ = c.write_token-start.new.line in
    let w : WritesBefore token start c.args.end old new =
    record { ends = c.write_token-start.ensures.start; written = c.write_token-start.ensures.written; front = c.write_token-start.ensures.front } in
    let some : 0 < start = omega (arith, c.requires.room, w.ends) in
    let within : start ≤ length new = omega (arith, w.ends) in
    line_with (32 ∷ token) (start - 1) c.args.end old (set new (start - 1) 32) c.requires.end (byte_before token 32 start c.args.end old new some within w)
