use Rattle.std.proofs.Common.{ℕ, ◌∙◌, ◌+◌, ◌≤◌, ap, drop, arith, length, length-take}
use Rattle.disk_io.proofs.Buffers.{slice_range-later}
use Rattle.disk_io.proofs.ahead.Ahead.skip.Goals as goal

pub returns : goal.returns
returns c =
    let s = c.self.inside in
    let within : s.start + c.args.count ≤ s.end =
    omega (arith, c.requires, ap length c.self.view_is, length-take {A = ℕ}, c.self.invariant) in
    slice_range-later s.bytes.items s.start s.end c.args.count within ∙ ap (drop c.args.count) c.self.view_is
