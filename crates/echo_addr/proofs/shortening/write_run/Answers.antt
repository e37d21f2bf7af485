use Rattle.std.proofs.Common.{◌+◌, ℕ, ap, take, arith}
use Rattle.echo_addr.specs.declared.address.NetNode.{NetNode}
use Rattle.echo_addr.proofs.LineEntries.{Written-more}
use Rattle.echo_addr.proofs.shortening.write_run.Goals as goal

pub loop-i-preserved : goal.loop-i-preserved
loop-i-preserved c =
    let none : NetNode = record { net = 0; node = 0 } in
    record {
      written = Written-more c.args.entries.now c.loop-i.i c.loop-i.before c.args.begun (take c.args.begun c.args.line.now) c.loop-i.at
          (c.loop-i.at + c.entry_len.result) c.loop-i.line c.write_entry.new.line none c.loop-i-test.true
          (ap (λ (n : ℕ). c.loop-i.at + n) c.entry_len.ensures.exact) c.write_entry.ensures c.loop-i.invariant.written;
      fits = omega arith;
    }
