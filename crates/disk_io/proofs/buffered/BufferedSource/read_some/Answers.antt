use Rattle.std.proofs.Common.{◌≡◌, min, length, arith}
use Rattle.disk_io.specs.Buffered.{buffered_remaining}
use Rattle.disk_io.proofs.Buffers.{taken_from_front}
use Rattle.disk_io.proofs.buffered.BufferedSource.read_some.Goals as goal

pub returns-clause-bytes : goal.returns-clause-bytes
returns-clause-bytes g c =
    let more = c.in_ok-read_ahead.ensures in
    let given = c.give.ensures in
    let read = c.read_ahead.new.self in
    let count : c.give.result ≡ min (length read.ahead) (length c.give.new.buf) = omega (arith, given.count, c.give.auto.buf) in
    rw given.rest
    (taken_from_front (buffered_remaining g.S.Read.remaining c.args.self.now) (g.S.Read.remaining read.source)
    read.ahead c.give.new.buf c.give.result (length c.give.new.buf) more.bytes more.end count given.given)
