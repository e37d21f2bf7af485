use Rattle.std.proofs.Common.{◌∙◌}
use Rattle.disk_io.proofs.Moving.{Consumes-more_of}
use Rattle.disk_io.proofs.source.fill.Goals as goal

pub reads-preserved : goal.reads-preserved
reads-preserved g c =
    let more = c.in_ok-came.ensures in
    record {
      within = more.within;
      took = Consumes-more_of _ _ _ c.reads.buf c.read_at.new.buf c.reads.filled c.in_ok-came.came more.front c.reads.invariant.took more.bytes.0;
      failed = more.ok ∙ c.reads.invariant.failed;
    }
