use Rattle.std.proofs.Common.{◌≡◌, take}
use Rattle.std.specs.List.{flat_map}
use Rattle.disk_io.specs.Device.{SendsAll}
use Rattle.indexmap.specs.IndexMap.{values}
use Rattle.echo_filed.specs.{declared.stored.Version.TheVariants.Second, Stored.stored_bytes}
use Rattle.base_file.specs.BaseFile.{stored_from}
use Rattle.base_file.proofs.base.saving.send_messages.Given as goal

abbrev pub invariant-messages : goal.invariant-messages
invariant-messages g l = record {
  went : SendsAll (g.W.Write.contents l.initial.writer) (g.W.Write.contents l.writer)
      (flat_map (stored_bytes Second) (stored_from l.cursor 0 (take l.i (values l.entries)))) l.initial.sent l.sent;
  failed : g.W.Sink.failures l.writer ≡ g.W.Sink.failures l.initial.writer;
}
