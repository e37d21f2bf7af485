use Rattle.{std.proofs.Common.Ok, station_bases.proofs.Loaded.{is_loaded, refused_not}}
use Rattle.station_bases.proofs.entry_saving.loaded.Goals as goal

pub returns-in-Ok-clause-loaded : goal.returns-in-Ok-clause-loaded
returns-in-Ok-clause-loaded g c = λ base count is. is_loaded base c.in-Ok.base count (c.in-Ok.ensures.only (Ok (base.messages, base.cursor, count)) c.are_bytes.ensures is)

pub returns-in_default-clause-loaded : goal.returns-in_default-clause-loaded
returns-in_default-clause-loaded g c = λ base count is.
    refused_not (base.messages, base.cursor, count) c.in-Err.fault (c.in-Err.ensures.only (Ok (base.messages, base.cursor, count)) c.are_bytes.ensures is) c.in-Err.ensures.device c.in_default.not-Memory
