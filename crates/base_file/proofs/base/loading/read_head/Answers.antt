use Rattle.std.proofs.{Common.◌++◌, Common.arith, KnownBytes.Consumes-trans}
use Rattle.echo_filed.specs.Stored.{long}
use Rattle.base_file.specs.BaseFile.{magic}
use Rattle.base_file.proofs.Failing.{cursor_cut, cut_fails, head_taken, number_cut}
use Rattle.base_file.proofs.base.loading.read_head.Goals as goal

pub returns-in-Err-clause-read : goal.returns-in-Err-clause-read
returns-in-Err-clause-read g c =
    let version = c.in_ok-version.version in
    rw c.broken_fault.ensures (cut_fails 0 (magic version) _ _ _ c.in-Err.broken c.in_ok-version.ensures.read (cursor_cut version) c.in-Err.ensures.read)

pub returns-in-Err-read_long-clause-read : goal.returns-in-Err-read_long-clause-read
returns-in-Err-read_long-clause-read g c =
    let version = c.in_ok-version.version in
    let cursor = c.in-Ok.cursor in
    let took = Consumes-trans _ _ _ (magic version) (long cursor) c.in_ok-version.ensures.read c.in-Ok.ensures.read.1 in
    rw c.broken_fault-in-Err-read_long.ensures
    (cut_fails 0 (magic version ++ long cursor) _ _ _ c.in-Err-read_long.broken took (number_cut version cursor) c.in-Err-read_long.ensures.read)

pub returns-clause-read : goal.returns-clause-read
returns-clause-read g c = grind (arith, head_taken)
