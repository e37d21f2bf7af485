use Rattle.std.proofs.Common.{false, true, arith}
use Rattle.echo_filed.specs.Filed.{key_of}
use Rattle.base_file.specs.Base.{is_known}
use Rattle.base_file.proofs.{Entries.known_unless, Verdicts.known_damaged, Verdicts.wrong_damaged}
use Rattle.base_file.proofs.base.loading.take_message.Goals as goal

pub returns-then-branch-clause-taken : goal.returns-then-branch-clause-taken
returns-then-branch-clause-taken g c = grind (arith, known_damaged, known_unless)

pub returns-else-branch-clause-taken : goal.returns-else-branch-clause-taken
returns-else-branch-clause-taken g c =
    let s = c.in-Ok.stored in
    let earlier = c.args.base.now.messages in
    let m = c.in-Some.message in
    let found = rw c.in-Some.is at c.in_ok-key.ensures in
    let added = rw c.if-branch.false at c.in_ok-add.ensures.added in (
      c.len-place.ensures.count,
      record {
        next = s;
        size = c.in-Ok.ensures.read.0;
        damaged =
            known_damaged c.args.version c.args.cursor c.len-place.result earlier s m true c.len-place.ensures.count found.0 found.2
            (known_unless false (is_known earlier (key_of m)) added);
        took = c.in-Ok.ensures.read.1;
      },
    )

pub returns-in_default-clause-taken : goal.returns-in_default-clause-taken
returns-in_default-clause-taken g c = grind (arith, wrong_damaged)
