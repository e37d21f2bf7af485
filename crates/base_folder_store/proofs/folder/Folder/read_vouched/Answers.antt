use Rattle.std.proofs.{Common.{◌∙◌, sym, ap, arith}, lemmas.Bool.true≢false}
use Rattle.base_store.specs.Keys.{digested}
use Rattle.echo_filed.specs.Filed.{Filed}
use Rattle.base_folder_store.{specs.{Held.digest_by, Opened.held_by}, proofs.{Causes.answers_error, Vouchings.bytes_there}}
use Rattle.base_folder_store.proofs.folder.Folder.read_vouched.Goals as goal

pub read-requires-clause-legible : goal.read-requires-clause-legible
read-requires-clause-legible g c honest = c.requires.looked.legible honest (omega (arith, c.requires.within))

pub returns-in_err-read-clause-message : goal.returns-in_err-read-clause-message
returns-in_err-read-clause-message g c honest = grind (arith, answers_error)

pub returns-then-branch-clause-message : goal.returns-then-branch-clause-message
returns-then-branch-clause-message g c honest = λ s there has. c.in_ok-read.ensures.there honest s there

pub returns-then-branch-clause-vouched : goal.returns-then-branch-clause-vouched
returns-then-branch-clause-vouched g c honest =
    let mark = c.args.self.now.recorded.mark in
    let held = held_by (g.D.Disk.state c.args.disk.now) c.args.self.now in
    let read = c.in_ok-read.ensures.at honest in
    let message = read.message in
    let alone = message.alone in
    let by = λ (m : Filed). digest_by g.H.Digest.keyed mark (digested m) in
    record {
      vouched = record {
        s = alone.s;
        there = record { size = alone.size; alone = alone.alone; stored = bytes_there held.messages held.keys message.bytes c.args.place alone.s message.at alone.same };
        digest = sym read.digest ∙ c.in_ok-has_digest.ensures.0 c.if-branch.true ∙ ap by (sym alone.is);
      };
      is = alone.is;
    }

pub returns-else-branch-clause-message : goal.returns-else-branch-clause-message
returns-else-branch-clause-message g c honest = λ s there has.
    let mark = c.args.self.now.recorded.mark in
    let read = c.in_ok-read.ensures.there honest s there in
    let is = (c.in_ok-read.ensures.at honest).digest ∙ has ∙ sym (ap (λ (m : Filed). digest_by g.H.Digest.keyed mark (digested m)) read) in
    true≢false (sym (c.in_ok-has_digest.ensures.1 is) ∙ c.if-branch.false)
