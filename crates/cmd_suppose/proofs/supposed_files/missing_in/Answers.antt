use Rattle.{std.proofs.Common.{Bool, subst, sym}, cmd_suppose.{specs.SupposedFiles.AreMissing, proofs.SupposedTexts.were_missing}}
use Rattle.cmd_suppose.proofs.supposed_files.missing_in.Goals as goal

pub returns-in_ok-all : goal.returns-in_ok-all
returns-in_ok-all c = λ tags are.
    subst (λ (b : Bool). AreMissing b c.args.files.now tags c.args.named.now c.in_ok-all.all.items) (sym c.if-asked.true)
    (were_missing c.args.files.now tags c.args.listings.now c.args.named.now c.in_ok-all.all.items are c.in_ok-all.ensures.ascending c.in_ok-all.ensures.members)

pub returns-else-asked : goal.returns-else-asked
returns-else-asked c = λ tags are.
    subst (λ (b : Bool). AreMissing b c.args.files.now tags c.args.named.now c.new.result.items) (sym c.if-asked.false) c.new.ensures.items
