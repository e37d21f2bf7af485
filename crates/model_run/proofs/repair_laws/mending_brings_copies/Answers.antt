use Rattle.std.proofs.Common.{inl, inr}
use Rattle.model_run.proofs.{Bases.same-parts, Repair.all_resent_of, Repair.mended-content, Repair.mended-known, Repair.tossing-in, States.base-echo, TosserLaws.the_laws}
use Rattle.model_run.proofs.repair_laws.mending_brings_copies.Goals as goal

pub returns : goal.returns
returns c = record {
  knows = λ tag x y fits base linked m h whole. mended-known the_laws tag x y fits (base-echo x.base x.cursor base) linked.1 m h whole;
  keeps = λ tag x y m h. tossing-in x.file.system (all_resent_of tag x y) y m h;
  copies = λ tag x y fits base n h. elim (mended-content the_laws tag x y fits (base-echo x.base x.cursor base) n h) [
    | inl old ↦ inl old
    | inr new ↦ inr (new.0, new.1, new.2, new.3, same-parts n new.0 new.4)
  ];
}
