use Rattle.std.{proofs.Common.{◌≡◌}, specs.Prelude.IsTrue}
use Rattle.echo_filed.specs.declared.key.Key.{Key}
use Rattle.model_run.{specs.{AreaNets.net_of, Keeping.in_area, Orderly.tag_of, Run.start}, proofs.{Areas.bytes-same, Bases.start-ok, Changes.fresh-none, Histories.{Equal}, Plain.{plain-kept, plain-possible}, StandingRuns.{events-stand, none-stands}, TosserLaws.{the_laws, tidy_net}, WholeRuns.fresh-files}}
use Rattle.model_run.proofs.rules_laws.this_tosser_keeps_the_rules.Goals as goal

pub returns : goal.returns
returns c = λ files tag tidy fit events.
    let of_area : (k : Key) → IsTrue (in_area tag k) → tag_of k ≡ tag = λ k t. bytes-same the_laws (tag_of k) tag t in
    let st = events-stand the_laws files tag (in_area tag) of_area tidy.joined events (start files)
    (rw (fresh-files files) at (none-stands the_laws tag (in_area tag) (start files) (start-ok the_laws files fit)
    (record { once = tt; there = λ j h. absurd h }) (fresh-none (in_area tag) files))) in
    let net = net_of files tag in
    (st.events, st.history, plain-possible net Equal st.events st.by_rules, plain-kept net Equal (tidy_net files tag tidy).joined st.events st.by_rules)
