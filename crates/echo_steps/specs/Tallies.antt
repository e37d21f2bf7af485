-- The number of messages with each outcome.
use Rattle.std.specs.Prelude.{ℕ, ◌+◌, Bool, true, false, List, count_by}
use Rattle.model_steps.specs.declared.outcome.Outcome.{TheVariants.BadTag, TheVariants.Filed, TheVariants.Known, TheVariants.NoArea, TheVariants.NotEcho, TheVariants.NotLinked, Outcome}
use Rattle.echo_steps.specs.declared.tally.Tally.{Tally}

abbrev pub same_outcome : Outcome → Outcome → Bool
same_outcome Filed Filed = true
same_outcome Known Known = true
same_outcome NotEcho NotEcho = true
same_outcome BadTag BadTag = true
same_outcome NoArea NoArea = true
same_outcome NotLinked NotLinked = true
same_outcome one other = false

-- The count of each outcome in the list.
abbrev pub tally_of : List Outcome → Tally
tally_of all = record {
  filed = count_by (same_outcome Filed) all;
  known = count_by (same_outcome Known) all;
  not_echo = count_by (same_outcome NotEcho) all;
  bad_tag = count_by (same_outcome BadTag) all;
  no_area = count_by (same_outcome NoArea) all;
  not_linked = count_by (same_outcome NotLinked) all;
}

abbrev pub tally_with : Tally → Outcome → Tally
tally_with t NotEcho = record t { not_echo = t.not_echo + 1 }
tally_with t BadTag = record t { bad_tag = t.bad_tag + 1 }
tally_with t NoArea = record t { no_area = t.no_area + 1 }
tally_with t NotLinked = record t { not_linked = t.not_linked + 1 }
tally_with t Known = record t { known = t.known + 1 }
tally_with t Filed = record t { filed = t.filed + 1 }

abbrev pub all_counted : Tally → ℕ
all_counted t = t.filed + (t.known + (t.not_echo + (t.bad_tag + (t.no_area + t.not_linked))))
