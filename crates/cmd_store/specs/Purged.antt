-- The output of `purge`, and the base that it makes of the one in a store.
use Rattle.std.specs.Prelude.{◌≡◌, ℕ, ◌⊎◌, Bool, true, false, List, Option, Some, None, Result, IsErrAnd}
use Rattle.{base_file.specs.{Base.Base, declared.range.PurgeRange.PurgeRange}, cmd_status.specs.{Devices.Output, declared.fault.Fault.TheVariants.NoArea}, model_steps.specs.Purging.changed}
use Rattle.{base_store.specs.Store.purged, echo_links.specs.Links.{LinkFile, has_area}, cmd_store.specs.{Lines.purged_line, declared.command_error.CommandError.{CommandError, TheVariants.Met}}}
use Rattle.cmd_store.specs.Answered.{AnswersAndCommits, RefusesNone}

-- The line of a purge, with the number of messages that it changes.
abbrev pub IsPurgedAt : {A : Type 0} → PurgeRange → Base → List ℕ → A → Type 0
IsPurgedAt range base lines done = lines ≡ purged_line (changed range base.messages base.cursor)

-- The correct result of purging a base.
abbrev pub PurgesOn : {A : Type 0} → PurgeRange → Base → Output → Output → Result A CommandError → Type 0
PurgesOn range base old new result = AnswersAndCommits (IsPurgedAt range base) RefusesNone old new result

-- Whether the link file has the area of a purge, or the purge is one of all areas.
abbrev pub is_purge_of : LinkFile → Option (List ℕ) → Bool
is_purge_of file None = true
is_purge_of file (Some area) = has_area file area

-- The area of a purge, for which this word was given, is none of the link file.
abbrev pub IsNoArea : List ℕ → CommandError → Type 0
IsNoArea word (Met (NoArea tag)) = tag.now ≡ word
IsNoArea word _ = ⊥

-- The same with a link file: only an area that this lacks is refused. `word` was given for the area.
abbrev pub PurgesIn : {A : Type 0} → List ℕ → PurgeRange → LinkFile → Base → Output → Output → Result A CommandError → Type 0
PurgesIn word range file base old new result =
    ((is_purge_of file range.area ≡ true) × PurgesOn range base old new result)
    ⊎ ((is_purge_of file range.area ≡ false) × (new ≡ old) × IsErrAnd result (IsNoArea word))

abbrev pub Purges : PurgeRange → Base → Base → Type 0
Purges range base next = next ≡ purged range base

-- A purge may first commit the base that the store held before.
abbrev pub HoldsOrPurges : PurgeRange → Base → Base → Type 0
HoldsOrPurges range base next = (next ≡ base) ⊎ Purges range base next
