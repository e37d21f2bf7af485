-- A purge: of the text of a scanned message in its range, only the id remains.
use Rattle.std.specs.Prelude.{ℕ, nat_lt, not, ◌&&◌, Bool, true, false, List, ◌++◌, map, filter, take, drop, count_by, Option, Some, None, bytes_eq, if◌then◌else◌}
use Rattle.echo_filed.specs.{Filed.Filed, Stubs.is_stub, Stubs.stub_of}
use Rattle.base_file.specs.declared.range.PurgeRange.{PurgeRange}

-- The range of all scanned messages.
abbrev pub whole : PurgeRange
whole = record { area = None; below = None }

-- The message is in this area; without one it is anyhow.
abbrev pub is_within : Option (List ℕ) → Filed → Bool
is_within None m = true
is_within (Some area) m = bytes_eq m.echo.tag area

-- The stub of a message, or the message.
abbrev pub stub_if : Bool → Filed → Filed
stub_if true m = stub_of m
stub_if false m = m

-- A message before the end of a purge of an area, after it.
abbrev pub left_in : Option (List ℕ) → Filed → Filed
left_in area m = stub_if (is_within area m) m

-- The purge of an area changes the message.
abbrev pub is_changed : Option (List ℕ) → Filed → Bool
is_changed area m = is_within area m && not (is_stub m)

-- The messages after a purge of an area that ends before this number.
abbrev pub left_to : Option (List ℕ) → ℕ → List Filed → List Filed
left_to area end messages = map (left_in area) (take end messages) ++ drop end messages

-- The number of the first message behind a purge: never one that waits for a scan.
abbrev pub end_below : Option ℕ → ℕ → ℕ
end_below None cursor = cursor
end_below (Some below) cursor = if nat_lt below cursor then below else cursor

abbrev pub purge_end : PurgeRange → ℕ → ℕ
purge_end range cursor = end_below range.below cursor

-- The messages after a purge: the stubs of those before the cursor that are in its range, and the others as they were.
abbrev pub left_by : PurgeRange → List Filed → ℕ → List Filed
left_by range messages cursor = left_to range.area (purge_end range cursor) messages

-- The number of messages that a purge changes.
abbrev pub changed_by : PurgeRange → List Filed → ℕ → ℕ
changed_by range messages cursor = count_by (is_changed range.area) (take (purge_end range cursor) messages)

-- The remaining lines of each message that the purge of an area changes.
abbrev pub lines_left_in : Option (List ℕ) → List Filed → List (List (List ℕ))
lines_left_in area messages = map (λ m. (stub_of m).echo.kept) (filter (is_changed area) messages)
