-- What a scan makes of the sender and the lists of a message. All messages that came the same way share it.
use Rattle.std.specs.Prelude.{◌≡◌, ℕ, true, List, ◌++◌, SomeIndex, slice_get, MatchOption}
use Rattle.echo_addr.specs.ShortLines.{path_prefix, seen_prefix}
use Rattle.echo_text.specs.Echo.{EchoText}
use Rattle.echo_filed.specs.{Filed.Filed, Sets.address_set, Written.short_lines}
use Rattle.echo_links.specs.Links.{LinkFile}
use Rattle.model_steps.specs.Scanning.{exported, targets}
use Rattle.echo_steps.specs.{Exports.has_some, declared.ways.Way.Way}

-- The SEEN-BY and PATH lines of a text.
abbrev pub list_lines : EchoText → List ℕ
list_lines e = short_lines seen_prefix e.seen ++ short_lines path_prefix e.path

-- The message came this way: from the sender, in the area, with these SEEN-BY and PATH entries.
pub record CameOn (way : Way) (m : Filed) : Type 0 where
  pub sender : way.sender ≡ m.sender
  pub tag : way.tag ≡ m.echo.tag
  pub seen : way.seen ≡ m.echo.seen
  pub path : way.path ≡ m.echo.path

-- The message came on the way of this number.
abbrev pub CameOnOne : List Way → Filed → ℕ → Type 0
CameOnOne ways m i = MatchOption (slice_get ways i) ⊥ (λ way. CameOn way m)

-- The messages that came this way have receivers. The way has these receivers, and the lines of the copies.
pub record IsWay (file : LinkFile) (way : Way) : Type 0 where
  pub some : has_some way.targets ≡ true
  pub receivers : (m : Filed) → CameOn way m → way.targets ≡ address_set (targets file m)
  pub lines : (m : Filed) → CameOn way m → way.lines ≡ list_lines (exported file m.echo)
