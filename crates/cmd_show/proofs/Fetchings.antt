-- The end of a command that reads messages one by one.
use Rattle.{std.proofs.{Common.{◌≡◌, ◌+◌, ◌≤◌, ◌<◌, ℕ, List, arith, subst, inl, inr, ⊎_elim}, lemmas.Bool.cases_lt}, base_folder.{specs.{Fetching.IsUnread, Source.SourceState}, proofs.Fetchings.read_since}}
use Rattle.{cmd_status.specs.declared.fault.Fault.Fault, cmd_show.specs.Fetching.{AreLegibleBetween, StopsReading}}

pub stops_reading : (path : List ℕ) (first before now printed after : ℕ) (fault : Fault) → first ≤ before → after ≡ printed → IsUnread path before now fault → StopsReading path first now printed after fault
stops_reading path first before now printed after fault less same (inl memory) = inl (inr (memory, same))
stops_reading path first before now printed after fault less same (inr read) = inr (read_since path first before now fault less read, same)

pub none_read : (a : SourceState) (first i : ℕ) → i ≤ first → AreLegibleBetween a first i
none_read a first i past j from less = absurd (omega (arith, past, from, less))

pub one_read : (a b c : SourceState) (first i : ℕ) → ((j : ℕ) → b.legible j → a.legible j) → (c.is_honest → b.is_honest) → (b.is_honest → AreLegibleBetween a first i) → (c.is_honest → b.legible i) → c.is_honest → AreLegibleBetween a first (i + 1)
one_read a b c first i since honest before now is j from less =
    ⊎_elim (λ (e : j < i). before (honest is) j from e)
    (λ (e : i ≤ j).
    let same : i ≡ j = omega (arith, e, less) in
    subst (λ (n : ℕ). a.legible n) same (since i (now is)))
    (cases_lt j i)
