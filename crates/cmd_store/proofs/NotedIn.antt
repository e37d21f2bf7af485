-- A packet is tossed with notes into a store, message by message.
use Rattle.{std.proofs.Common.{◌≡◌, ◌≤◌, ℕ, List, [], refl, ap, arith, Option}, echo_addr.specs.declared.address.Address.Address, base_file.specs.Base.Base}
use Rattle.{disk_io.specs.Disk.Honestly, echo_links.specs.Links.LinkFile, echo_packet.specs.declared.limits.Limits.Limits}
use Rattle.base_store.{specs.Store.{CommitsNothing, GoesOn, StoreState}, proofs.Runs.{looks_commit, looks_go_on, no_look}}
use Rattle.{echo_steps.specs.{declared.tally.Tally.Tally, PacketsIn.state_in, Tallies.{all_counted, tally_of}}, cmd_store.proofs.Noted.{HasNoted, none_noted}}

pub record HasNotedIn (limits : Limits) (sender : Address) (file : LinkFile) (old mid : StoreState) (first now : ℕ) (before left : Option (List ℕ)) (given at : ℕ) (tally : Tally) (text noted : List ℕ) (failed still : ℕ) (room : Type 0) : Type 0 where
  pub each : Honestly mid.disk ((base : Base) → old.keeps base
      → (next : Base) × HasNoted limits sender (state_in file base) before left given at tally (state_in file next) text noted failed still room × mid.keeps next)
  pub on : GoesOn old mid
  pub commits : CommitsNothing old mid
  pub counted : all_counted tally ≡ given
  pub within : given ≤ limits.messages
  pub device : still ≡ failed
  pub later : first ≤ now
  pub sound : old.is_sound → mid.is_sound
  pub free : room

pub begun_noted : (limits : Limits) (sender : Address) (file : LinkFile) (old : StoreState) (first : ℕ) (before : Option (List ℕ)) (tally : Tally) (text : List ℕ) (failed : ℕ) (room : Type 0) → old.is_ready → tally ≡ tally_of [] → room
    → HasNotedIn limits sender file old old first first before before 0 58 tally text text failed failed room
begun_noted limits sender file old first before tally text failed room ready none free = record {
  each = λ honest base kept. (base, none_noted limits sender (state_in file base) before tally text failed room none free, kept);
  on = looks_go_on old old (no_look old ready);
  commits = looks_commit old old ready (no_look old ready);
  counted = ap all_counted none;
  within = omega arith;
  device = refl;
  later = omega arith;
  sound = λ was. was;
  free = free;
}
