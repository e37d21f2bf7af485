-- For any stops of one station's commands, its disks agree with a net without stops inside a command.
use Rattle.std.proofs.Common.{◌≡◌, inl, inr, refl, sym, subst, ap, ◌∙◌, ℕ, zero, suc, append-nil, List, [], ◌∷◌, length, map, take, arith}
use Rattle.{model_graph.specs.Walk.Among, model_steps.specs.SystemState.SystemState, echo_steps.specs.PacketsIn.state_in, model_run.specs.Run.change}
use Rattle.{cmd_store.specs.Coming.{Coming, Fails, Holds, Unknown}, law_stations.specs.Commands.{Command, CommandEvent, Happens, Post, Purge, Scan}}
use Rattle.law_stations.specs.{Disks.cursor_of, OverCrashes.IsLike, Stopping.PartialEffect, Nets.{Net, Paired, Station, with_base, with_left}}
use Rattle.law_stations.specs.LoneDisks.{LoneDisks, MayHappenAlone, MayHappenAllAlone, on_net, under_names}
use Rattle.law_stations.specs.LoneStations.{AreAnyFiles, HappenAlone, HappensAlone, LoneCommand, LoneStation, NothingCame, PostAlone, PurgeAlone, ScanAlone, TossAny, TossesAny}
use Rattle.law_stations.proofs.{FileRuns.{IsPartly, TossedFiles, tossed-all, wholes}, EachCommand.followed, Tracking.{Tracks, still}}

-- a toss may have only the first of its files
abbrev pub IsLikeAlone : LoneCommand → LoneCommand → Type 0
IsLikeAlone (PostAlone words body) plain = plain ≡ PostAlone words body
IsLikeAlone (ScanAlone stamp) plain = plain ≡ ScanAlone stamp
IsLikeAlone (PurgeAlone range) plain = plain ≡ PurgeAlone range
IsLikeAlone (TossAny files) plain = (others : List Coming) × (plain ≡ TossAny others)

itself-like : (command : LoneCommand) → IsLikeAlone command command
itself-like command = grind arith

-- a command on the net; the net agrees with the disks after the command
record FollowedAlone (command : LoneCommand) (s new : LoneDisks) (net : Net) : Type 0 where
  plain : LoneCommand
  like : IsLikeAlone command plain
  next : Net
  happens : HappensAlone plain (on_net s net) (on_net new next)
  tracks : Tracks new.disks next

-- a posting, a scan or a purge, by its effect on the disks; if it does nothing on the net, nothing came either
by-event : (command : LoneCommand) (of : Command) (s new : LoneDisks) (net : Net) → Tracks s.disks net → PartialEffect of s.disks 0 new.disks → NothingCame (under_names s) (under_names new)
    → ((plain : Command) → IsLike of plain → plain ≡ of)
    → ((next : Net) → Happens (record { station = 0; command = of }) net next → (next ≡ net → HappensAlone command (on_net s net) (on_net new next)) → HappensAlone command (on_net s net) (on_net new next))
    → FollowedAlone command s new net
by-event command of s new net t leads none only so =
    let f = followed (record { station = 0; command = of }) s.disks new.disks net t (inr leads) in
    let is = only f.plain.command f.like.command in
    let same : f.plain ≡ record { station = 0; command = of } = λ j. record { station = f.like.station j; command = is j } in
    let P : CommandEvent → Type 0 = λ e. Happens e net f.then in
    record {
      plain = command;
      like = itself-like command;
      next = f.then;
      happens = so f.then (subst P same f.happens) (λ e. inl (λ j. record { net = e j; came = none.0 j; whole = none.1 j }));
      tracks = f.tracks;
    }

partly-cursor : (files : List Coming) (old new : SystemState) → AreAnyFiles files → IsPartly files old new → new.cursor ≡ old.cursor
partly-cursor files old new h1 h2 = grind arith

tossed-cursor : (n : ℕ) (files : List Coming) (old new : SystemState) → AreAnyFiles files → TossedFiles n files old new → new.cursor ≡ old.cursor
tossed-cursor zero files old new any partly = partly-cursor files old new any partly
tossed-cursor (suc n) [] old new any tossed = absurd tossed
tossed-cursor (suc n) (Holds bytes ∷ files) old new any (mid, whole, more) =
    tossed-cursor n files mid new any more ∙ ap (λ (s : SystemState). s.cursor) whole.tossed_front.state
tossed-cursor (suc n) (Fails path ∷ files) old new any tossed = absurd tossed.1
tossed-cursor (suc n) (Unknown ∷ files) old new any tossed = absurd any

any-toss : (files : List Coming) (s new : LoneDisks) (net : Net) → Tracks s.disks net → TossesAny files (under_names s) (under_names new) → new.disks.staging ≡ s.disks.staging
    → (next : Net) × TossesAny files (on_net s net) (on_net new next) × Tracks new.disks next
any-toss files s new net t p staging =
    let next = with_left net 0 [] p.next in
    let S : List Station → Type 0 = λ ss. ss ≡ p.station ∷ [] in
    let there = subst S t.stations p.there in
    let n = wholes (length files) p.tosses.stopped p.tosses.left in
    let cursor : p.next.cursor ≡ p.station.base.cursor =
    tossed-cursor n files (state_in p.file p.station.base) (state_in p.file p.next) p.any (tossed-all files p.file p.station.base p.next p.tosses) in
    let C : List Station → Type 0 = λ ss. map cursor_of (change 0 (with_base p.next) ss) ≡ map cursor_of ss in
    let D : List ℕ → ℕ → Type 0 = λ ds j. Among j ds in (
      next,
      record {
        any = p.any;
        station = p.station;
        there = there;
        file = p.file;
        links = p.links;
        next = p.next;
        tosses = p.tosses;
        becomes = λ j. record { net = next; came = (p.becomes j).came; whole = (p.becomes j).whole };
      },
      still s.disks new.disks net next t (ap (λ (x : LoneStation). x.net.stations) p.becomes ∙ ap (change 0 (with_base p.next)) t.stations)
          (ap (λ (x : LoneStation). x.net.postings) p.becomes ∙ t.postings) (ap (λ (x : LoneStation). x.net.packets) p.becomes ∙ append-nil s.disks.net.packets)
          (append-nil net.packets) staging (subst C (sym there) (λ j. cursor j ∷ []))
          (λ j h. t.tossed j (subst (λ (x : LoneStation). D x.net.delivered j) p.becomes h)),
    )

followed-alone : (command : LoneCommand) (s new : LoneDisks) (net : Net) → Tracks s.disks net → MayHappenAlone command s new → FollowedAlone command s new net
followed-alone command s new net t (inl same) =
    let P : LoneDisks → Type 0 = λ x. FollowedAlone command s x net in
    subst P (sym same) (record { plain = command; like = itself-like command; next = net; happens = inl refl; tracks = t })
followed-alone (PostAlone words body) s new net t (inr (leads, none)) =
    by-event (PostAlone words body) (Post words body) s new net t leads none (λ plain like. like) (λ next happens idle. elim happens [
      | inl same ↦ idle same
      | inr posts ↦ inr (posts, none)
    ])
followed-alone (ScanAlone stamp) s new net t (inr (leads, none)) =
    by-event (ScanAlone stamp) (Scan stamp) s new net t leads none (λ plain like. like) (λ next happens idle. elim happens [
      | inl same ↦ idle same
      | inr scans ↦ inr (scans, none)
    ])
followed-alone (PurgeAlone range) s new net t (inr (leads, none)) =
    by-event (PurgeAlone range) (Purge range) s new net t leads none (λ plain like. like) (λ next happens idle. elim happens [
      | inl same ↦ idle same
      | inr purges ↦ inr (purges, none)
    ])
followed-alone (TossAny files) s new net t (inr (n, p, staging)) =
    let (next, tosses, tracks) = any-toss (take n files) s new net t p staging in
    record { plain = TossAny (take n files); like = (take n files, refl); next = next; happens = inr tosses; tracks = tracks }

pub record FollowedAllAlone (commands : List LoneCommand) (s new : LoneDisks) (net : Net) : Type 0 where
  pub plain : List LoneCommand
  pub like : Paired IsLikeAlone commands plain
  pub next : Net
  pub happen : HappenAlone plain (on_net s net) (on_net new next)
  pub tracks : Tracks new.disks next

pub followed-all-alone : (commands : List LoneCommand) (s new : LoneDisks) (net : Net) → Tracks s.disks net → MayHappenAllAlone commands s new → FollowedAllAlone commands s new net
followed-all-alone [] s new net t same =
    let P : LoneDisks → Type 0 = λ x. FollowedAllAlone [] s x net in
    subst P (sym same) (record { plain = []; like = tt; next = net; happen = refl; tracks = t })
followed-all-alone (command ∷ commands) s new net t (mid, first, rest) =
    let one = followed-alone command s mid net t first in
    let more = followed-all-alone commands mid new one.next one.tracks rest in
    record {
      plain = one.plain ∷ more.plain;
      like = (one.like, more.like);
      next = more.next;
      happen = (on_net mid one.next, one.happens, more.happen);
      tracks = more.tracks;
    }
