-- For any stops of commands, their disks agree with a net without stops inside a command.
use Rattle.std.proofs.Common.{◌≡◌, ◌⊎◌, inl, inr, refl, sym, subst, ◌∙◌, ℕ, zero, suc, ◌≤◌, arith, List, [], ◌∷◌, length, take, Option, Some, None}
use Rattle.model_graph.specs.Walk.{Among}
use Rattle.model_steps.specs.declared.stamp.Stamp.{Stamp}
use Rattle.model_run.{specs.Run.nth, proofs.Targets.some_same}
use Rattle.law_stations.specs.Commands.{Command, CommandEvent, Happen, Happens, Leads, Post, Purge, Scan, Toss}
use Rattle.law_stations.specs.{OverCrashes.HasNet, OverCrashes.IsLike, OverCrashes.IsLikeEvent, OverCrashes.IsToBeNamed, Nets.Net, Nets.Paired, Nets.first_net, Disks.StagingFile, Disks.Disks, Disks.cursors, Disks.first_disks, Stopping.EndsSome, Stopping.PartialEffect, Stopping.MayHappen, Stopping.MayHappenAll, Stopping.Moves, Stopping.ScansFar, Stopping.Writes}
use Rattle.law_stations.proofs.{Counting.among-times, Counting.below-most, Counting.below-there, Counting.same-is, Counting.same_as, Counting.times, Counting.times-different, Counting.waits, Ending.some-ended, Moving.moved, Moving.scans, Moving.then, Moving.written, Others.Led, Others.posted-too, Others.purged-too, Others.tossed-too, Tracking.IsTagged, Tracking.Tracks, Tracking.cursor-too}

itself-like : (command : Command) → IsLike command command
itself-like command = grind arith

-- a command on the net, which agrees with the disks after the command
pub record Followed (event : CommandEvent) (net : Net) (new : Disks) : Type 0 where
  pub plain : CommandEvent
  pub like : IsLikeEvent event plain
  pub then : Net
  pub happens : Happens plain net then
  pub tracks : Tracks new then

idle : (event : CommandEvent) (net : Net) (new : Disks) → Tracks new net → Followed event net new
idle event net new t = record { plain = event; like = record { station = refl; command = itself-like event.command }; then = net; happens = inl refl; tracks = t }

far : (event : CommandEvent) (stamp : Stamp) (d new : Disks) (net : Net) → Tracks d net → event.command ≡ Scan stamp → ScansFar stamp event.station d new
    → Followed event net new
far event stamp d new net t is (n, ended, ends, rest) = by rest
  where
    mid : Tracks ended net
    mid = some-ended n event.station d ended net t ends

    by : (new ≡ ended) ⊎ (Writes event.station ended new ⊎ ((m : ℕ) × (done : Disks) × Moves stamp event.station ended done × EndsSome m event.station done new)) → Followed event net new
    by (inl same) = idle event net new (subst (λ (x : Disks). Tracks x net) (sym same) mid)
    by (inr (inl writes)) = idle event net new (written event.station ended new net mid writes)
    by (inr (inr (m, done, moves, names))) =
        let i = event.station in
        let next = then stamp i ended done net mid moves in
        let P : Command → Type 0 = λ c. Leads c net i next in
        record {
          plain = event;
          like = record { station = refl; command = itself-like event.command };
          then = next;
          happens = inr (subst P (sym is) (scans stamp i ended done net mid moves));
          tracks = some-ended m i done new next (moved stamp i ended done net mid moves) names;
        }

led : (event : CommandEvent) (plain : Command) (net : Net) (new : Disks) → IsLike event.command plain → Led plain event.station net new → Followed event net new
led event plain net new like l = record {
  plain = record { station = event.station; command = plain };
  like = record { station = refl; command = like };
  then = l.next;
  happens = inr l.leads;
  tracks = l.tracks;
}

pub followed : (event : CommandEvent) (d new : Disks) (net : Net) → Tracks d net → MayHappen event d new → Followed event net new
followed event d new net t (inl same) = idle event net new (subst (λ (x : Disks). Tracks x net) (sym same) t)
followed event d new net t (inr leads) = by event.command refl leads
  where
    like : (c : Command) → event.command ≡ c → IsLike event.command c
    like c is = subst (IsLike event.command) is (itself-like event.command)

    by : (c : Command) → event.command ≡ c → PartialEffect c d event.station new → Followed event net new
    by (Post words body) is (posts, staging) =
        led event (Post words body) net new (like (Post words body) is) (posted-too words body event.station d new net t posts staging)
    by (Scan stamp) is scan = far event stamp d new net t is scan
    by (Purge range) is (purges, staging) = led event (Purge range) net new (like (Purge range) is) (purged-too range event.station d new net t purges staging)
    by (Toss indexes) is (n, tosses, staging) =
        let (others, l) = tossed-too (take n indexes) event.station d new net t tosses staging in
        led event (Toss others) net new (subst (λ (c : Command). IsLike c (Toss others)) (sym is) (others, refl)) l

record FollowedAll (commands : List CommandEvent) (net : Net) (new : Disks) : Type 0 where
  plain : List CommandEvent
  like : Paired IsLikeEvent commands plain
  then : Net
  happen : Happen plain net then
  tracks : Tracks new then

followed-all : (commands : List CommandEvent) (d new : Disks) (net : Net) → Tracks d net → MayHappenAll commands d new → FollowedAll commands net new
followed-all [] d new net t same = record { plain = []; like = tt; then = net; happen = refl; tracks = subst (λ (x : Disks). Tracks x net) (sym same) t }
followed-all (event ∷ commands) d new net t (next, first, rest) =
    let one = followed event d next net t first in
    let more = followed-all commands next new one.then one.tracks rest in
    record {
      plain = one.plain ∷ more.plain;
      like = (one.like, more.like);
      then = more.then;
      happen = (one.then, one.happens, more.happen);
      tracks = more.tracks;
    }

pub first-tracks : (links : List (List ℕ)) → Tracks (first_disks links) (first_net links)
first-tracks links = record {
  stations = refl;
  postings = refl;
  places = [];
  named = tt;
  tags = [];
  staging = tt;
  each = λ k. omega arith;
  tossed = λ j h. absurd h;
}

waiting : (k : ℕ) (packets : List (List ℕ)) (at : List ℕ) (files : List StagingFile) (tags : List (Option ℕ)) → Paired (IsTagged packets at) files tags → 1 ≤ waits k tags
    → (file : StagingFile) × Among file files × IsTagged packets at file (Some k)
waiting k packets at [] [] are some = absurd (omega (arith, some))
waiting k packets at [] (tag ∷ tags) are some = absurd are
waiting k packets at (file ∷ files) [] are some = absurd are
waiting k packets at (file ∷ files) (None ∷ tags) are some =
    let (x, there, is) = waiting k packets at files tags are.1 some in
    (x, inr there, is)
waiting k packets at (file ∷ files) (Some n ∷ tags) are some = by (same_as k n) refl (waiting k packets at files tags are.1)
  where
    by : (m : ℕ) → same_as k n ≡ m → (1 ≤ waits k tags → (x : StagingFile) × Among x files × IsTagged packets at x (Some k))
        → (x : StagingFile) × Among x (file ∷ files) × IsTagged packets at x (Some k)
    by zero e later = let (x, there, is) = later (omega (arith, some, e)) in (x, inr there, is)
    by (suc m) e later =
        let one = same-is k n (omega (arith, e)) in
        (file, inl refl, subst (λ (o : ℕ). IsTagged packets at file (Some o)) (sym one) are.0)

pub has-net : (d : Disks) (net : Net) → Tracks d net → HasNet d net
has-net d net t = record {
  stations = t.stations;
  postings = t.postings;
  places = t.places;
  named = t.named;
  once = times-different t.places (λ k. let is = t.each k in let most = below-most k (length net.packets) in omega (arith, is, most));
  all = λ k bytes at. by k bytes at (times k t.places) refl;
  tossed = λ j k at h.
      let (x, there, done) = t.tossed j h in
      let P : ℕ → Type 0 = λ y. Among y net.delivered in
      subst P (some_same (sym there ∙ at)) done;
}
  where
    by : (k : ℕ) (bytes : List ℕ) → nth k net.packets ≡ Some bytes → (n : ℕ) → times k t.places ≡ n
        → Among k t.places ⊎ ((file : StagingFile) × IsToBeNamed d file × (file.bytes ≡ bytes))
    by k bytes at zero e =
        let is = t.each k in
        let one = below-there k bytes net.packets at in
        let (file, there, tagged) = waiting k net.packets (cursors net) d.staging t.tags t.staging (omega (arith, is, one, e)) in
        let (same, unnamed, (c, is_cursor, less)) = tagged in
        inr (
          file,
          record { staged = there; unnamed = unnamed; cursor = c; is_cursor = cursor-too net d.net file.station c (sym t.stations) is_cursor; below = less },
          some_same (sym same ∙ at),
        )
    by k bytes at (suc n) e = inl (among-times k t.places (omega (arith, e)))

pub crashes-from : (commands : List CommandEvent) (first d : Disks) (net : Net) → Tracks first net → MayHappenAll commands first d →
    (plain : List CommandEvent) × (then : Net) × Paired IsLikeEvent commands plain × Happen plain net then × HasNet d then
crashes-from commands first d net t happen =
    let f = followed-all commands first d net t happen in
    (f.plain, f.then, f.like, f.happen, has-net d f.then f.tracks)
