-- The contents of one station without crashes are those of its disks over crashes.
use Rattle.std.proofs.Common.{arith, ◌≡◌, inl, inr, subst, List, [], ◌∷◌}
use Rattle.{base_file.specs.declared.range.PurgeRange.PurgeRange, model_graph.specs.Walk.Among}
use Rattle.model_run.proofs.{HarmLists.among-nth, Lists.nth-among}
use Rattle.law_stations.specs.{LoneStations.LoneCommand, LoneStations.LoneStation, LoneStations.PurgeAlone, Nets.Paired, Nets.first_net, AloneInOrder.IsInOrderAlone, AloneInOrder.ShowsStill, AloneOverCrashes.AloneIsInOrderOverCrashes, AloneOverCrashes.AloneStaysOverCrashes, LoneDisks.lone_disks_at_first, LoneDisks.on_net}
use Rattle.law_stations.proofs.{Pairs.paired-back, Stays.alone-in-order, Stays.alone-stays, EachCommand.first-tracks, EachCommand.has-net, Grown.all-grow, Crashes.IsLikeAlone, Crashes.followed-all-alone}

like-purge : (range : PurgeRange) (command : LoneCommand) → IsLikeAlone command (PurgeAlone range) → command ≡ PurgeAlone range
like-purge range command like = grind arith

purged-too : (range : PurgeRange) (commands plain : List LoneCommand) → Paired IsLikeAlone commands plain → Among (PurgeAlone range) plain → Among (PurgeAlone range) commands
purged-too range commands plain like h =
    let (k, at) = among-nth (PurgeAlone range) plain h in
    let (c, there, is) = paired-back IsLikeAlone k (PurgeAlone range) commands plain like at in
    let P : LoneCommand → Type 0 = λ x. Among x commands in
    subst P (like-purge range c is) (nth-among k c commands there)

in-order-too : (commands plain : List LoneCommand) (s : LoneStation) → Paired IsLikeAlone commands plain → IsInOrderAlone plain s → IsInOrderAlone commands s
in-order-too commands plain s like is = record {
  packets = is.packets;
  base = is.base;
  filed_once = is.filed_once;
  only_come = λ file messages cursor holds m h.
      let (o, come, form) = is.only_come file messages cursor holds m h in (
        o,
        come,
        (elim form [
          | inl same ↦ inl same
          | inr left ↦ inr (record { range = left.range; purged = purged-too left.range commands plain like left.purged; within = left.within; scanned_before = left.scanned_before; stub = left.stub })
        ]),
      );
  all_posted = is.all_posted;
  all_come = is.all_come;
  sent_once = is.sent_once;
  never = is.never;
  waiting = is.waiting;
  owed = is.owed;
  echomail = is.echomail;
  copied_from = is.copied_from;
}

pub alone-in-order-over : AloneIsInOrderOverCrashes
alone-in-order-over links file of_links commands s happen =
    let f = followed-all-alone commands (lone_disks_at_first links) s (first_net (links ∷ [])) (first-tracks (links ∷ [])) happen in
    record {
      net = f.next;
      has = has-net s.disks f.next f.tracks;
      in_order = in-order-too commands f.plain (on_net s f.next) f.like (alone-in-order links file of_links f.plain (on_net s f.next) f.happen);
    }

stays-too : (commands plain : List LoneCommand) (s new : LoneStation) → Paired IsLikeAlone commands plain → ShowsStill plain s new → ShowsStill commands s new
stays-too commands plain s new like is = record {
  cursors = is.cursors;
  messages = λ f f' messages messages' cursor cursor' holds holds' i m e. elim (is.messages f f' messages messages' cursor cursor' holds holds' i m e) [
    | inl same ↦ inl same
    | inr left ↦ inr (record { range = left.0.range; purged = purged-too left.0.range commands plain like left.0.purged; within = left.0.within; before = left.0.before }, left.1)
  ];
  packets = is.packets;
}

pub alone-stays-over : AloneStaysOverCrashes
alone-stays-over links file of_links earlier later s new first rest =
    let f = followed-all-alone earlier (lone_disks_at_first links) s (first_net (links ∷ [])) (first-tracks (links ∷ [])) first in
    let g = followed-all-alone later s new f.next f.tracks rest in
    record {
      net = f.next;
      has = has-net s.disks f.next f.tracks;
      next = g.next;
      has_next = has-net new.disks g.next g.tracks;
      shows = stays-too later g.plain (on_net s f.next) (on_net new g.next) g.like
          (alone-stays links file of_links f.plain g.plain (on_net s f.next) (on_net new g.next) f.happen g.happen);
      packets = all-grow later s new rest;
    }
