-- The contents of one station stay.
use Rattle.std.proofs.Common.{◌≡◌, ◌⊎◌, inl, inr, refl, sym, subst, ap, ◌∙◌, ℕ, ◌≤◌, arith, List, [], ◌∷◌, ◌++◌, map, Some}
use Rattle.{std.proofs.lemmas.List.map-append, model_graph.{specs.Walk.Among, proofs.Members.{Among-append_cases, Among-append_left, Among-append_right}}}
use Rattle.{echo_packet.specs.Packet.packet_bytes, echo_links.specs.Links.{IsFile, LinkFile}, echo_filed.specs.{Filed.Filed, Stubs.stub_of}}
use Rattle.{model_steps.specs.declared.packet.Packet.Packet, model_run.specs.{Run.nth, Lone.{LoneEvent, LoneSystem, PurgeDone, PurgeHere, after_all_lone, left_by_all, lone_run}}}
use Rattle.model_run.proofs.{Filings.{ArePurgedSince, left-and-more, purge-scanned, purged-since, run-left, run-append, run-lasts}, Lists.nth-append}
use Rattle.law_stations.specs.{Agreement.IsPacketFile, Nets.Paired}
use Rattle.law_stations.specs.{AloneInOrder.{AloneIsInOrder, AloneStays, IsReached, ShowsStill}, LoneStations.{LoneCommand, LoneStation, PurgeAlone}}
use Rattle.law_stations.proofs.{Systems.file-fits, Purgings.{ReachedBy, end-grows, leaves-at, purges-append}, Alone.IsLone, LoneShown.{in-order, stood}}
use Rattle.law_stations.proofs.Steps.{AreOfCommands, commands-lone, run-lone}

packets-are : (files : List (List ℕ)) (ps : List Packet) → Paired IsPacketFile files ps → files ≡ map (λ (p : Packet). packet_bytes p.header p.messages) ps
packets-are [] [] paired = refl
packets-are [] (p ∷ ps) paired = absurd paired
packets-are (bytes ∷ files) [] paired = absurd paired
packets-are (bytes ∷ files) (p ∷ ps) paired = let e = paired.0.packet.bytes in let q = packets-are files ps paired.1 in λ i. e i ∷ q i

module _ (file : LinkFile) (fits : IsFile file) (s new : LoneStation) (events added : List LoneEvent) (earlier since : List LoneCommand)
    (lone : IsLone file s events) (later : IsLone file new (events ++ added)) (of : AreOfCommands earlier events) (of_since : AreOfCommands since added) where
  abbrev now : LoneSystem
  now = lone_run file events

  abbrev then : LoneSystem
  then = lone_run file (events ++ added)

  abbrev then' : LoneSystem
  then' = after_all_lone now added

  reached : (i : ℕ) (m : Filed) (purged : ArePurgedSince added now then') → ReachedBy purged.since i m → IsReached since then.system.cursor i m
  reached i m purged by =
      let range = by.purge.range in
      let all = ap (λ (x : LoneSystem). x.purges) (run-append file events added) ∙ purged.are in
      let one : Among by.purge then.purges = subst (λ (ps : List PurgeDone). Among by.purge ps) (sym all) (Among-append_left by.purge purged.since now.purges by.one) in
      let grows = end-grows range.below by.purge.scanned then.system.cursor (purge-scanned file (events ++ added) by.purge one) in
      let before = by.before in
      record { range = range; purged = of_since range (purged.called by.purge by.one); within = by.within; before = omega (arith, before, grows) }

  message-stays : (i : ℕ) (m : Filed) → nth i now.system.base ≡ Some m →
      (nth i then.system.base ≡ Some m) ⊎ (IsReached since then.system.cursor i m × (nth i then.system.base ≡ Some (stub_of m)))
  message-stays i m e =
      let after = run-left file (events ++ added) in
      let grown = (run-lasts file events added).system.filed in
      let purged = purged-since added now in
      let all = ap (λ (x : LoneSystem). x.purges) (run-append file events added) ∙ purged.are in
      let base : then.system.base ≡ left_by_all purged.since (now.system.base ++ grown.0) =
      after.base ∙ ap (λ (ps : List PurgeDone). left_by_all ps then.system.history) all
      ∙ ap (λ (ms : List Filed). left_by_all (purged.since ++ now.purges) ms) grown.1
      ∙ purges-append purged.since now.purges (now.system.history ++ grown.0)
      ∙ ap (λ (ms : List Filed). left_by_all purged.since ms) (left-and-more now grown.0 (run-left file events)) in
      let (n, at, leaves) = leaves-at purged.since i (now.system.base ++ grown.0) m (nth-append i m now.system.base grown.0 e) in
      let represented : nth i then.system.base ≡ Some n = ap (λ (ns : List Filed). nth i ns) base ∙ at in
      elim leaves [
        | inl same ↦ inl (represented ∙ ap (λ (x : Filed). Some x) same)
        | inr left ↦ inr (reached i m purged left.0, represented ∙ ap (λ (x : Filed). Some x) left.1)
      ]

  of_all : AreOfCommands (earlier ++ since) (events ++ added)
  of_all range i = elim (Among-append_cases (PurgeHere range) events added i) [
    | inl old ↦ Among-append_left (PurgeAlone range) earlier since (of range old)
    | inr new_one ↦ Among-append_right (PurgeAlone range) earlier since (of_since range new_one)
  ]

  pub shows-still : ShowsStill since s new
  shows-still = record {
    cursors = λ f f' messages messages' cursor cursor' holds holds'.
        let at = stood earlier file fits s events lone of f messages cursor holds in
        let at' = stood (earlier ++ since) file fits new (events ++ added) later of_all f' messages' cursor' holds' in
        at'.same (λ g ms c. (g ≡ f) × (cursor ≤ c)) (at.same (λ g ms c. (file ≡ g) × (c ≤ then.system.cursor)) (refl, (run-lasts file events added).system.cursor));
    messages = λ f f' messages messages' cursor cursor' holds holds'.
        let at = stood earlier file fits s events lone of f messages cursor holds in
        let at' = stood (earlier ++ since) file fits new (events ++ added) later of_all f' messages' cursor' holds' in
        at'.same (λ g ms c. (i : ℕ) (m : Filed) → nth i messages ≡ Some m → (nth i ms ≡ Some m) ⊎ (IsReached since c i m × (nth i ms ≡ Some (stub_of m))))
        (at.same (λ g ms c. (i : ℕ) (m : Filed) → nth i ms ≡ Some m
        → (nth i then.system.base ≡ Some m) ⊎ (IsReached since then.system.cursor i m × (nth i then.system.base ≡ Some (stub_of m)))) message-stays);
    packets =
        let bytes_of : Packet → List ℕ = λ p. packet_bytes p.header p.messages in
        let sent = (run-lasts file events added).sent in (
          map bytes_of sent.0,
          packets-are new.net.packets then.sent later.agrees.packets
              ∙ (ap (λ (ps : List Packet). map bytes_of ps) sent.1
              ∙ (map-append bytes_of now.sent sent.0
              ∙ ap (λ (ns : List (List ℕ)). ns ++ map bytes_of sent.0) (sym (packets-are s.net.packets now.sent lone.agrees.packets)))),
        );
  }

pub alone-in-order : AloneIsInOrder
alone-in-order links file of_links commands s happen =
    let (events, lone, of) = run-lone links file of_links commands s happen in
    in-order commands file (file-fits links file of_links) s events lone of

pub alone-stays : AloneStays
alone-stays links file of_links earlier later s new first then =
    let (events, lone, of) = run-lone links file of_links earlier s first in
    let (added, at_new, of_later) = commands-lone file later s new events lone then in
    shows-still file (file-fits links file of_links) s new events added earlier later lone at_new of of_later
