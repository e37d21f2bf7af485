-- One station and its system change: if the net agreed with the run, it agrees with the changed run.
use Rattle.{std.proofs.Common.{◌≡◌, ◌⊎◌, inl, inr, subst, ap, ℕ, List, Some}, model_graph.specs.Walk.Among, echo_filed.specs.Filed.Filed}
use Rattle.{base_file.specs.Base.Base, model_steps.specs.declared.packet.Packet.Packet, model_run.specs.Run.{Run, System, change, nth}}
use Rattle.{model_run.proofs.{Histories.{after-then, before-then, there-then}, Lists.nth-among}, law_stations.proofs.Pairs.paired-put}
use Rattle.law_stations.specs.{Nets.{Net, Paired, Station, with_base, with_indexes}, Agreement.{Agrees, HasPosting, HasSystem, IsPacketFile}}

-- The station of a system with their changes. Packet files, deliveries and postings may be added.
pub record Puts (net : Net) (run : Run) (i : ℕ) (next : Base) (f : System → System) (packets : List (List ℕ)) (sent : List Packet) (postings : List Filed) : Type 0 where
  pub station : Station
  pub at : nth i net.stations ≡ Some station
  pub s : System
  pub there : nth i run.systems ≡ Some s
  pub now : HasSystem (with_base next station) (f s)
  pub paired : Paired IsPacketFile packets sent
  pub longer : (m : Filed) → Among m s.history → Among m (f s).history
  pub kept : (m : Filed) → Among m net.postings → Among m postings
  pub posted : (m : Filed) → Among m postings → Among m net.postings ⊎ HasPosting m (f s)
  pub only : (m : Filed) → HasPosting m (f s) → HasPosting m s ⊎ Among m postings

pub puts-agree : (net : Net) (run : Run) (i : ℕ) (next : Base) (f : System → System) (packets : List (List ℕ)) (sent : List Packet) (whole : List ℕ) (postings : List Filed)
    → Agrees net run → Puts net run i next f packets sent postings
    → Agrees (record { stations = change i (with_base next) net.stations; packets = packets; delivered = with_indexes whole net.delivered; postings = postings })
    (record { systems = change i f run.systems; packets = sent; delivered = with_indexes whole run.delivered })
puts-agree net run i next f packets sent whole postings agrees puts =
    let s = puts.s in
    record {
      stations = paired-put HasSystem i (with_base next) f puts.station s net.stations run.systems agrees.stations puts.at puts.there puts.now;
      packets = puts.paired;
      delivered = ap (with_indexes whole) agrees.delivered;
      postings = λ m h. elim (puts.posted m h) [
        | inl old ↦ (
            let (x, among, has) = agrees.postings m old in
            elim (after-then run.systems i f s puts.there x among) [
              | inl stays ↦ (x, stays, has)
              | inr is ↦ (
                  let P : System → Type 0 = λ y. HasPosting m y in
                  let was = subst P is has in
                  (f s, there-then run.systems i f s puts.there, record { filed = puts.longer m was.filed; own = was.own }))
            ])
        | inr new ↦ (f s, there-then run.systems i f s puts.there, new)
      ];
      only_postings = λ x among m has. elim (before-then run.systems i f s puts.there x among) [
        | inl old ↦ puts.kept m (agrees.only_postings x old m has)
        | inr is ↦ (
            let P : System → Type 0 = λ y. HasPosting m y in
            elim (puts.only m (subst P is has)) [
              | inl old ↦ puts.kept m (agrees.only_postings s (nth-among i s run.systems puts.there) m old)
              | inr new ↦ new
            ])
      ];
    }
