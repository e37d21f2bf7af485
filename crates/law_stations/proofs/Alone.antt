-- One station and a system by itself with the same contents.
use Rattle.{std.proofs.Common.{◌⊎◌, inl, inr, sym, subst, ℕ, List, [], ◌∷◌, ◌++◌, Ok, arith}, echo_addr.specs.declared.address.Address.Address}
use Rattle.{model_graph.{specs.Walk.Among, proofs.Members.{Among-append_cases, Among-append_left, Among-append_right}}, echo_packet.specs.Message.Message}
use Rattle.{echo_links.specs.{Links.LinkFile, LinkLines.LinksOf}, law_stations.proofs.Tosses.{IsInFront, IsTossedBy, more-events}}
use Rattle.model_run.{specs.{Lone.{AreOfPackets, LoneEvent, LoneSystem, TossHere, after_all_lone, lone_run}, Run.Run}, proofs.Filings.run-append}
use Rattle.law_stations.{specs.{Agreement.Agrees, LoneStations.{LoneStation, lone_station_at_first}}, proofs.EachEvent.first-agrees}

-- the run of the system alone
abbrev pub run_alone : LoneSystem → Run
run_alone z = record { systems = z.system ∷ []; packets = z.sent; delivered = [] }

-- each tossed message is from the beginning of one of the files
abbrev pub IsOfFiles : LinkFile → List (List ℕ) → List LoneEvent → Type 0
IsOfFiles file files events = (sender : Address) (messages : List Message) → Among (TossHere sender messages) events →
    (bytes : List ℕ) × Among bytes files × IsInFront file bytes sender messages

-- the station is the system of a link file after these events
pub record IsLone (file : LinkFile) (s : LoneStation) (events : List LoneEvent) : Type 0 where
  pub plain : AreOfPackets events
  pub of_files : IsOfFiles file s.came events
  pub all : (bytes : List ℕ) → Among bytes s.whole → IsTossedBy file events bytes
  pub agrees : Agrees s.net (run_alone (lone_run file events))

-- after more events
pub lone-more : (file : LinkFile) (s new : LoneStation) (events added : List LoneEvent) → IsLone file s events → AreOfPackets added →
    ((bytes : List ℕ) → Among bytes s.came → Among bytes new.came) → IsOfFiles file new.came added →
    ((bytes : List ℕ) → Among bytes new.whole → Among bytes s.whole ⊎ IsTossedBy file added bytes) →
    Agrees new.net (run_alone (after_all_lone (lone_run file events) added)) → IsLone file new (events ++ added)
lone-more file s new events added lone plain came of_files all agrees = record {
  plain = λ e h. elim (Among-append_cases e events added h) [ inl old ↦ lone.plain e old | inr now ↦ plain e now ];
  of_files = λ sender messages h. elim (Among-append_cases (TossHere sender messages) events added h) [
    | inl old ↦ (let (bytes, i, front) = lone.of_files sender messages old in (bytes, came bytes i, front))
    | inr now ↦ of_files sender messages now
  ];
  all = λ bytes h. elim (all bytes h) [
    | inl old ↦ more-events file events (events ++ added) bytes (λ e i. Among-append_left e events added i) (lone.all bytes old)
    | inr now ↦ more-events file added (events ++ added) bytes (λ e i. Among-append_right e events added i) now
  ];
  agrees = (let P : LoneSystem → Type 0 = λ z. Agrees new.net (run_alone z) in subst P (sym (run-append file events added)) agrees);
}

pub first-lone : (links : List ℕ) (file : LinkFile) → LinksOf links (Ok file) → IsLone file (lone_station_at_first links) []
first-lone links file of_links = grind (arith, first-agrees)
