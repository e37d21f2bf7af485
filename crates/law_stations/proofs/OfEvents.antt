-- A posting, a scan and a purge at a station are events of the run.
use Rattle.std.proofs.Common.{◌≡◌, inl, inr, refl, sym, subst, ap, ◌∙◌, ℕ, arith, cond, List, [], ◌∷◌, ◌++◌, append-nil, map, Option, Some, None}
use Rattle.{std.{proofs.lemmas.Bool.cond-true, specs.{Prelude.is_none, List.AllByRecursion}}, model_graph.specs.Walk.Among}
use Rattle.{model_graph.proofs.Members.{Among-append_cases, Among-append_left, Among-append_right}, echo_packet.specs.Header.AreBytes}
use Rattle.{echo_links.specs.Links.LinkFile, echo_filed.specs.Filed.Filed, base_file.specs.Base.Base, model_steps.specs.declared.draft.Draft.Draft}
use Rattle.model_steps.specs.{declared.{fault.PostFault.PostFault, stamp.Stamp.Stamp}, PacketFiles.PacketFile, Posting.{post_refusal, posted, posting}}
use Rattle.model_steps.{specs.{Scanning.scanned, Stamps.is_stamp}, proofs.{Kept.posting_keeps, Purged.purge_keeps}}
use Rattle.{base_file.specs.declared.range.PurgeRange.PurgeRange, base_store.specs.Store.{all_scanned, purged, with_message}}
use Rattle.model_run.specs.{Run.{Run, System, after_event, change, filing, posting_at, purging_at, scanning, scanning_at}, Event.{Posting, Purging, Scanning}}
use Rattle.cmd_store.specs.{declared.drafting.NewMessage.NewMessage, Drafts.{draft_given, refusal_given}, PacketLines.file_sent}
use Rattle.{echo_steps.specs.PacketsIn.state_in, law_stations.specs.Agreement.{Agrees, HasPosting, HasSystem, IsPacketFile, base_of}}
use Rattle.law_stations.{specs.{Nets.{Net, Paired, bytes_of, with_base, with_left}, Commands.{Posts, Purges, Scans}}, proofs.Packets.scanned-fit}
use Rattle.law_stations.proofs.{Pairs.{paired-append, paired-nth}, Putting.puts-agree, Systems.{file-fits, one-file}}
use Rattle.model_steps.specs.Purging as steps

is-filed : (file : LinkFile) (base : List Filed) (tag : List ℕ) (draft : Draft) (serial : ℕ) (stamp : Stamp) → post_refusal file base tag draft serial stamp ≡ None
    → posting file base tag draft serial stamp ≡ Some (posted file tag draft serial stamp)
unfolding posting
is-filed file base tag draft serial stamp allowed = ap (λ (o : Option PostFault). cond (is_none o) (Some (posted file tag draft serial stamp)) None) allowed

pub posted-own : (file : LinkFile) (tag : List ℕ) (draft : Draft) (serial : ℕ) (stamp : Stamp) → (posted file tag draft serial stamp).sender ≡ None
unfolding posted
posted-own file tag draft serial stamp = refl

pub post-agrees : (words : NewMessage) (body : List ℕ) (net new : Net) (i : ℕ) (run : Run) → Agrees net run → Posts words body net i new
    → Agrees new (after_event run (Posting i words.tag.now (draft_given words body) words.serial words.stamp))
post-agrees words body net new i run agrees posts =
    let tag = words.tag.now in
    let draft = draft_given words body in
    let serial = words.serial in
    let stamp = words.stamp in
    let station = posts.station in
    let file = posts.file in
    let (s, there, has) = paired-nth HasSystem i station net.stations run.systems agrees.stations posts.at.there in
    let m = posted s.file tag draft serial stamp in
    let same_file = one-file station.links file s.file posts.at.links has.links in
    let same : posted file tag draft serial stamp ≡ m = ap (λ (f : LinkFile). posted f tag draft serial stamp) same_file in
    let R : LinkFile → Base → Type 0 = λ f b. refusal_given (state_in f b) words body ≡ None in
    let allowed = subst (λ (f : LinkFile). R f (base_of s)) same_file (subst (R file) has.base posts.makes.allowed) in
    let filed_one = is-filed s.file s.base tag draft serial stamp allowed in
    let f = posting_at tag draft serial stamp in
    let is : f s ≡ filing s (Some m) = ap (filing s) filed_one in
    let next : posts.next ≡ with_message (base_of s) m = posts.makes.is ∙ (λ j. with_message (has.base j) (same j)) in
    let H : System → Type 0 = λ z. HasSystem (with_base posts.next station) z in
    let N : System → Type 0 = λ z. HasPosting m z in
    let reported = posted file tag draft serial stamp in
    subst (λ (n : Net). Agrees n (after_event run (Posting i tag draft serial stamp))) (sym posts.becomes)
    (puts-agree net run i posts.next f net.packets run.packets [] (net.postings ++ reported ∷ []) agrees (record {
      station = station;
      at = posts.at.there;
      s = s;
      there = there;
      now = subst H (sym is) (record {
        links = has.links;
        base = next;
        is_base = posting_keeps s.file s.base s.cursor tag draft serial stamp m (file-fits station.links s.file has.links) has.is_base filed_one;
      });
      paired = agrees.packets;
      longer = λ x h. (let P : System → Type 0 = λ z. Among x z.history in subst P (sym is) (Among-append_left x s.history (m ∷ []) h));
      kept = λ x h. Among-append_left x net.postings (reported ∷ []) h;
      posted = λ x h. elim (Among-append_cases x net.postings (reported ∷ []) h) [
        | inl old ↦ inl old
        | inr last ↦ elim last [
          | inl e ↦ (let P : Filed → Type 0 = λ y. HasPosting y (f s) in
              inr (subst P (sym (e ∙ same)) (subst N (sym is) (record { filed = Among-append_right m s.history (m ∷ []) (inl refl); own = posted-own s.file tag draft serial stamp }))))
          | inr none ↦ absurd none
        ]
      ];
      only = λ x has_it.
          let P : System → Type 0 = λ z. HasPosting x z in
          let owned = subst P is has_it in
          elim (Among-append_cases x s.history (m ∷ []) owned.filed) [
            | inl old ↦ inl (record { filed = old; own = owned.own })
            | inr last ↦ elim last [
              | inl e ↦ inr (Among-append_right x net.postings (reported ∷ []) (inl (e ∙ sym same)))
              | inr none ↦ absurd none
            ]
          ];
    }))

base-purged : (range : PurgeRange) (s : System) → purged range (base_of s) ≡ base_of (purging_at range s)
unfolding steps.purged
base-purged range s = refl

pub purge-agrees : (range : PurgeRange) (net new : Net) (i : ℕ) (run : Run) → Agrees net run → Purges range net i new → Agrees new (after_event run (Purging i range))
purge-agrees range net new i run agrees purges =
    let station = purges.station in
    let (s, there, has) = paired-nth HasSystem i station net.stations run.systems agrees.stations purges.there in
    let P : List (List ℕ) → Type 0 = λ files. Paired IsPacketFile files run.packets in
    subst (λ (n : Net). Agrees n (after_event run (Purging i range))) (sym purges.becomes)
    (puts-agree net run i (purged range station.base) (purging_at range) (net.packets ++ []) run.packets [] net.postings agrees (record {
      station = station;
      at = purges.there;
      s = s;
      there = there;
      now = record { links = has.links; base = ap (purged range) has.base ∙ base-purged range s; is_base = purge_keeps range s.base s.cursor has.is_base };
      paired = subst P (sym (append-nil net.packets)) agrees.packets;
      longer = λ m h. h;
      kept = λ m h. h;
      posted = λ m h. inl h;
      only = λ m h. inl (record { filed = h.filed; own = h.own });
    }))

scanned_run : Run → ℕ → Stamp → System → Run
scanned_run run i stamp s = record {
  systems = change i scanning_at run.systems;
  packets = run.packets ++ scanned s.file s.base s.cursor stamp;
  delivered = run.delivered;
}

pub scan-agrees : (stamp : Stamp) (net new : Net) (i : ℕ) (run : Run) → Agrees net run → Scans stamp net i new → Agrees new (after_event run (Scanning i stamp))
unfolding scanned_run
scan-agrees stamp net new i run agrees scans =
    let station = scans.station in
    let file = scans.file in
    let packets = scans.packets in
    let (s, there, has) = paired-nth HasSystem i station net.stations run.systems agrees.stations scans.at.there in
    let same_file = one-file station.links file s.file scans.at.links has.links in
    let ps = scanned s.file s.base s.cursor stamp in
    let sent : packets ≡ map (file_sent s.cursor) ps = scans.made.sent ∙ (λ j. let b = has.base j in map (file_sent b.cursor) (scanned (same_file j) b.messages b.cursor stamp)) in
    let B : List PacketFile → Type 0 = λ files. AllByRecursion (λ (f : PacketFile). AreBytes f.bytes) files in
    let Q : List PacketFile → Type 0 = λ files. Paired IsPacketFile (map bytes_of files) ps in
    let fit = scanned-fit s.file s.base s.cursor stamp s.cursor (file-fits station.links s.file has.links) has.is_base (subst B sent scans.made.bytes) in
    let is : after_event run (Scanning i stamp) ≡ scanned_run run i stamp s =
    ap (λ (o : Option System). scanning run i stamp o) there ∙ cond-true (is_stamp stamp) (scanned_run run i stamp s) run scans.made.moment in
    subst (λ (n : Net). Agrees n (after_event run (Scanning i stamp))) (sym scans.becomes)
    (subst (Agrees (with_left net i packets (all_scanned station.base))) (sym is)
    (puts-agree net run i (all_scanned station.base) scanning_at (net.packets ++ map bytes_of packets) (run.packets ++ ps) [] net.postings agrees (record {
      station = station;
      at = scans.at.there;
      s = s;
      there = there;
      now = record {
        links = has.links;
        base = ap all_scanned has.base;
        is_base = record { each = has.is_base.each; new = has.is_base.new; within = omega arith };
      };
      paired = paired-append IsPacketFile net.packets (map bytes_of packets) run.packets ps agrees.packets (subst Q (sym sent) fit);
      longer = λ m h. h;
      kept = λ m h. h;
      posted = λ m h. inl h;
      only = λ m h. inl (record { filed = h.filed; own = h.own });
    })))
