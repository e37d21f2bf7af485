-- The session, step by step.
use Rattle.std.proofs.Common.{◌≡◌, ◌≢◌, ℕ, ◌<◌, zero, suc, ◌++◌, List, [], ◌∷◌, inl, inr, refl, sym, ◌∙◌, ap, subst, arith, lit<}
use Rattle.std.specs.Prelude.{Bool, length, Some, None}
use Rattle.{base_file.specs.Base.Base, cmd_store.specs.{Coming.{Holds}, Drafts.draft_given, declared.drafting.NewMessage.NewMessage}, echo_filed.specs.Filed.Filed}
use Rattle.disk_memory.specs.{Memory.{disk_after, files_after}, declared.memory_disk.Change.Change}
use Rattle.{echo_links.specs.Links.{LinkFile, upper}, echo_steps.specs.PacketsIn.state_in, model_graph.{specs.Walk.Among, proofs.Members.Among-append_right}}
use Rattle.model_run.{specs.Run.nth, proofs.{Areas.key-tag, HarmLists.{among-nth, nth-changed}, Lists.with_index-new, Targets.{none_some, some_same}}}
use Rattle.{model_steps.specs.{Posting.posted, declared.{draft.Draft.Draft, stamp.Stamp.Stamp}}, station.specs.Place.Place}
use Rattle.law_stations.specs.{Commands.{Command, Post, Posts, Scan, Toss, Tosses}, Disks.{Disks}, Nets.{Net, Station, new_station, with_base}}
use Rattle.law_stations.specs.{Seats.{RepresentsSeat, reach}, Steps.{Ends, Goes, HasEnded}, Stopping.PartialEffect}
use Rattle.law_stations.proofs.{Elsewhere.{elsewhere, scan-news}, FileRuns.{tossed-all, wholes}, Others.tossed-cursor}
use Rattle.law_session.specs.Session.{ArePlaces, ArePut, AreShown, HasReceived, HasSent, IsSession, at_first, either_of, first_seat, seats, second_seat}
use Rattle.law_session.specs.declared.session.TheConstants.{SECOND_OUT}
use Rattle.law_session.proofs.{Names.{HasOne, byte, has-one}, Places.{begins, near, second-free}}
use Rattle.law_session.proofs.Steps

-- the base after a posting, and after a toss, has the cursor from before
posted-cursor : (words : NewMessage) (body : List ℕ) (net next : Net) (i : ℕ) (was station : Station) → nth i net.stations ≡ Some was → Posts words body net i next → nth i next.stations ≡ Some station → station.base.cursor ≡ was.base.cursor
posted-cursor words body net next i was station at p there =
    let now : nth i next.stations ≡ Some (with_base p.next p.station) = ap (λ (n : Net). nth i n.stations) p.becomes ∙ nth-changed i (with_base p.next) p.station net.stations p.at.there in
    ap (λ (x : Station). x.base.cursor) (some_same (sym there ∙ now)) ∙ ap (λ (b : Base). b.cursor) p.makes.is ∙ ap (λ (x : Station). x.base.cursor) (some_same (sym p.at.there ∙ at))

toss-cursor : (indexes : List ℕ) (net next : Net) (i : ℕ) (was station : Station) → nth i net.stations ≡ Some was → Tosses indexes net i next → nth i next.stations ≡ Some station → station.base.cursor ≡ was.base.cursor
toss-cursor indexes net next i was station at p there =
    let now : nth i next.stations ≡ Some (with_base p.next p.station) = ap (λ (n : Net). nth i n.stations) p.becomes ∙ nth-changed i (with_base p.next) p.station net.stations p.at.there in
    let kept : p.next.cursor ≡ p.station.base.cursor =
    tossed-cursor (wholes (length p.files) p.tosses.stopped p.tosses.left) net.packets indexes p.files (state_in p.file p.station.base) (state_in p.file p.next) p.are
    (tossed-all p.files p.file p.station.base p.next p.tosses) in
    ap (λ (x : Station). x.base.cursor) (some_same (sym there ∙ now)) ∙ kept ∙ ap (λ (x : Station). x.base.cursor) (some_same (sym p.at.there ∙ at))

posted-tag : (file : LinkFile) (tag : List ℕ) (draft : Draft) (serial : ℕ) (at : Stamp) → (posted file tag draft serial at).echo.tag ≡ upper tag
unfolding posted
posted-tag file tag draft serial at = refl

-- another station stays
others : (command : Command) (i j : ℕ) (d next : Disks) → PartialEffect command d i next → j ≢ i → nth j next.net.stations ≡ nth j d.net.stations
others command i j d next leads off = elsewhere (record { station = i; command = command }) j d next off (inr leads)

module _ (first second : Place) (places : ArePlaces first second)
    (one two left : List ℕ) (words : NewMessage) (body : List ℕ) (stamp : Stamp) (s0 s4 s6 : List Change) (put : ArePut one two left (files_after s0)) (bytes : List ℕ)
    (run : HasSent first first words body stamp s0 s4 bytes) (more : HasReceived second second (Holds bytes ∷ []) stamp s4 s6) where
  abbrev place : Bool → Place
  place = either_of first second

  abbrev s1 : List Change
  s1 = run.posted

  abbrev s2 : List Change
  s2 = run.scanned

  abbrev s5 : List Change
  s5 = more.tossed

  abbrev d0 : Disks
  d0 = at_first one two left

  shown0 : AreShown place s0 d0
  shown0 = begins first second places one two left s0 put

  -- the post
  abbrev d1 : Disks
  d1 = Steps.posted first second places s0 d0 shown0 words body s1 run.post

  ended1 : HasEnded place seats first_seat 0 (Some (Post words body)) d0 d1 (disk_after s0) (disk_after s1)
  ended1 = Steps.post-ended first second places s0 d0 shown0 words body s1 run.post

  shown1 : AreShown place s1 d1
  shown1 = Steps.shown-then first second places s0 d0 shown0 0 first_seat refl refl (Post words body) s1 d1 ended1

  one1 : HasOne (files_after s1)
  one1 = Steps.still-one first second places s0 d0 shown0 words body s1 run.post (has-one one two left (files_after s0) put)

  free1 : (rest : List ℕ) → files_after s1 (SECOND_OUT.now ++ rest) ≡ None
  free1 = Steps.still-free first second places s0 d0 shown0 words body s1 run.post (second-free first second places one two left s0 put)

  abbrev at1 : RepresentsSeat place seats 0 first_seat (disk_after s1) d1
  at1 = Steps.first-at first second places s1 d1 shown1

  cursor1 : at1.at.shows.station.base.cursor ≡ 0
  cursor1 = posted-cursor words body d0.net d1.net 0 (new_station one) at1.at.shows.station refl ended1.may.0 at1.at.shows.there

  -- the scan
  scan1 : Steps.ScannedAt place 0 first_seat stamp d1 s1 s2
  scan1 = Steps.first-scan first second places s1 d1 shown1 left ended1.may.1 one1 cursor1 stamp s2 run.scan

  abbrev d2 : Disks
  d2 = scan1.next

  shown2 : AreShown place s2 d2
  shown2 = Steps.shown-then first second places s1 d1 shown1 0 first_seat refl refl (Scan stamp) s2 d2 scan1.ended

  free2 : (rest : List ℕ) → files_after s2 (SECOND_OUT.now ++ rest) ≡ None
  free2 rest = scan1.ended.elsewhere.keeps.seen (SECOND_OUT.now ++ rest) (not-first rest) ∙ free1 rest
    where
      not-first : (rest : List ℕ) → (reach place first_seat).is_own (SECOND_OUT.now ++ rest) → ⊥
      not-first rest (inl own) = absurd (omega (arith, places.begin_o _ own))
      not-first rest (inr below) = absurd (omega (arith, byte 0 below.parts))

  -- the mailer, and the power cut
  index : (k : ℕ) × (nth k d2.net.packets ≡ Some bytes)
  index =
      let at = (Steps.first-at first second places s2 d2 shown2).at.shows in
      let (file, says) = scan1.read at.station at.there in
      Steps.packet-index first second places s2 d2 shown2 file says bytes (sym run.mailed.moved ∙ run.packet)

  shown4 : AreShown place s4 d2
  shown4 = Steps.shown-mailed first second places s2 d2 shown2 s4 run.mailed

  free4 : (rest : List ℕ) → files_after s4 (SECOND_OUT.now ++ rest) ≡ None
  free4 rest = run.mailed.others (SECOND_OUT.now ++ rest) (λ is. omega (arith, byte 0 is)) (λ is. omega (arith, byte 0 is)) ∙ free2 rest

  -- the toss
  abbrev d3 : Disks
  d3 = Steps.tossed first second places s4 d2 shown4 bytes index.0 index.1 more.left s5 more.toss

  ended3 : HasEnded place seats second_seat 1 (Some (Toss (index.0 ∷ []))) d2 d3 (disk_after s4) (disk_after s5)
  ended3 = Steps.toss-ended first second places s4 d2 shown4 bytes index.0 index.1 more.left s5 more.toss

  shown5 : AreShown place s5 d3
  shown5 = Steps.shown-then first second places s4 d2 shown4 1 second_seat refl refl (Toss (index.0 ∷ [])) s5 d3 ended3

  free5 : (rest : List ℕ) → files_after s5 (SECOND_OUT.now ++ rest) ≡ None
  free5 = Steps.toss-free first second places s4 d2 shown4 bytes index.0 index.1 more.left s5 more.toss free4

  abbrev at5 : RepresentsSeat place seats 1 second_seat (disk_after s5) d3
  at5 = Steps.second-at first second places s5 d3 shown5

  -- the second station had an empty base before the toss
  new2 : nth 1 d2.net.stations ≡ Some (new_station two)
  new2 = others (Scan stamp) 0 1 d1 d2 scan1.ended.may (λ e. absurd (omega (arith, e))) ∙ others (Post words body) 0 1 d0 d1 ended1.may (λ e. absurd (omega (arith, e)))

  cursor5 : at5.at.shows.station.base.cursor ≡ 0
  cursor5 = toss-cursor _ d2.net d3.net 1 (new_station two) at5.at.shows.station new2 ended3.may.1 at5.at.shows.there

  -- the scan at the second station
  scan2 : Steps.ScannedAt place 1 second_seat stamp d3 s5 s6
  scan2 = Steps.second-scan first second places s5 d3 shown5 (ended3.may.2 ∙ scan1.none_waits) free5 cursor5 stamp s6 more.scan

  abbrev d4 : Disks
  d4 = scan2.next

  -- nothing waits
  first-stays : nth 0 d4.net.stations ≡ nth 0 d2.net.stations
  first-stays = others (Scan stamp) 1 0 d3 d4 scan2.ended.may (λ e. absurd (omega (arith, e))) ∙ others (Toss (index.0 ∷ [])) 1 0 d2 d3 ended3.may (λ e. absurd (omega (arith, e)))

  no-more : (i : ℕ) → nth (suc (suc i)) d4.net.stations ≡ None
  no-more i =
      let off : (k : ℕ) → k < 2 → suc (suc i) ≢ k = λ k lt e. absurd (omega (arith, lt, e)) in
      others (Scan stamp) 1 (suc (suc i)) d3 d4 scan2.ended.may (off 1 (lit< tt))
      ∙ others (Toss (index.0 ∷ [])) 1 (suc (suc i)) d2 d3 ended3.may (off 1 (lit< tt))
      ∙ others (Scan stamp) 0 (suc (suc i)) d1 d2 scan1.ended.may (off 0 (lit< tt))
      ∙ others (Post words body) 0 (suc (suc i)) d0 d1 ended1.may (off 0 (lit< tt))

  station-at-end : (i : ℕ) (station : Station) → nth i d4.net.stations ≡ Some station → station.base.cursor ≡ length station.base.messages
  station-at-end zero station is = scan1.at_end station (sym first-stays ∙ is)
  station-at-end (suc zero) station is = scan2.at_end station is
  station-at-end (suc (suc i)) station is = absurd (none_some (sym (no-more i) ∙ is))

  -- the posting
  p : Posts words body d0.net 0 d1.net
  p = ended1.may.0

  abbrev message : Filed
  message = posted p.file words.tag.now (draft_given words body) words.serial words.stamp

  first-step : Goes disk_after place seats (record { disk = 0; what = Ends 0 (Some (Post words body)); then = s1 }) (s0 ∷ []) d0 d1
  first-step = Steps.goes first second places s0 d0 shown0 0 first_seat refl refl (Post words body) s1 d1 ended1

  postings4 : d4.net.postings ≡ d0.net.postings ++ message ∷ []
  postings4 = (scan-news stamp 1 d3 d4 scan2.ended.may).1 ∙ ap (λ (n : Net). n.postings) ended3.may.1.becomes ∙ (scan-news stamp 0 d1 d2 scan1.ended.may).1 ∙ ap (λ (n : Net). n.postings) p.becomes

  pub whole-session : IsSession place one two left words body stamp s6
  whole-session = record {
    begun = s0;
    put = put;
    times = record { posted = s1; scanned = s2; carried = s4; tossed = s5; ended = s6 };
    at_end = refl;
    scan = record { was = d1; finished = record { net = d1.net; staging = [] }; station = scan1.was; after = scan1.after; none_waits = scan1.at_paths };
    mailed = run.mailed;
    near = near first second places;
    shown = shown0;
    index = index.0;
    goes = record {
      end = d4;
      goes = (
        d1,
        first-step,
        (
          d2,
          Steps.goes first second places s1 d1 shown1 0 first_seat refl refl (Scan stamp) s2 d2 scan1.ended,
          (
            d2,
            Steps.mails first second places s2 d2 shown2 s4 run.mailed,
            (
              d2,
              Steps.crashes first second places s4 d2 shown4,
              (
                d3,
                Steps.goes first second places s4 d2 shown4 1 second_seat refl refl (Toss (index.0 ∷ [])) s5 d3 ended3,
                (d4, Steps.goes first second places s5 d3 shown5 1 second_seat refl refl (Scan stamp) s6 d4 scan2.ended, refl),
              ),
            ),
          ),
        ),
      );
    };
    cut = λ files is.
        let cut = scan1.cut files is in
        record { command = cut.command; is = cut.is; goes = record { end = cut.next; goes = (d1, first-step, (cut.next, Steps.cuts first second places s1 d1 shown1 stamp s2 files cut, refl)) } };
    shown_at_end = Steps.shown-then first second places s5 d3 shown5 1 second_seat refl refl (Scan stamp) s6 d4 scan2.ended;
    delivered =
        let was = Steps.now-delivered first second places s4 d2 shown4 bytes index.0 index.1 more.left s5 more.toss in
        subst (λ (l : List ℕ). Among index.0 l) (sym ((scan-news stamp 1 d3 d4 scan2.ended.may).0 ∙ was)) (with_index-new index.0 d2.net.delivered);
    posting = message;
    posted = subst (λ (l : List Filed). Among message l) (sym postings4) (Among-append_right message d0.net.postings (message ∷ []) (inl refl));
    of_area = key-tag message ∙ posted-tag p.file words.tag.now (draft_given words body) words.serial words.stamp;
    nothing_waits = record {
      scanned = λ station among. (let (i, is) = among-nth station d4.net.stations among in station-at-end i station is);
      named = scan2.none_waits;
    };
  }
