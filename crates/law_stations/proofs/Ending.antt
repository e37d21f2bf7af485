-- The end of a staging file: its number decides whether its scan moved the cursor, and so whether it gets its name.
use Rattle.std.proofs.Common.{◌≡◌, ◌⊎◌, inl, inr, refl, sym, subst, ap, ◌∙◌, ℕ, zero, suc, ◌+◌, ◌<◌, arith, Bool, true, false, List, [], ◌∷◌, ◌++◌, Option, Some, None}
use Rattle.model_graph.specs.Walk.{Among}
use Rattle.model_run.{specs.Run.nth, proofs.{Lists.{not_both, nth-append}, Targets.some_same}}
use Rattle.law_stations.specs.{Disks.StagingFile, Disks.Disks, Disks.cursors, Disks.naming, Disks.with_packet, Nets.Net, Nets.Paired, Stopping.Ends, Stopping.EndsOne, Stopping.EndsSome, Stopping.now_named}
use Rattle.law_stations.proofs.{Counting.IsItem, Counting.nones, Counting.same_as, Counting.times-append, Counting.waits, Counting.waits-append, Counting.waits-nones, Tracking.IsTagged, Tracking.PairedAround, Tracking.Tracks, Tracking.cursor-too, Tracking.paired-around, Pairs.paired-append}

same-waits : (k : ℕ) (left : List StagingFile) (front behind : List (Option ℕ)) → waits k (front ++ (nones left ++ behind)) ≡ waits k front + waits k behind
same-waits k left front behind = grind (arith, waits-append, waits-nones)

less-waits : (k x : ℕ) (front behind : List (Option ℕ)) → waits k (front ++ Some x ∷ behind) ≡ waits k front + (same_as k x + waits k behind)
less-waits k x front behind = waits-append k front (Some x ∷ behind)

-- the file is gone, or is left under its name
abbrev IsLeft : StagingFile → List StagingFile → Type 0
IsLeft file left = (left ≡ []) ⊎ (left ≡ now_named file ∷ [])

left-tagged : (packets : List (List ℕ)) (at : List ℕ) (file : StagingFile) (left : List StagingFile) → IsLeft file left → Paired (IsTagged packets at) left (nones left)
left-tagged packets at file left h1 = grind arith

module _ (d new : Disks) (net : Net) (t : Tracks d net) (before : List StagingFile) (file : StagingFile) (after left : List StagingFile)
    (staging : new.staging ≡ before ++ (left ++ after)) (around : PairedAround (IsTagged net.packets (cursors net)) before file after t.tags) where
  abbrev tags : List (Option ℕ)
  tags = around.front ++ (nones left ++ around.behind)

  tagged : Paired (IsTagged net.packets (cursors net)) left (nones left) → Paired (IsTagged net.packets (cursors net)) new.staging tags
  tagged is = grind (arith, paired-append)

  unchanged : around.y ≡ None → new.net ≡ d.net → Paired (IsTagged net.packets (cursors net)) left (nones left) → Tracks new net
  unchanged none same is = grind (arith, tagged, waits-append, same-waits)

  gets-name : (k : ℕ) → around.y ≡ Some k → nth k net.packets ≡ Some file.bytes → new.net ≡ with_packet d.net file.bytes
      → Paired (IsTagged net.packets (cursors net)) left (nones left) → Tracks new net
  gets-name k waited there same is = record {
    stations = ap (λ (n : Net). n.stations) same ∙ t.stations;
    postings = ap (λ (n : Net). n.postings) same ∙ t.postings;
    places = t.places ++ k ∷ [];
    named = subst (λ (n : Net). Paired (IsItem net.packets) n.packets (t.places ++ k ∷ [])) (sym same)
        (paired-append (IsItem net.packets) d.net.packets (file.bytes ∷ []) t.places (k ∷ []) t.named (there, tt));
    tags = tags;
    staging = tagged is;
    each = λ x.
        let whole = ap (waits x) (around.whole ∙ ap (λ (o : Option ℕ). around.front ++ o ∷ around.behind) waited) in
        let split = less-waits x k around.front around.behind in
        let now = same-waits x left around.front around.behind in
        let put = times-append x t.places (k ∷ []) in
        let was = t.each x in
        omega (arith, whole, split, now, put, was);
    tossed = λ j h.
        let among : Among j d.net.delivered = subst (λ (n : Net). Among j n.delivered) same h in
        let (x, at, done) = t.tossed j among in
        (x, nth-append j x t.places (k ∷ []) at, done);
  }

pub one-ended : (i : ℕ) (d new : Disks) (net : Net) → Tracks d net → EndsOne i d new → Tracks new net
one-ended i d new net t e = by around.y refl e.ends
  where
    at : nth e.file.station (cursors net) ≡ Some e.cursor
    at = subst (λ (n : ℕ). nth n (cursors net) ≡ Some e.cursor) (sym e.own) (cursor-too d.net net i e.cursor t.stations e.is_cursor)

    around : PairedAround (IsTagged net.packets (cursors net)) e.before e.file e.after t.tags
    around = paired-around (IsTagged net.packets (cursors net)) e.before e.file e.after t.tags
        (subst (λ (fs : List StagingFile). Paired (IsTagged net.packets (cursors net)) fs t.tags) e.stood t.staging)

    here : (o : Option ℕ) → around.y ≡ o → IsTagged net.packets (cursors net) e.file o
    here o is = subst (IsTagged net.packets (cursors net) e.file) is around.here

    gone : e.left ≡ [] → Paired (IsTagged net.packets (cursors net)) e.left (nones e.left)
    gone none = left-tagged net.packets (cursors net) e.file e.left (inl none)

    under : around.y ≡ None → (b : Bool) → e.file.named ≡ b → IsTagged net.packets (cursors net) e.file None → e.file.number < e.cursor → new.net ≡ naming d.net e.file.bytes b
        → IsLeft e.file e.left → Tracks new net
    under none true is tag less same left =
        unchanged d new net t e.before e.file e.after e.left e.staging around none same (left-tagged net.packets (cursors net) e.file e.left left)
    under none false is (inl other) less same left = absurd (not_both e.file.named other is)
    under none false is (inr late) less same left = let most = late e.cursor at in absurd (omega (arith, most, less))

    by : (o : Option ℕ) → around.y ≡ o → Ends e.cursor d.net e.file new.net e.left → Tracks new net
    by None none (inl (less, same, left)) = under none e.file.named refl (here None none) less same left
    by None none (inr (least, same, left)) = unchanged d new net t e.before e.file e.after e.left e.staging around none same (gone left)
    by (Some k) waited (inl (less, same, left)) =
        let (there, unnamed, below_it) = here (Some k) waited in
        gets-name d new net t e.before e.file e.after e.left e.staging around k waited there (same ∙ ap (naming d.net e.file.bytes) unnamed)
        (left-tagged net.packets (cursors net) e.file e.left left)
    by (Some k) waited (inr (least, same, left)) =
        let (there, unnamed, below_it) = here (Some k) waited in
        let (c, is, less) = below_it in
        let one : c ≡ e.cursor = some_same (sym is ∙ at) in
        absurd (omega (arith, least, less, one))

pub some-ended : (n i : ℕ) (d new : Disks) (net : Net) → Tracks d net → EndsSome n i d new → Tracks new net
some-ended zero i d new net t same = subst (λ (x : Disks). Tracks x net) (sym same) t
some-ended (suc n) i d new net t (next, first, later) = some-ended n i next new net (one-ended i d next net t first) later
