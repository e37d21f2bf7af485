-- A station's folder of packets stays as the net has it.
use Rattle.std.proofs.Common.{◌≡◌, ◌≢◌, inl, inr, ◌∙◌, refl, sym, subst, ap, append-nil, append_assoc, ℕ, zero, suc, Bool, true, false, List, [], ◌∷◌, ◌++◌, codes, length, map, take, Option, Some, None, Ok}
use Rattle.{base_file.specs.Base.Base, base_store.specs.Store.purged, cmd_store.specs.declared.drafting.NewMessage.NewMessage}
use Rattle.{model_steps.specs.declared.stamp.Stamp.Stamp, model_graph.{specs.Walk.Among, proofs.Members.{Among-append_cases, Among-append_left}}}
use Rattle.{disk_io.specs.Disk.{DiskState, Files}, disk_atomic.specs.StagingPaths.{dotted, staging_path}, echo_links.specs.LinkLines.LinksOf}
use Rattle.{echo_steps.specs.PacketsIn.state_in, model_run.{specs.Run.{change, nth}, proofs.{HarmLists.nth-changed as changed-there, Targets.some_same}}}
use Rattle.{station.specs.Place.Place, law_stations.specs.{Asked.{Asked, AsksMail, AsksPost, AsksPurge, AsksReply, AsksToss, IsAsked}, DiskKinds.IsPostAs}}
use Rattle.law_stations.specs.{Commands.{Command, Post, Purge, Scan, Toss, Tosses}, Disks.{Disks, StagingFile}, Nets.{Net, Station, with_base}}
use Rattle.law_stations.specs.{OnDisks.LeavesElsewhere, PacketNames.{AreOfNet, IsFolderIn, IsPacketName, IsToName, ShowsFolder}, Seats.IsBelow}
use Rattle.law_stations.specs.{Steps.{IsAllOnDisk, MayLead}, Stopping.{EndsOne, EndsSome, PartialEffect, ScansFar, staging_of}}
use Rattle.law_stations.proofs.{FileRuns.{tossed-all, wholes}, Others.tossed-cursor, PacketNames.{ends-keep, still-waits}}

-- ---- the net goes on

-- it keeps the packets, and what waits at a station
pub record Grows (i : ℕ) (d next : Disks) : Type 0 where
  pub packets : (bytes : List ℕ) → Among bytes d.net.packets → Among bytes next.net.packets
  pub waits : (cursor : ℕ) (bytes : List ℕ) → IsToName i cursor d bytes → IsToName i cursor next bytes

pub grows-same : (i : ℕ) (d next : Disks) → next ≡ d → Grows i d next
grows-same i d next same = subst (λ (x : Disks). Grows i d x) (sym same) (record { packets = λ bytes is. is; waits = λ cursor bytes w. w })

grows-by : (i : ℕ) (d next : Disks) (more : List (List ℕ)) (files : List StagingFile) → next.net.packets ≡ d.net.packets ++ more → next.staging ≡ d.staging ++ files → Grows i d next
grows-by i d next more files packets staging = record {
  packets = λ bytes is. subst (λ (l : List (List ℕ)). Among bytes l) (sym packets) (Among-append_left bytes d.net.packets more is);
  waits = λ cursor bytes w. record {
    file = w.file;
    among = subst (λ (l : List StagingFile). Among w.file l) (sym staging) (Among-append_left w.file d.staging files w.among);
    own = w.own;
    below = w.below;
    unnamed = w.unnamed;
    same = w.same;
  };
}

grows-then : (i : ℕ) (d mid next : Disks) → Grows i d mid → Grows i mid next → Grows i d next
grows-then i d mid next one two = record { packets = λ bytes is. two.packets bytes (one.packets bytes is); waits = λ cursor bytes w. two.waits cursor bytes (one.waits cursor bytes w) }

-- what waits at another station still waits
one-grows : (i j : ℕ) (d next : Disks) → j ≢ i → EndsOne i d next → Grows j d next
one-grows i j d next other e = record {
  packets = λ bytes is. ends-keep 1 i d next bytes (next, e, refl) is;
  waits = λ cursor bytes w. elim (Among-append_cases w.file e.before (e.file ∷ e.after) (subst (λ (l : List StagingFile). Among w.file l) e.stood w.among)) [
    | inl before ↦ still-waits i j cursor d next bytes e w (inl before)
    | inr rest ↦ elim rest [
      | inl is ↦ absurd (other (sym w.own ∙ ap (λ (f : StagingFile). f.station) is ∙ e.own))
      | inr after ↦ still-waits i j cursor d next bytes e w (inr after)
    ]
  ];
}

some-grow : (n i j : ℕ) (d next : Disks) → j ≢ i → EndsSome n i d next → Grows j d next
some-grow zero i j d next other same = grows-same j d next same
some-grow (suc n) i j d next other (mid, first, later) = grows-then j d mid next (one-grows i j d mid other first) (some-grow n i j mid next other later)

-- a command that is no scan
abbrev pub IsNoScan : Command → Type 0
IsNoScan (Scan stamp) = ⊥
IsNoScan other = Unit {0}

posts-no-scan : (free : Bool) (words : NewMessage) (body : List ℕ) (command : Command) → IsPostAs free words body command → IsNoScan command
posts-no-scan false words body command is = subst IsNoScan (sym is) tt
posts-no-scan true words body command (serial, is) = subst IsNoScan (sym is) tt

pub asked-no-scan : (asked : Asked) (base : Base) (command : Command) → IsAsked asked base command → IsNoScan command
asked-no-scan (AsksPost free words body) base command is = posts-no-scan free words body command is
asked-no-scan (AsksReply index answer body) base command is = posts-no-scan answer.free is.words body command is.is
asked-no-scan (AsksMail letter asked) base command is = posts-no-scan asked.free is.words letter.body command is.is
asked-no-scan (AsksPurge range) base command is = subst IsNoScan (sym is) tt
asked-no-scan (AsksToss indexes) base command is = subst IsNoScan (sym is) tt

-- it leaves packets and staging files, and the link file and the cursor of its station
pub record IsQuiet (i : ℕ) (d next : Disks) : Type 0 where
  pub packets : next.net.packets ≡ d.net.packets
  pub staging : next.staging ≡ d.staging
  pub station : (was is : Station) → nth i d.net.stations ≡ Some was → nth i next.net.stations ≡ Some is → (is.links ≡ was.links) × (is.base.cursor ≡ was.base.cursor)

with-new : (i : ℕ) (stations : List Station) (new : List Station) (base : Base) (of was is : Station) → new ≡ change i (with_base base) stations → nth i stations ≡ Some of → base.cursor ≡ of.base.cursor
    → nth i stations ≡ Some was → nth i new ≡ Some is → (is.links ≡ was.links) × (is.base.cursor ≡ was.base.cursor)
with-new i stations new base of was is becomes there same was_there is_there =
    let one : of ≡ was = some_same (sym there ∙ was_there) in
    let now : with_base base of ≡ is = some_same (sym (changed-there i (with_base base) of stations there) ∙ ap (nth i) (sym becomes) ∙ is_there) in
    (ap (λ (s : Station). s.links) (sym now) ∙ ap (λ (s : Station). s.links) one, ap (λ (s : Station). s.base.cursor) (sym now) ∙ same ∙ ap (λ (s : Station). s.base.cursor) one)

toss-cursor : (indexes : List ℕ) (net new : Net) (i : ℕ) → (p : Tosses indexes net i new) → p.next.cursor ≡ p.station.base.cursor
toss-cursor indexes net new i p =
    tossed-cursor (wholes (length p.files) p.tosses.stopped p.tosses.left) net.packets indexes p.files (state_in p.file p.station.base) (state_in p.file p.next) p.are
    (tossed-all p.files p.file p.station.base p.next p.tosses)

pub quiet : (command : Command) (i : ℕ) (d next : Disks) → IsNoScan command → PartialEffect command d i next → IsQuiet i d next
quiet (Post words body) i d next no_scan (p, staging) = record {
  packets = ap (λ (n : Net). n.packets) p.becomes;
  staging = staging;
  station = λ was is there now. with-new i d.net.stations next.net.stations p.next p.station was is (ap (λ (n : Net). n.stations) p.becomes) p.at.there (ap (λ (b : Base). b.cursor) p.makes.is) there now;
}
quiet (Scan stamp) i d next no_scan leads = absurd no_scan
quiet (Purge range) i d next no_scan (p, staging) = record {
  packets = ap (λ (n : Net). n.packets) p.becomes ∙ append-nil d.net.packets;
  staging = staging;
  station = λ was is there now. with-new i d.net.stations next.net.stations (purged range p.station.base) p.station was is (ap (λ (n : Net). n.stations) p.becomes) p.there refl there now;
}
quiet (Toss indexes) i d next no_scan (n, p, staging) = record {
  packets = ap (λ (x : Net). x.packets) p.becomes;
  staging = staging;
  station = λ was is there now. with-new i d.net.stations next.net.stations p.next p.station was is (ap (λ (x : Net). x.stations) p.becomes) p.at.there (toss-cursor (take n indexes) d.net next.net i p) there now;
}

pub quiet-grows : (i j : ℕ) (d next : Disks) → IsQuiet i d next → Grows j d next
quiet-grows i j d next q = grows-by j d next [] [] (q.packets ∙ sym (append-nil d.net.packets)) (q.staging ∙ sym (append-nil d.staging))

far-grows : (stamp : Stamp) (i j : ℕ) (d next : Disks) → j ≢ i → ScansFar stamp i d next → Grows j d next
far-grows stamp i j d next other (n, ended, ends, inl same) = grows-then j d ended next (some-grow n i j d ended other ends) (grows-same j ended next same)
far-grows stamp i j d next other (n, ended, ends, inr (inl w)) =
    grows-then j d ended next (some-grow n i j d ended other ends)
    (grows-by j ended next [] w.files (ap (λ (x : Disks). x.net.packets) w.becomes ∙ sym (append-nil ended.net.packets)) (ap (λ (x : Disks). x.staging) w.becomes))
far-grows stamp i j d next other (n, ended, ends, inr (inr (k, moved, m, rest))) =
    grows-then j d ended next (some-grow n i j d ended other ends) (grows-then j ended moved next
    (grows-by j ended moved [] (map (staging_of i m.cursor) m.scans.packets) (ap (λ (x : Disks). x.net.packets) m.becomes) (ap (λ (x : Disks). x.staging) m.becomes))
    (some-grow k i j moved next other rest))

-- a command at another station
pub lead-grows : (command : Option Command) (i j : ℕ) (d next : Disks) → j ≢ i → MayLead command i d next → Grows j d next
lead-grows None i j d next other same = grows-same j d next same
lead-grows (Some (Post words body)) i j d next other leads = quiet-grows i j d next (quiet (Post words body) i d next tt leads)
lead-grows (Some (Scan stamp)) i j d next other leads = far-grows stamp i j d next other leads
lead-grows (Some (Purge range)) i j d next other leads = quiet-grows i j d next (quiet (Purge range) i d next tt leads)
lead-grows (Some (Toss indexes)) i j d next other leads = quiet-grows i j d next (quiet (Toss indexes) i d next tt leads)

-- any command keeps packets
far-keeps : (stamp : Stamp) (i : ℕ) (d next : Disks) (bytes : List ℕ) → ScansFar stamp i d next → Among bytes d.net.packets → Among bytes next.net.packets
far-keeps stamp i d next bytes (n, ended, ends, inl same) is = subst (λ (x : Disks). Among bytes x.net.packets) (sym same) (ends-keep n i d ended bytes ends is)
far-keeps stamp i d next bytes (n, ended, ends, inr (inl w)) is = subst (λ (x : Disks). Among bytes x.net.packets) (sym w.becomes) (ends-keep n i d ended bytes ends is)
far-keeps stamp i d next bytes (n, ended, ends, inr (inr (k, moved, m, rest))) is =
    ends-keep k i moved next bytes rest (subst (λ (x : Disks). Among bytes x.net.packets) (sym m.becomes) (Among-append_left bytes ended.net.packets [] (ends-keep n i d ended bytes ends is)))

pub lead-keeps : (command : Option Command) (i : ℕ) (d next : Disks) (bytes : List ℕ) → MayLead command i d next → Among bytes d.net.packets → Among bytes next.net.packets
lead-keeps None i d next bytes same is = subst (λ (x : Disks). Among bytes x.net.packets) (sym same) is
lead-keeps (Some (Post words body)) i d next bytes leads is = (quiet-grows i i d next (quiet (Post words body) i d next tt leads)).packets bytes is
lead-keeps (Some (Scan stamp)) i d next bytes leads is = far-keeps stamp i d next bytes leads is
lead-keeps (Some (Purge range)) i d next bytes leads is = (quiet-grows i i d next (quiet (Purge range) i d next tt leads)).packets bytes is
lead-keeps (Some (Toss indexes)) i d next bytes leads is = (quiet-grows i i d next (quiet (Toss indexes) i d next tt leads)).packets bytes is

-- ---- the folder

module _ (place : Place) (outbound : List ℕ) (i : ℕ) where
  -- the station has the same link file and the same cursor
  pub folder-follows : (was is : Station) (c : Files) (d next : Disks) → is.links ≡ was.links → is.base.cursor ≡ was.base.cursor → Grows i d next → IsFolderIn place outbound i was c d → IsFolderIn place outbound i is c next
  folder-follows was is c d next links cursor grows folder file says =
      let old = folder file (subst (λ (l : List ℕ). LinksOf l (Ok file)) links says) in
      subst (λ (k : ℕ). AreOfNet place.is_own outbound (dotted file.system) i k c next) (sym cursor) (record {
        packets = λ name bytes named at. grows.packets bytes (old.packets name bytes named at);
        left = λ name bytes named below at. elim (old.left name bytes named below at) [ inl among ↦ inl (grows.packets bytes among) | inr waits ↦ inr (grows.waits was.base.cursor bytes waits) ];
        free = old.free;
      })

  -- it is the same station
  pub folder-then : (was is : Station) (c : Files) (d next : Disks) → was ≡ is → Grows i d next → IsFolderIn place outbound i was c d → IsFolderIn place outbound i is c next
  folder-then was is c d next same grows folder =
      folder-follows was is c d next (ap (λ (s : Station). s.links) (sym same)) (ap (λ (s : Station). s.base.cursor) (sym same)) grows folder

  -- a command that is no scan
  pub folder-led : (was is : Station) (c : Files) (d next : Disks) (command : Command) → IsNoScan command → PartialEffect command d i next → nth i d.net.stations ≡ Some was → nth i next.net.stations ≡ Some is
      → IsFolderIn place outbound i was c d → IsFolderIn place outbound i is c next
  folder-led was is c d next command no_scan leads there now folder =
      let q = quiet command i d next no_scan leads in
      let s = q.station was is there now in
      folder-follows was is c d next s.0 s.1 (quiet-grows i i d next q) folder

  same-folder : (station : Station) (before c : Files) (d : Disks) → ((own name : List ℕ) → IsPacketName place.is_own outbound own name → (c (outbound ++ name) ≡ before (outbound ++ name)) × (c (staging_path (outbound ++ name) own) ≡ before (staging_path (outbound ++ name) own)))
      → IsFolderIn place outbound i station before d → IsFolderIn place outbound i station c d
  same-folder station before c d same folder file says =
      let old = folder file says in
      record {
        packets = λ name bytes named at. old.packets name bytes named (sym (same (dotted file.system) name named).0 ∙ at);
        left = λ name bytes named below at. old.left name bytes named below (sym (same (dotted file.system) name named).1 ∙ at);
        free = λ name named later. (same (dotted file.system) name named).0 ∙ old.free name named later;
      }

  module _ (station : Station) (old : DiskState) (d : Disks) (shown : ShowsFolder place outbound i station old d) where
    -- after a crash
    pub folder-crash : (c : Files) → old.may_leave c → IsFolderIn place outbound i station c d
    folder-crash c left = same-folder station old.seen c d
        (λ own name named.
        let path = (shown.on_disk own).path name named in
        let staging = (shown.on_disk own).staging name named in
        (old.on_disk (outbound ++ name) path.0 path.1 c left, old.on_disk (staging_path (outbound ++ name) own) staging.0 staging.1 c left)) shown.files

    -- after a command in another place, of which no path is in the folder
    module _ (other : Place) (new : DiskState) (left : LeavesElsewhere other old new) (off : (m : List ℕ) → IsBelow outbound m → (place.is_own m → ⊥) → other.is_own m → ⊥) where
      off-path : (own name : List ℕ) → IsPacketName place.is_own outbound own name → other.is_own (outbound ++ name) → ⊥
      off-path own name named is = off (outbound ++ name) (record { rest = name; parts = refl }) named.off.path is

      off-staging : (own name : List ℕ) → IsPacketName place.is_own outbound own name → other.is_own (staging_path (outbound ++ name) own) → ⊥
      off-staging own name named is = off (staging_path (outbound ++ name) own) (record { rest = staging_path name own; parts = append_assoc outbound name (codes ".~" ++ (own ++ codes "~.new")) }) named.off.staging is

      pub folder-kept : ShowsFolder place outbound i station new d
      folder-kept = record {
        files = same-folder station old.seen new.seen d
            (λ own name named. (left.keeps.seen (outbound ++ name) (off-path own name named), left.keeps.seen (staging_path (outbound ++ name) own) (off-staging own name named))) shown.files;
        on_disk = λ own. record {
          path = λ name named.
              let on = (shown.on_disk own).path name named in
              (left.keeps.named (outbound ++ name) (off-path own name named) on.0, left.keeps.flushed (outbound ++ name) (off-path own name named) on.1);
          staging = λ name named.
              let on = (shown.on_disk own).staging name named in
              (left.keeps.named (staging_path (outbound ++ name) own) (off-staging own name named) on.0, left.keeps.flushed (staging_path (outbound ++ name) own) (off-staging own name named) on.1);
        };
      }

      pub folder-cut : (c : Files) → new.left_since old.moment c → IsFolderIn place outbound i station c d
      folder-cut c since = elim (left.crash c since) [
        | inl was ↦ folder-crash c was
        | inr same ↦ same-folder station old.seen c d
            (λ own name named.
            let path = (shown.on_disk own).path name named in
            let staging = (shown.on_disk own).staging name named in
            (same (outbound ++ name) (off-path own name named) path.0 path.1, same (staging_path (outbound ++ name) own) (off-staging own name named) staging.0 staging.1)) shown.files
      ]

-- a machine that starts again has all on the disk
pub shows-begun : (place : Place) (outbound : List ℕ) (i : ℕ) (station : Station) (begun : DiskState) (d : Disks) → IsAllOnDisk begun → IsFolderIn place outbound i station begun.seen d → ShowsFolder place outbound i station begun d
shows-begun place outbound i station begun d all folder = record {
  files = folder;
  on_disk = λ own. record { path = λ name named. (all.named (outbound ++ name), all.flushed (outbound ++ name)); staging = λ name named. (all.named (staging_path (outbound ++ name) own), all.flushed (staging_path (outbound ++ name) own)) };
}
