-- Files under packets' names while the packets of earlier scans get theirs.
use Rattle.std.proofs.Common.{◌≡◌, ◌≢◌, ◌⊎◌, inl, inr, ⊎_elim, ◌∙◌, ◌<◌, ◌≤◌, ◌+◌, ◌-◌, ◌^◌, refl, sym, subst, ap, ℕ, zero, suc, Bool, true, false, List, [], ◌∷◌, ◌++◌, append-nil, append_assoc, arith, codes, drop, get_or, length, length-append, map, Option, Some, None}
use Rattle.std.proofs.lemmas.{Bool.{cases_lt, cases_order}, Fmt.{decimal_injective, decimal_is_IsNumeral}}
use Rattle.std.proofs.lemmas.{List.{append_cancel_left, append_cancel_right, get_or-append-add, get_or_append_left}, Str.Parse.digit_at}
use Rattle.std.{proofs.{Math.Seq.drop-append_seam, lemmas.List.Elements.All-contains}, specs.{Fmt.decimal, Prelude.{All, Contains, IsSome}}}
use Rattle.{std.specs.Str.Parse.AllDigits, disk_io.specs.Disk.{DiskState, Files}, disk_atomic.specs.Finishing.{EndsAs, IsOfLeft}}
use Rattle.{disk_atomic.specs.{ListStaged.{IsNameByte, IsNumbered}, StagingPaths.staging_path, declared.finishing.Left.Left}, model_graph.specs.Walk.Among}
use Rattle.model_graph.proofs.Members.{Among-append_cases, Among-append_left, Among-append_right, Among-from_Contains}
use Rattle.{model_run.proofs.Targets.{none_some, some_same}, model_steps.specs.{PacketFiles.PacketFile, declared.packet.Packet.Packet}}
use Rattle.{cmd_store.specs.{Lines.named_receiver, PacketLines.file_sent}, station_scan.proofs.Lists.among as one_of}
use Rattle.station_scan.specs.{Left.{IsEnded, IsLeftOf, IsToFind}, Scanning.{CommitsScan, PreparesScan}, Publishing.IsOnDisk}
use Rattle.station_scan.specs.{Sending.{IsFreeAt, IsStagingOfPacket, IsWholeAlone}, Sends.IsOfThese}
use Rattle.law_stations.specs.{Disks.{Disks, HasCursor, StagingFile, naming}, Nets.Net, PacketNames.{AreOfNet, ArePathsOnDisk, IsPacketName, IsToName}}
use Rattle.law_stations.{specs.Stopping.{EndsOne, EndsSome, HasNoneStaged}, proofs.Ended.cursor-stays}

-- ---- paths

abbrev ending : List ℕ → List ℕ
ending own = codes ".~" ++ (own ++ codes "~.new")

-- a packet's path is no staging path, since its name has no tilde
pub no-staging : (outbound own name other : List ℕ) → All IsNameByte name → outbound ++ name ≡ staging_path (outbound ++ other) own → ⊥
no-staging outbound own name other plain is =
    let e : name ≡ other ++ ending own = append_cancel_left outbound name (other ++ ending own) (is ∙ append_assoc outbound other (ending own)) in
    let at : get_or name (length other + 1) 0 ≡ 126 = ap (λ (l : List ℕ). get_or l (length other + 1) 0) e ∙ get_or-append-add other (ending own) 1 0 in
    let lt : length other + 1 < length name = omega (arith, ap length e, length-append other (ending own), length-append (codes ".~") (own ++ codes "~.new")) in
    (plain (length other + 1) 0 lt).no_tilde at

-- nor is it the path that a scan tries
pub no-trial : (outbound own name : List ℕ) → All IsNameByte name → outbound ++ name ≡ staging_path outbound own → ⊥
no-trial outbound own name plain is = no-staging outbound own name [] plain (is ∙ ap (λ (l : List ℕ). staging_path l own) (sym (append-nil outbound)))

staged-name : (outbound own name other : List ℕ) → staging_path (outbound ++ name) own ≡ staging_path (outbound ++ other) own → name ≡ other
staged-name outbound own name other is = append_cancel_left outbound name other (append_cancel_right (outbound ++ name) (outbound ++ other) (ending own) is)

abbrev tail : ℕ → List ℕ
tail number = codes "." ++ (decimal number ++ codes ".pkt")

all-digits : (number : ℕ) → number < 2 ^ 32 → AllDigits 10 (decimal number)
all-digits number small = (decimal_is_IsNumeral number (omega (arith, small))).0.1

pub long : (front : List ℕ) (number : ℕ) → length (front ++ tail number) ≡ length front + (length (decimal number) + 5)
long front number = let front_and = length-append front (tail number) in let digits_and = length-append (decimal number) (codes ".pkt") in omega (arith, front_and, digits_and)

-- a number of fewer digits would begin with a dot within the other
no-fewer : (front other : List ℕ) (number more : ℕ) → more < 2 ^ 32 → front ++ tail number ≡ other ++ tail more → length (decimal number) < length (decimal more) → ⊥
no-fewer front other number more small is fewer =
    let k = length (decimal more) - (length (decimal number) + 1) in
    let lengths : length front + (length (decimal number) + 5) ≡ length other + (length (decimal more) + 5) = sym (long front number) ∙ ap (λ (l : List ℕ). length l) is ∙ long other more in
    let within : k < length (decimal more) = omega (arith, fewer) in
    let at : length front + 0 ≡ length other + suc k = omega (arith, lengths, fewer) in
    let dot : get_or (front ++ tail number) (length front + 0) 0 ≡ 46 = get_or-append-add front (tail number) 0 0 in
    let digit : get_or (other ++ tail more) (length other + suc k) 0 ≡ get_or (decimal more) k 0 =
    get_or-append-add other (tail more) (suc k) 0 ∙ get_or_append_left (decimal more) (codes ".pkt") 0 k within in
    let same : get_or (front ++ tail number) (length front + 0) 0 ≡ get_or (other ++ tail more) (length other + suc k) 0 =
    ap (λ (l : List ℕ). get_or l (length front + 0) 0) is ∙ ap (λ (n : ℕ). get_or (other ++ tail more) n 0) at in
    let range = digit_at (decimal more) k (all-digits more small) within in
    omega (arith, dot, digit, same, range.0)

same-number : (front other : List ℕ) (number more : ℕ) → number < 2 ^ 32 → more < 2 ^ 32 → front ++ tail number ≡ other ++ tail more → length (decimal number) ≡ length (decimal more) → number ≡ more
same-number front other number more small little is long_as =
    let lengths : length front + (length (decimal number) + 5) ≡ length other + (length (decimal more) + 5) = sym (long front number) ∙ ap (λ (l : List ℕ). length l) is ∙ long other more in
    let fronts : length front ≡ length other = omega (arith, lengths, long_as) in
    let ends : tail number ≡ tail more = sym (drop-append_seam front (tail number)) ∙ ap (drop (length front)) is ∙ ap (λ (n : ℕ). drop n (other ++ tail more)) fronts ∙ drop-append_seam other (tail more) in
    decimal_injective number more (omega (arith, small)) (omega (arith, little))
    (append_cancel_right (decimal number) (decimal more) (codes ".pkt") (append_cancel_left (codes ".") (decimal number ++ codes ".pkt") (decimal more ++ codes ".pkt") ends))

-- a name has one number
pub one-number : (front other : List ℕ) (number more : ℕ) → number < 2 ^ 32 → more < 2 ^ 32 → front ++ tail number ≡ other ++ tail more → number ≡ more
one-number front other number more small little is = elim (cases_order (length (decimal number)) (length (decimal more))) [
  | inl same ↦ same-number front other number more small little is same
  | inr differs ↦ elim differs [
    | inl fewer ↦ absurd (no-fewer front other number more little is fewer)
    | inr longer ↦ absurd (no-fewer other front more number small (sym is) longer)
  ]
]

-- the packets of a scan have its number in their names
abbrev pub AreNumbered : ℕ → List PacketFile → Type 0
AreNumbered cursor files = (sent : PacketFile) → Among sent files → (front : List ℕ) × (sent.name ≡ front ++ tail cursor)

pub are-numbered : (cursor : ℕ) (packets : List Packet) → AreNumbered cursor (map (file_sent cursor) packets)
are-numbered cursor [] sent among = absurd among
are-numbered cursor (p ∷ packets) sent (inl is) =
    let a = named_receiver p.header in
    let net = decimal a.net in
    let node = codes "." ++ decimal a.node in (
      decimal a.zone ++ (codes "." ++ (net ++ node)),
      ap (λ (f : PacketFile). f.name) is ∙ sym (append_assoc (decimal a.zone) (codes "." ++ (net ++ node)) (tail cursor) ∙ ap (λ (l : List ℕ). decimal a.zone ++ (codes "." ++ l)) (append_assoc net node (tail cursor))),
    )
are-numbered cursor (p ∷ packets) sent (inr later) = are-numbered cursor packets sent later

-- ---- the net

kept-one : (net : Net) (bytes more : List ℕ) (named : Bool) → Among bytes net.packets → Among bytes (naming net more named).packets
kept-one net bytes more true is = is
kept-one net bytes more false is = Among-append_left bytes net.packets (more ∷ []) is

ends-keep-one : (i : ℕ) (d next : Disks) (bytes : List ℕ) → EndsOne i d next → Among bytes d.net.packets → Among bytes next.net.packets
ends-keep-one i d next bytes e is =
    let P : Net → Type 0 = λ n. Among bytes n.packets in
    elim e.ends [
      | inl named ↦ subst P (sym named.1) (kept-one d.net bytes e.file.bytes e.file.named is)
      | inr gone ↦ subst P (sym gone.1) is
    ]

pub ends-keep : (n i : ℕ) (d ended : Disks) (bytes : List ℕ) → EndsSome n i d ended → Among bytes d.net.packets → Among bytes ended.net.packets
ends-keep zero i d ended bytes same is = subst (λ (x : Disks). Among bytes x.net.packets) (sym same) is
ends-keep (suc n) i d ended bytes (next, first, later) is = ends-keep n i next ended bytes later (ends-keep-one i d next bytes first is)

-- where the file that waits is in the list
pub still-waits : (i j cursor : ℕ) (d next : Disks) (bytes : List ℕ) (e : EndsOne i d next) → (w : IsToName j cursor d bytes) → Among w.file e.before ⊎ Among w.file e.after → IsToName j cursor next bytes
still-waits i j cursor d next bytes e w at = record {
  file = w.file;
  among = subst (λ (l : List StagingFile). Among w.file l) (sym e.staging)
      (⊎_elim (λ (b : Among w.file e.before). Among-append_left w.file e.before (e.left ++ e.after) b)
      (λ (a : Among w.file e.after). Among-append_right w.file e.before (e.left ++ e.after) (Among-append_right w.file e.left e.after a)) at);
  own = w.own;
  below = w.below;
  unnamed = w.unnamed;
  same = w.same;
}

named-now : (i cursor : ℕ) (d next : Disks) (bytes : List ℕ) (e : EndsOne i d next) → HasCursor d.net i cursor → (w : IsToName i cursor d bytes) → w.file ≡ e.file → Among bytes next.net.packets
named-now i cursor d next bytes e has w is =
    let one : e.cursor ≡ cursor = some_same (sym e.is_cursor ∙ has) in
    let number : w.file.number ≡ e.file.number = ap (λ (f : StagingFile). f.number) is in
    let below = w.below in
    elim e.ends [
      | inl named ↦ (
          let unnamed : e.file.named ≡ false = sym (ap (λ (f : StagingFile). f.named) is) ∙ w.unnamed in
          let now : next.net ≡ naming d.net e.file.bytes false = named.1 ∙ ap (naming d.net e.file.bytes) unnamed in
          let same : e.file.bytes ≡ bytes = sym (ap (λ (f : StagingFile). f.bytes) is) ∙ w.same in
          subst (λ (n : Net). Among bytes n.packets) (sym now) (Among-append_right bytes d.net.packets (e.file.bytes ∷ []) (inl (sym same))))
      | inr gone ↦ (let most = gone.0 in absurd (omega (arith, one, number, below, most)))
    ]

named-or-waits : (i cursor : ℕ) (d next : Disks) (bytes : List ℕ) → EndsOne i d next → HasCursor d.net i cursor → IsToName i cursor d bytes → Among bytes next.net.packets ⊎ IsToName i cursor next bytes
named-or-waits i cursor d next bytes e has w =
    let there : Among w.file (e.before ++ e.file ∷ e.after) = subst (λ (l : List StagingFile). Among w.file l) e.stood w.among in
    elim (Among-append_cases w.file e.before (e.file ∷ e.after) there) [
      | inl before ↦ inr (still-waits i i cursor d next bytes e w (inl before))
      | inr rest ↦ elim rest [
        | inl is ↦ inl (named-now i cursor d next bytes e has w is)
        | inr after ↦ inr (still-waits i i cursor d next bytes e w (inr after))
      ]
    ]

next-cursor : (i cursor : ℕ) (d next : Disks) → EndsOne i d next → HasCursor d.net i cursor → HasCursor next.net i cursor
next-cursor i cursor d next e has =
    let P : Net → Type 0 = λ n. HasCursor n i cursor in
    elim e.ends [
      | inl named ↦ subst P (sym named.1) (cursor-stays d.net i cursor e.file.bytes e.file.named has)
      | inr gone ↦ subst P (sym gone.1) has
    ]

-- once all are finished, what waited is a packet of the net
all-named-now : (n i cursor : ℕ) (d ended : Disks) (bytes : List ℕ) → EndsSome n i d ended → HasNoneStaged i ended.staging → HasCursor d.net i cursor → IsToName i cursor d bytes → Among bytes ended.net.packets
all-named-now zero i cursor d ended bytes same none has w = absurd (none w.file (subst (λ (x : Disks). Among w.file x.staging) (sym same) w.among) w.own)
all-named-now (suc n) i cursor d ended bytes (next, first, later) none has w = elim (named-or-waits i cursor d next bytes first has w) [
  | inl now ↦ ends-keep n i next ended bytes later now
  | inr still ↦ all-named-now n i cursor next ended bytes later none (next-cursor i cursor d next first has) still
]

-- ---- the folder

module _ (Own : List ℕ → Type 0) (outbound own : List ℕ) (n i cursor : ℕ) (small : cursor < 2 ^ 32) (d ended : Disks) (ends : EndsSome n i d ended) (none : HasNoneStaged i ended.staging) (has : HasCursor d.net i cursor)
    (old : DiskState) (was : AreOfNet Own outbound own i cursor old.seen d) (on : ArePathsOnDisk Own outbound own old) where
  abbrev Named : List ℕ → Type 0
  Named name = IsPacketName Own outbound own name

  abbrev at : List ℕ → List ℕ
  at name = outbound ++ name

  abbrev staged : List ℕ → List ℕ
  staged name = staging_path (outbound ++ name) own

  was-named : (name bytes : List ℕ) → Named name → old.seen (at name) ≡ Some bytes → Among bytes ended.net.packets
  was-named name bytes is there = ends-keep n i d ended bytes ends (was.packets name bytes is there)

  was-left : (name bytes : List ℕ) → (is : Named name) → is.number < cursor → old.seen (staged name) ≡ Some bytes → Among bytes ended.net.packets
  was-left name bytes is below there = elim (was.left name bytes is below there) [
    | inl stood ↦ ends-keep n i d ended bytes ends stood
    | inr waits ↦ all-named-now n i cursor d ended bytes ends none has waits
  ]

  -- what a packet's path has: what it had, or what its staging path had if that was committed
  abbrev IsFromPath : Files → List ℕ → ℕ → Type 0
  IsFromPath c name number = (c (at name) ≡ old.seen (at name)) ⊎ ((number < cursor) × (c (at name) ≡ old.seen (staged name)))

  abbrev IsFromStaging : Files → List ℕ → Type 0
  IsFromStaging c name = (c (staged name) ≡ old.seen (staged name)) ⊎ (c (staged name) ≡ None)

  path-named : (c : Files) (name bytes : List ℕ) → (is : Named name) → IsFromPath c name is.number → c (at name) ≡ Some bytes → Among bytes ended.net.packets
  path-named c name bytes is (inl same) there = was-named name bytes is (sym same ∙ there)
  path-named c name bytes is (inr (below, moved)) there = was-left name bytes is below (sym moved ∙ there)

  path-free : (c : Files) (name : List ℕ) → (is : Named name) → IsFromPath c name is.number → cursor ≤ is.number → c (at name) ≡ None
  path-free c name is (inl same) later = same ∙ was.free name is later
  path-free c name is (inr (below, moved)) later = absurd (omega (arith, below, later))

  staged-named : (c : Files) (name bytes : List ℕ) → (is : Named name) → is.number < cursor → IsFromStaging c name → c (staged name) ≡ Some bytes → Among bytes ended.net.packets
  staged-named c name bytes is below (inl same) there = was-left name bytes is below (sym same ∙ there)
  staged-named c name bytes is below (inr gone) there = absurd (none_some (sym gone ∙ there))

  -- before a commit
  pub before-all : (c : Files) → ((name : List ℕ) → (is : Named name) → IsFromPath c name is.number) → ((name : List ℕ) → (is : Named name) → is.number < cursor → IsFromStaging c name) → AreOfNet Own outbound own i cursor c ended
  before-all c paths stagings = record {
    packets = λ name bytes is there. path-named c name bytes is (paths name is) there;
    left = λ name bytes is below there. inl (staged-named c name bytes is below (stagings name is below) there);
    free = λ name is later. path-free c name is (paths name is) later;
  }

  -- a packet's path is not written before the commit
  not-written : (name : List ℕ) → All IsNameByte name → (files : List PacketFile) → IsStagingOfPacket outbound own files (at name) → ⊥
  not-written name plain files (inl (sent, has_it, plain_too, is)) = no-staging outbound own name sent.name plain is
  not-written name plain files (inr is) = no-trial outbound own name plain is

  -- nor is the staging path of an earlier scan, also later
  no-name : (number : ℕ) → IsNumbered number [] → ⊥
  no-name number numbered = let long_as = long numbered.front number in omega (arith, ap (λ (l : List ℕ). length l) numbered.parts, long_as)

  no-trial-staged : (name : List ℕ) → Named name → staged name ≡ staging_path outbound own → ⊥
  no-trial-staged name is same =
      let empty : name ≡ [] = staged-name outbound own name [] (same ∙ ap (λ (l : List ℕ). staging_path l own) (sym (append-nil outbound))) in
      no-name is.number (subst (λ (l : List ℕ). IsNumbered is.number l) empty is.numbered)

  module _ (files : List PacketFile) (numbered : AreNumbered cursor files) where
    -- the number of a packet of the scan
    sent-number : (name : List ℕ) → (is : Named name) → (sent : PacketFile) → Contains files sent → name ≡ sent.name → is.number ≡ cursor
    sent-number name is sent has_it same =
        let (front, parts) = numbered sent (Among-from_Contains sent files has_it) in
        one-number is.numbered.front front is.number cursor is.numbered.within small (sym is.numbered.parts ∙ same ∙ parts)

    staged-not-written : (name : List ℕ) → (is : Named name) → is.number < cursor → IsStagingOfPacket outbound own files (staged name) → ⊥
    staged-not-written name is below (inl (sent, has_it, plain, same)) =
        let number = sent-number name is sent has_it (staged-name outbound own name sent.name same) in omega (arith, number, below)
    staged-not-written name is below (inr same) = no-trial-staged name is same

    -- no packet of the scan has the name
    abbrev IsNoneSent : List ℕ → Type 0
    IsNoneSent name = All (λ (f : PacketFile). at name ≢ at f.name) files

    off-these : (name : List ℕ) → (is : Named name) → IsNoneSent name → IsOfThese Own outbound own files (at name) → ⊥
    off-these name is not (inl o) = is.off.path o
    off-these name is not (inr (inl (sent, has_it, plain, inl same))) = no-staging outbound own name sent.name is.numbered.plain same
    off-these name is not (inr (inl (sent, has_it, plain, inr same))) = All-contains (λ (f : PacketFile). at name ≢ at f.name) files sent not has_it same
    off-these name is not (inr (inr same)) = no-trial outbound own name is.numbered.plain same

    staged-off-these : (name : List ℕ) → (is : Named name) → IsNoneSent name → IsOfThese Own outbound own files (staged name) → ⊥
    staged-off-these name is not (inl o) = is.off.staging o
    staged-off-these name is not (inr (inl (sent, has_it, plain, inl same))) =
        All-contains (λ (f : PacketFile). at name ≢ at f.name) files sent not has_it (ap at (staged-name outbound own name sent.name same))
    staged-off-these name is not (inr (inl (sent, has_it, plain, inr same))) = no-staging outbound own sent.name name plain (sym same)
    staged-off-these name is not (inr (inr same)) = no-trial-staged name is same

    module _ (is_true : Type 0) (truth : is_true) (found : List Left) (each : All (IsLeftOf is_true Own outbound own) found) where
      abbrev IsNoneLeft : List ℕ → Type 0
      IsNoneLeft name = All (λ (l : Left). at name ≢ l.path.now) found

      -- the paths of other names are of no leftover packet
      off-left : (name : List ℕ) → (is : Named name) → IsNoneLeft name → IsOfLeft found (at name) → ⊥
      off-left name is not (l, among, same) =
          let like = (All-contains (IsLeftOf is_true Own outbound own) found l each among).1 in
          ⊎_elim (λ (e : at name ≡ l.staging.now). no-staging outbound own name _ is.numbered.plain (e ∙ like.staging))
          (λ (e : at name ≡ l.path.now). All-contains (λ (k : Left). at name ≢ k.path.now) found l not among e) same

      staged-off-left : (name : List ℕ) → (is : Named name) → IsNoneLeft name → IsOfLeft found (staged name) → ⊥
      staged-off-left name is not (l, among, same) =
          let left = All-contains (IsLeftOf is_true Own outbound own) found l each among in
          ⊎_elim (λ (e : staged name ≡ l.staging.now).
          All-contains (λ (k : Left). at name ≢ k.path.now) found l not among (ap at (staged-name outbound own name left.0 (e ∙ left.1.staging)) ∙ sym left.1.path))
          (λ (e : staged name ≡ l.path.now). no-staging outbound own left.0 name left.1.plain (sym (e ∙ left.1.path))) same

      -- a leftover packet with this path has the number of the name, and its staging path
      left-name : (name : List ℕ) (l : Left) → Contains found l → (is : Named name) → at name ≡ l.path.now → (is.number ≡ l.before) × (l.staging.now ≡ staged name)
      left-name name l among is path =
          let left = All-contains (IsLeftOf is_true Own outbound own) found l each among in
          let same : left.0 ≡ name = append_cancel_left outbound left.0 name (sym left.1.path ∙ sym path) in
          let numbered_left = left.2 truth in
          (one-number is.numbered.front numbered_left.front is.number l.before is.numbered.within numbered_left.within (sym is.numbered.parts ∙ sym same ∙ numbered_left.parts), left.1.staging ∙ ap staged same)

      -- while leftover packets are finished
      module _ (Stays : Files → Type 0) (before c : Files) (same : (name : List ℕ) → Named name → before (at name) ≡ old.seen (at name)) (same_staged : (name : List ℕ) → Named name → before (staged name) ≡ old.seen (staged name))
          (prepares : PreparesScan outbound own Stays cursor found files before c) where
        abbrev mid : Files
        mid = prepares.between

        written : (name : List ℕ) → Named name → c (at name) ≡ mid (at name)
        written name is = prepares.writes (at name) (not-written name is.numbered.plain files)

        prepared-path : (name : List ℕ) → (is : Named name) → IsFromPath c name is.number
        prepared-path name is = elim (one_of (λ (l : Left). l.path.now) (at name) found) [
          | inl (l, among, path) ↦ (
              let it = left-name name l among is path in
              let e = All-contains (EndsAs cursor before mid) found l prepares.ends.ends among in
              let stays : mid l.path.now ≡ before l.path.now → IsFromPath c name is.number = λ still. inl (written name is ∙ ap mid path ∙ still ∙ ap before (sym path) ∙ same name is) in
              elim (cases_lt l.before cursor) [
                | inl below ↦ elim e.either [
                  | inl still ↦ stays still
                  | inr moved ↦ inr (omega (arith, it.0, below), written name is ∙ ap mid path ∙ moved ∙ ap before it.1 ∙ same_staged name is)
                ]
                | inr above ↦ stays (e.untouched above)
              ])
          | inr not ↦ inl (written name is ∙ prepares.ends.others (at name) (off-left name is not) ∙ same name is)
        ]

        prepared-staged : (name : List ℕ) → (is : Named name) → is.number < cursor → IsFromStaging c name
        prepared-staged name is below =
            let kept = prepares.writes (staged name) (staged-not-written name is below) in
            elim (one_of (λ (l : Left). l.path.now) (at name) found) [
              | inl (l, among, path) ↦ (
                  let it = left-name name l among is path in
                  elim (All-contains (EndsAs cursor before mid) found l prepares.ends.ends among).staged [
                    | inl still ↦ inl (kept ∙ ap mid (sym it.1) ∙ still ∙ ap before it.1 ∙ same_staged name is)
                    | inr gone ↦ inr (kept ∙ ap mid (sym it.1) ∙ gone)
                  ])
              | inr not ↦ inl (kept ∙ prepares.ends.others (staged name) (staged-off-left name is not) ∙ same_staged name is)
            ]

        pub while-preparing : AreOfNet Own outbound own i cursor c ended
        while-preparing = before-all c prepared-path prepared-staged

      -- from the commit on
      module _ (Stays Comes : Files → Type 0) (opened c : Files) (same : (m : List ℕ) → (Own m → ⊥) → opened m ≡ old.seen m) (commits : CommitsScan is_true Own outbound own (IsOnDisk old) Stays Comes cursor found files opened c) where
        abbrev ended_files : Files
        ended_files = commits.between

        kept-path : (name : List ℕ) → (is : Named name) → IsNoneSent name → IsNoneLeft name → c (at name) ≡ old.seen (at name)
        kept-path name is not none_left =
            let off_left = off-left name is none_left in
            commits.others (at name) (off-these name is not) (inl (on.path name is, off_left)) ∙ commits.staging_them (at name) off_left ∙ same (at name) is.off.path

        kept-staged : (name : List ℕ) → (is : Named name) → IsNoneSent name → IsNoneLeft name → c (staged name) ≡ old.seen (staged name)
        kept-staged name is not none_left =
            let off_left = staged-off-left name is none_left in
            commits.others (staged name) (staged-off-these name is not) (inl (on.staging name is, off_left)) ∙ commits.staging_them (staged name) off_left ∙ same (staged name) is.off.staging

        committed-path : (name : List ℕ) → (is : Named name) → IsNoneSent name → IsFromPath c name is.number
        committed-path name is not = elim (one_of (λ (l : Left). l.path.now) (at name) found) [
          | inl (l, among, path) ↦ (
              let it = left-name name l among is path in
              let e = All-contains (IsEnded cursor opened ended_files) found l commits.ended among in
              let off = off-these name is not in
              elim (cases_lt l.before cursor) [
                | inl below ↦ inr (
                  omega (arith, it.0, below),
                  commits.others (at name) off (inr (l, among, inr (path, inl below))) ∙ ap ended_files path ∙ e.committed below ∙ ap opened it.1 ∙ same (staged name) is.off.staging,
                )
                | inr above ↦ (
                    let still : ended_files (at name) ≡ old.seen (at name) = ap ended_files path ∙ e.untouched above ∙ ap opened (sym path) ∙ same (at name) is.off.path in
                    let gone = still ∙ was.free name is (omega (arith, it.0, above)) in
                    inl (commits.others (at name) off (inr (l, among, inr (path, inr gone))) ∙ still))
              ])
          | inr none_left ↦ inl (kept-path name is not none_left)
        ]

        -- a leftover packet has no staging file
        ended-staged : (name : List ℕ) → (is : Named name) → IsNoneSent name → (l : Left) → Contains found l → at name ≡ l.path.now → c (staged name) ≡ None
        ended-staged name is not l among path =
            let it = left-name name l among is path in
            commits.others (staged name) (staged-off-these name is not) (inr (l, among, inl (sym it.1))) ∙ ap ended_files (sym it.1)
            ∙ (All-contains (IsEnded cursor opened ended_files) found l commits.ended among).gone

        committed-staged : (name : List ℕ) → (is : Named name) → IsNoneSent name → IsFromStaging c name
        committed-staged name is not = elim (one_of (λ (l : Left). l.path.now) (at name) found) [
          | inl (l, among, path) ↦ inr (ended-staged name is not l among path)
          | inr none_left ↦ inl (kept-staged name is not none_left)
        ]

        -- all staging files of later numbers are gone, since they were listed
        later-gone : (name bytes : List ℕ) → (is : Named name) → IsNoneSent name → c (staged name) ≡ Some bytes → ⊥
        later-gone name bytes is not there = elim (one_of (λ (l : Left). l.path.now) (at name) found) [
          | inl (l, among, path) ↦ none_some (sym (ended-staged name is not l among path) ∙ there)
          | inr none_left ↦ (
              let stood : opened (staged name) ≡ Some bytes = same (staged name) is.off.staging ∙ sym (kept-staged name is not none_left) ∙ there in
              let to_find : IsToFind Own outbound own opened name = record { plain = is.numbered.plain; off = is.off; there = subst (λ (f : Option (List ℕ)). IsSome f) (sym stood) refl } in
              let listed = commits.all truth name is.number is.numbered to_find in
              All-contains (λ (k : Left). at name ≢ k.path.now) found listed.0 none_left listed.1 (sym listed.2))
        ]

        -- with the base from before
        pub before-commit : All (IsFreeAt outbound c) files → AreOfNet Own outbound own i cursor c ended
        before-commit free = before-all c
            (λ name is. elim (one_of (λ (f : PacketFile). at f.name) (at name) files) [
              | inl (sent, has_it, path) ↦ (
                  let number = sent-number name is sent has_it (append_cancel_left outbound name sent.name path) in
                  inl (ap c path ∙ All-contains (IsFreeAt outbound c) files sent free has_it ∙ sym (was.free name is (omega (arith, number)))))
              | inr not ↦ committed-path name is not
            ])
            (λ name is below. elim (one_of (λ (f : PacketFile). at f.name) (at name) files) [
              | inl (sent, has_it, path) ↦ (let number = sent-number name is sent has_it (append_cancel_left outbound name sent.name path) in absurd (omega (arith, number, below)))
              | inr not ↦ committed-staged name is not
            ])

        -- with the new base: a packet of the scan has its name in the net, or waits for it
        module _ (now : ℕ) (later : cursor ≤ now) (after : Disks) (keeps : (bytes : List ℕ) → Among bytes ended.net.packets → Among bytes after.net.packets) where
          abbrev IsSentAs : PacketFile → Type 0
          IsSentAs sent = ((c (at sent.name) ≡ Some sent.bytes) × Among sent.bytes after.net.packets) ⊎ ((c (at sent.name) ≡ None) × IsToName i now after sent.bytes)

          sent-path : (sent : PacketFile) (bytes : List ℕ) → IsSentAs sent → c (at sent.name) ≡ Some bytes → Among bytes after.net.packets
          sent-path sent bytes (inl (path, among)) there = subst (λ (b : List ℕ). Among b after.net.packets) (some_same (sym path ∙ there)) among
          sent-path sent bytes (inr (none_there, waits)) there = absurd (none_some (sym none_there ∙ there))

          sent-staged : (sent : PacketFile) (bytes : List ℕ) → IsWholeAlone outbound own c sent → IsSentAs sent → c (staged sent.name) ≡ Some bytes → Among bytes after.net.packets ⊎ IsToName i now after bytes
          sent-staged sent bytes whole how there =
              let same : sent.bytes ≡ bytes = elim whole [
                | inl (path, inl staging) ↦ some_same (sym staging ∙ there)
                | inl (path, inr gone) ↦ absurd (none_some (sym gone ∙ there))
                | inr (staging, free) ↦ some_same (sym staging ∙ there)
              ] in
              subst (λ (b : List ℕ). Among b after.net.packets ⊎ IsToName i now after b) same (elim how [ inl named ↦ inl named.1 | inr waits ↦ inr waits.1 ])

          pub after-commit : All (IsWholeAlone outbound own c) files → ((sent : PacketFile) → Among sent files → IsSentAs sent) → ((sent : PacketFile) → Among sent files → cursor < now) → AreOfNet Own outbound own i now c after
          after-commit wholes sent_as some = record {
            packets = λ name bytes is there. elim (one_of (λ (f : PacketFile). at f.name) (at name) files) [
              | inl (sent, has_it, path) ↦ sent-path sent bytes (sent_as sent (Among-from_Contains sent files has_it)) (ap c (sym path) ∙ there)
              | inr not ↦ keeps bytes (path-named c name bytes is (committed-path name is not) there)
            ];
            left = λ name bytes is below there. elim (one_of (λ (f : PacketFile). at f.name) (at name) files) [
              | inl (sent, has_it, path) ↦ sent-staged sent bytes (All-contains (IsWholeAlone outbound own c) files sent wholes has_it) (sent_as sent (Among-from_Contains sent files has_it)) (ap c (ap (λ (l : List ℕ). staging_path l own) (sym path)) ∙ there)
              | inr not ↦ elim (cases_lt is.number cursor) [
                | inl earlier ↦ inl (keeps bytes (staged-named c name bytes is earlier (committed-staged name is not) there))
                | inr above ↦ absurd (later-gone name bytes is not there)
              ]
            ];
            free = λ name is above. elim (one_of (λ (f : PacketFile). at f.name) (at name) files) [
              | inl (sent, has_it, path) ↦ (
                  let number = sent-number name is sent has_it (append_cancel_left outbound name sent.name path) in
                  let more = some sent (Among-from_Contains sent files has_it) in
                  absurd (omega (arith, number, more, above)))
              | inr not ↦ path-free c name is (committed-path name is not) (omega (arith, later, above))
            ];
          }
