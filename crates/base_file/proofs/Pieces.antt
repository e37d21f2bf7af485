-- Judging a base file in pieces, and the result for all its bytes.
use Rattle.std.proofs.Common.{◌≡◌, ℕ, ◌-◌, ◌≤◌, Bool, false, List, [], ◌∷◌, ◌++◌, length, map, take, drop, refl, sym, ap, ◌∙◌, Result, Ok, Err, arith}
use Rattle.std.proofs.lemmas.List.{append_assoc, drop-append-le, length-append, length-map, take-append-drop, take-append-le, take_at}
use Rattle.std.specs.Prelude.{IfOk}
use Rattle.echo_packet.specs.Header.{AreBytes}
use Rattle.echo_filed.specs.Stored.{IsStored, Stored, long_at, message_in, stored_bytes}
use Rattle.echo_filed.specs.{Filed.key_of, declared.key.Key.Key, declared.stored.Version.Version, declared.stored.Version.TheVariants.First, declared.stored.Version.TheVariants.Second}
use Rattle.base_file.specs.{declared.base.loading.Head.Head, declared.piece.Next.Next, Base.is_known, BaseFile.Begins, BaseFile.head_bytes, BaseFile.magic}
use Rattle.base_file.specs.Pieces.{BeginsWith, IsJudged, IsNext, JudgesOne}
use Rattle.base_file.specs.declared.piece.Next.TheVariants as next
use Rattle.base_file.proofs.{Loading.begins_more, Loading.has_head, Verdicts.known_damaged}

judged_here : (version : Version) (cursor place : ℕ) (bytes rest : List ℕ) (s : Stored) (j : Next) → IsStored version s → bytes ≡ stored_bytes version s ++ rest
    → JudgesOne version cursor place s (length bytes - length rest) j → IsJudged version cursor place bytes j
judged_here version cursor place bytes rest s j fits e h = grind (arith, length-append, take_at)

pub next_judged : {E : Type 0} (version : Version) (cursor place : ℕ) (bytes rest : List ℕ) (s : Stored) (r : Result Next E) → IsStored version s
    → bytes ≡ stored_bytes version s ++ rest → IfOk r (JudgesOne version cursor place s (length bytes - length rest)) → IfOk r (IsNext version cursor place bytes)
next_judged version cursor place bytes rest s (Ok (next.Sound key size short)) fits e h = judged_here version cursor place bytes rest s (next.Sound key size short) fits e h
next_judged version cursor place bytes rest s (Ok next.Damaged) fits e h = judged_here version cursor place bytes rest s next.Damaged fits e h
next_judged version cursor place bytes rest s (Ok next.Cut) fits e h = absurd h
next_judged version cursor place bytes rest s (Err x) fits e h = tt

pub head_here : (version : Version) (cursor number : ℕ) (bytes : List ℕ) → AreBytes bytes → 16 ≤ length bytes → take 8 bytes ≡ magic version → cursor ≡ long_at 8 bytes → number ≡ long_at 12 bytes
    → cursor ≤ number → BeginsWith (record { version = version; cursor = cursor; number = number }) bytes
head_here version cursor number bytes are room is at to within = grind (arith, has_head)

head_long : (version : Version) (cursor number : ℕ) (rest : List ℕ) → 16 ≤ length (head_bytes version cursor number ++ rest)
unfolding head_bytes
head_long First cursor number rest = omega arith
head_long Second cursor number rest = omega arith

pub head_begins : (head : Head) (piece more bytes : List ℕ) → BeginsWith head piece → bytes ≡ piece ++ more
    → Begins head.version head.cursor head.number [] (drop 16 bytes) bytes
head_begins head piece more bytes h e =
    let front = head_bytes head.version head.cursor head.number in
    let room : 16 ≤ length piece = omega (arith, ap length h.whole, head_long head.version head.cursor head.number (drop 16 piece)) in
    record {
      number_fits = h.number_fits;
      cursor_within = h.cursor_within;
      sizes = tt;
      sound = tt;
      whole =
          e ∙ ap (λ bs. bs ++ more) h.whole ∙ append_assoc front (drop 16 piece) more
          ∙ ap (λ bs. front ++ bs) (sym (ap (drop 16) e ∙ drop-append-le 16 piece more room));
    }

in_front : (version : Version) (cursor place : ℕ) (rest piece more : List ℕ) (s : Stored) (size : ℕ) → size ≤ length piece → stored_bytes version s ≡ take size piece → rest ≡ piece ++ more
    → rest ≡ stored_bytes version s ++ drop size rest
in_front version cursor place rest piece more s size within same e =
    sym (take-append-drop size rest) ∙ ap (λ bs. bs ++ drop size rest) (ap (take size) e ∙ take-append-le size piece more within ∙ sym same)

pub next_begins : (version : Version) (cursor number place : ℕ) (all : List Stored) (rest piece more bytes : List ℕ) (key : Key) (size : ℕ) (short : Bool)
    → Begins version cursor number all rest bytes → place ≡ length all → rest ≡ piece ++ more → (j : IsJudged version cursor place piece (next.Sound key size short))
    → is_known (map (message_in version) all) key ≡ false → Begins version cursor number (all ++ j.s ∷ []) (drop size rest) bytes
next_begins version cursor number place all rest piece more bytes key size short b at e j new =
    let s = j.s in
    let earlier = map (message_in version) all in
    let known : is_known earlier (key_of (message_in version s)) ≡ false = ap (is_known earlier) (sym j.judges.2.own) ∙ new in
    begins_more version cursor number all s rest (drop size rest) bytes b
    (in_front version cursor place rest piece more j.s size (omega (arith, j.judges.1, j.within)) (j.same ∙ ap (λ n. take n piece) (sym j.judges.1)) e) j.fits
    (known_damaged version cursor place earlier s (message_in version s) false (at ∙ sym (length-map all (message_in version))) j.judges.0 refl known)
