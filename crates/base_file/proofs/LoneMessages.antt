-- One message by itself: which bytes are one, and which message they are.
use Rattle.std.proofs.Common.{◌≡◌, ℕ, ◌<◌, not, nat_lt, Bool, true, false, List, [], ◌++◌, length, refl, sym, ap, subst, ◌∙◌, Some, None, arith, if◌then◌else◌}
use Rattle.std.proofs.lemmas.Bool.{and_parts, cond-false, cond-true, or_from, or_parts, true≢false}
use Rattle.std.proofs.lemmas.List.{append-nil}
use Rattle.echo_packet.specs.Header.{AreBytes}
use Rattle.echo_filed.specs.Stored.{IsStored, Stored, has_tag, is_short_enough, message_in, stored_bytes}
use Rattle.echo_filed.specs.{Filed.Filed, Filed.IsFiled, Fields.StopsIn, declared.stored.Version.TheVariants.Second}
use Rattle.echo_filed.proofs.StoredFields.{stopped_unread, stored_again, stored_in}
use Rattle.base_file.specs.{Alone.IsStoredAlone, Alone.MayStandAlone, Alone.cursor_alone, BaseFile.has_wrong_form, BaseFile.is_damaged, BaseFile.stored_at, Loading.is_wrong}
use Rattle.base_file.proofs.{Saved.not_damaged, Saved.size_at, Saved.stored_says, SavedAgain.stored_at_back, Verdicts.known_damaged, Verdicts.wrong_damaged}

only_front : (s t : Stored) (rest more : List ℕ) → IsStored Second s → IsStored Second t → stored_bytes Second s ++ rest ≡ stored_bytes Second t ++ more → (s ≡ t) × (rest ≡ more)
only_front s t rest more size size' same =
    let one : Some (s, rest) ≡ Some (t, more) = sym (stored_again Second s rest size) ∙ ap (stored_in Second) same ∙ stored_again Second t more size' in
    let here : Stored × List ℕ = (s, rest) in
    let there : Stored × List ℕ = (t, more) in
    let pair : here ≡ there = cc (one) in
    (ap (λ (p : Stored × List ℕ). p.0) pair, ap (λ (p : Stored × List ℕ). p.1) pair)

pub only_stored : (s t : Stored) → IsStored Second s → IsStored Second t → stored_bytes Second s ≡ stored_bytes Second t → s ≡ t
only_stored s t size size' same = (only_front s t [] [] size size' (ap (λ (bs : List ℕ). bs ++ []) same)).0

pub only_message : (m n : Filed) (bytes : List ℕ) → IsStoredAlone m bytes → IsStoredAlone n bytes → m ≡ n
only_message m n bytes one other =
    sym one.is ∙ ap (message_in Second) (only_stored one.s other.s one.size other.size (sym one.same ∙ other.same)) ∙ other.is

pub read_alone : (s : Stored) (m : Filed) (bytes : List ℕ) (cursor : ℕ) → IsStored Second s → bytes ≡ stored_bytes Second s → cursor ≡ cursor_alone s → is_wrong Second cursor 0 s ≡ false → m ≡ message_in Second s
    → IsStoredAlone m bytes
read_alone s m bytes cursor size same at right is = grind (arith, known_damaged)

pub none_wrong : (s : Stored) (bytes : List ℕ) (cursor : ℕ) → IsStored Second s → bytes ≡ stored_bytes Second s → cursor ≡ cursor_alone s → is_wrong Second cursor 0 s ≡ true
    → (m : Filed) → IsStoredAlone m bytes → ⊥
none_wrong s bytes cursor size same at wrong m alone =
    let one : s ≡ alone.s = only_stored s alone.s size alone.size (sym same ∙ alone.same) in
    let right : MayStandAlone s = subst MayStandAlone (sym one) alone.alone in
    true≢false (sym (wrong_damaged Second (cursor_alone s) 0 [] s refl (ap (λ (n : ℕ). is_wrong Second n 0 s) (sym at) ∙ wrong)) ∙ right)

pub none_longer : (s : Stored) (bytes rest : List ℕ) → IsStored Second s → bytes ≡ stored_bytes Second s ++ rest → 0 < length rest → (m : Filed) → IsStoredAlone m bytes → ⊥
none_longer s bytes rest size same more m alone =
    let none : rest ≡ [] = (only_front s alone.s rest [] size alone.size (sym same ∙ alone.same ∙ sym (append-nil (stored_bytes Second alone.s)))).1 in
    omega (arith, more, ap length none)

pub none_cut : (bytes : List ℕ) → AreBytes bytes → StopsIn Second bytes → (m : Filed) → IsStoredAlone m bytes → ⊥
none_cut bytes are stops m alone =
    let read : stored_in Second bytes ≡ Some (alone.s, []) =
    ap (stored_in Second) (alone.same ∙ sym (append-nil (stored_bytes Second alone.s))) ∙ stored_again Second alone.s [] alone.size in
    let none : None ≡ Some (alone.s, []) = sym (stopped_unread Second bytes are stops) ∙ read in
    absurd (cc (none))

true_of_not : (b : Bool) → not b ≡ false → b ≡ true
true_of_not true h = refl
true_of_not false h = absurd (true≢false h)

form_alone : (s : Stored) (cursor place : ℕ) (tagged : Bool) → has_tag Second s.kind ≡ tagged → has_wrong_form Second cursor place s ≡ false → has_wrong_form Second (if tagged then 1 else 0) 0 s ≡ false
form_alone s cursor place h4 is right = grind (arith, true_of_not, cond-true, and_parts, nat_lt, cond-false)

pub represented_alone : (s : Stored) (cursor : ℕ) (earlier : List Filed) → is_damaged Second cursor earlier s ≡ false → MayStandAlone s
unfolding is_damaged
represented_alone s cursor earlier h = grind (arith, or_parts, or_from, form_alone)

pub saved_alone : (m : Filed) (cursor : ℕ) → IsFiled m → is_short_enough (stored_at cursor 0 m) ≡ true → IsStoredAlone m (stored_bytes Second (stored_at cursor 0 m))
saved_alone m cursor filed room = record {
  s = stored_at cursor 0 m;
  size = size_at cursor 0 m filed room;
  alone = represented_alone (stored_at cursor 0 m) cursor [] (not_damaged cursor [] m filed refl);
  is = stored_says cursor 0 m filed.is_echo;
  same = refl;
}

pub alone_again : (s : Stored) → IsStored Second s → MayStandAlone s → stored_at (cursor_alone s) 0 (message_in Second s) ≡ s
alone_again s size alone = stored_at_back (cursor_alone s) [] s size alone
