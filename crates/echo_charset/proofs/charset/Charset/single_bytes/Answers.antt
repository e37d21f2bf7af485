use Rattle.std.proofs.Common.{◌≡◌, ℕ, List, [], ◌∷◌, ◌++◌, ◌∙◌, refl, sym, ap, append_assoc, arith, length, subst}
use Rattle.std.proofs.lemmas.Str.{IsUtf8-past_char, chars-nil, chars_past_char, encodes-append, encodes-chars}
use Rattle.std.proofs.lemmas.{Grind.flat_map-append, List.Elements.Contains-append_left, List.Elements.Contains-push, List.append-nil}
use Rattle.std.specs.{List.Contains, Str.IsUtf8, Str.chars, Str.encode_utf8_all}
use Rattle.echo_charset.specs.{declared.charset.Charset.Charset, Charset.character, Charset.characters}
use Rattle.echo_charset.proofs.charset.Charset.single_bytes.Goals as goal

one_more : (charset : Charset) (bytes said : List ℕ) (byte c : ℕ) → characters charset bytes ≡ encode_utf8_all said → character charset byte ≡ c → characters charset (bytes ++ byte ∷ []) ≡ encode_utf8_all (said ++ c ∷ [])
one_more charset bytes said byte c so is = rw (flat_map-append, encodes-append, so, is) refl

next_char : (said after all : List ℕ) (c : ℕ) (rest : List ℕ) → said ++ chars rest ≡ all → chars rest ≡ c ∷ after → (said ++ c ∷ []) ++ after ≡ all
next_char said after all c rest so next = append_assoc said (c ∷ []) after ∙ sym (ap (λ cs. said ++ cs) next) ∙ so

is_one : (said after all : List ℕ) (c : ℕ) → (said ++ c ∷ []) ++ after ≡ all → Contains all c
is_one said after all c so =
    let P : List ℕ → Type 0 = λ cs. Contains cs c in
    subst P so (Contains-append_left (said ++ c ∷ []) after c (Contains-push said c))

all_said : (charset : Charset) (bytes said rest text : List ℕ) → IsUtf8 text → characters charset bytes ≡ encode_utf8_all said → said ++ chars rest ≡ chars text → length rest ≡ 0 → characters charset bytes ≡ text
all_said charset bytes said [] text whole so left none =
    so ∙ ap (λ cs. encode_utf8_all cs) (sym (append-nil said) ∙ (sym (ap (λ cs. said ++ cs) chars-nil) ∙ left)) ∙ encodes-chars text whole
all_said charset bytes said (b ∷ rest) text whole so left none = absurd (omega arith)

pub text-preserved : goal.text-preserved
text-preserved c =
    let was = c.text.invariant in
    let next = chars_past_char c.text.character-iterator.rest.now c.next.new.self.rest.now c.in-Some.character was.whole c.in-Some.ensures.steps.0 in
    record {
      said = rw c.in_ok-push-in-Some-byte_of.ensures.items
          (one_more c.args.self c.text.bytes.items c.text.yielded c.in-Some-byte_of.byte c.in-Some.character was.said c.in-Some-byte_of.ensures);
      left = next_char c.text.yielded _ _ c.in-Some.character c.text.character-iterator.rest.now was.left next;
      whole = IsUtf8-past_char c.text.character-iterator.rest.now c.next.new.self.rest.now c.in-Some.character was.whole c.in-Some.ensures.steps.0;
    }

pub returns-in-None-byte_of : goal.returns-in-None-byte_of
returns-in-None-byte_of c =
    let was = c.text.invariant in
    let next = chars_past_char c.text.character-iterator.rest.now c.next.new.self.rest.now c.in-Some.character was.whole c.in-Some.ensures.steps.0 in (
      c.in-Some.character,
      is_one c.text.yielded _ _ c.in-Some.character (next_char c.text.yielded _ _ c.in-Some.character c.text.character-iterator.rest.now was.left next),
      c.in-None-byte_of.ensures,
    )

pub returns : goal.returns
returns c =
    let was = c.text.invariant in
    all_said c.args.self c.text.bytes.items c.text.yielded c.text.character-iterator.rest.now c.args.text.now c.utf8.text was.said was.left c.in-None.ensures.steps.0.0
