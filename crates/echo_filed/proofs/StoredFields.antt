use Rattle.std.proofs.Common.{◌≡◌, ℕ, ◌^◌, ◌<◌, Bool, true, false, List, [], ◌++◌, length, refl, sym, subst, Option, Some, None, lit<, arith}
use Rattle.echo_addr.specs.declared.address.Address.{Address}
use Rattle.echo_packet.specs.Header.{AreBytes, word}
use Rattle.echo_filed.specs.Stored.{IsStored, Stored, Version, after_length, after_long_length, has_tag, long, stored_bytes}
pub use Rattle.echo_filed.specs.Fields.{StopsIn}
use Rattle.echo_filed.specs.Fields.{IsLongString, IsShortString, IsSmall, LastFits, address_bytes, last_of}
use Rattle.echo_filed.proofs.Layouts.{BothFit, HasLength, IsByte, IsLong, IsWord, Layout, Tells, both, both_by, both_bytes, byte_field, counted_field, fixed_field, inside_unread, itself, long_field, nothing_field, one_byte, reported_field, word_field}

pub short_field : Layout (List ℕ) IsShortString after_length
short_field = counted_field IsByte one_byte (lit< tt) byte_field

pub text_field : Layout (List ℕ) IsLongString after_long_length
text_field = counted_field IsLong long (lit< tt) long_field

pub last_field : (with_tag : Bool) → Layout (List ℕ × List ℕ) (LastFits with_tag) (last_of with_tag)
last_field true = both short_field text_field
last_field false = both nothing_field text_field

pub address_field : Layout Address IsSmall address_bytes
address_field = reported_field tells (both word_field (both word_field word_field))
  where
    tells : Tells (ℕ × (ℕ × ℕ)) Address (BothFit IsWord (λ _. BothFit IsWord (λ _. IsWord))) (both_bytes word (λ _. both_bytes word (λ _. word))) IsSmall address_bytes
    tells = record {
      to = λ p. record { zone = p.0; net = p.1.0; node = p.1.1 };
      from = λ a. (a.zone, (a.net, a.node));
      back = λ a. refl;
      to_fits = λ p h. record { zone = h.0; net = h.1.0; node = h.1.1 };
      from_fits = λ a h. (h.zone, (h.net, h.node));
      same = λ p. refl;
    }

abbrev pub Fields : Type 0
Fields = ℕ × (Address × (List ℕ × (List ℕ × (List ℕ × (List ℕ × (List ℕ × List ℕ))))))

abbrev pub FieldsFit : Version → Fields → Type 0
FieldsFit version =
    BothFit IsByte (λ kind. BothFit IsSmall (λ _. BothFit (HasLength 20) (λ _.
    BothFit IsShortString (λ _. BothFit IsShortString (λ _. BothFit IsShortString (λ _. LastFits (has_tag version kind)))))))

abbrev pub fields_bytes : Version → Fields → List ℕ
fields_bytes version =
    both_bytes one_byte (λ kind. both_bytes address_bytes (λ _. both_bytes itself (λ _.
    both_bytes after_length (λ _. both_bytes after_length (λ _. both_bytes after_length (λ _. last_of (has_tag version kind)))))))

abbrev pub from_subject : (b : Bool) → Layout (List ℕ × (List ℕ × List ℕ)) (BothFit IsShortString (λ _. LastFits b)) (both_bytes after_length (λ _. last_of b))
from_subject b = both short_field (last_field b)

abbrev pub from_second : (b : Bool) → Layout (List ℕ × (List ℕ × (List ℕ × List ℕ)))
    (BothFit IsShortString (λ _. BothFit IsShortString (λ _. LastFits b))) (both_bytes after_length (λ _. both_bytes after_length (λ _. last_of b)))
from_second b = both short_field (from_subject b)

abbrev pub from_first : (b : Bool) → Layout (List ℕ × (List ℕ × (List ℕ × (List ℕ × List ℕ))))
    (BothFit IsShortString (λ _. BothFit IsShortString (λ _. BothFit IsShortString (λ _. LastFits b))))
    (both_bytes after_length (λ _. both_bytes after_length (λ _. both_bytes after_length (λ _. last_of b))))
from_first b = both short_field (from_second b)

abbrev pub from_date : (b : Bool) → Layout (List ℕ × (List ℕ × (List ℕ × (List ℕ × (List ℕ × List ℕ)))))
    (BothFit (HasLength 20) (λ _. BothFit IsShortString (λ _. BothFit IsShortString (λ _. BothFit IsShortString (λ _. LastFits b)))))
    (both_bytes itself (λ _. both_bytes after_length (λ _. both_bytes after_length (λ _. both_bytes after_length (λ _. last_of b)))))
from_date b = both (fixed_field 20) (from_first b)

abbrev pub from_sender : (b : Bool) → Layout (Address × (List ℕ × (List ℕ × (List ℕ × (List ℕ × (List ℕ × List ℕ))))))
    (BothFit IsSmall (λ _. BothFit (HasLength 20) (λ _. BothFit IsShortString (λ _. BothFit IsShortString (λ _. BothFit IsShortString (λ _. LastFits b))))))
    (both_bytes address_bytes (λ _. both_bytes itself (λ _. both_bytes after_length (λ _. both_bytes after_length (λ _. both_bytes after_length (λ _. last_of b))))))
from_sender b = both address_field (from_date b)

all_fields : (version : Version) → Layout Fields (FieldsFit version) (fields_bytes version)
all_fields version = both_by byte_field (λ kind. from_sender (has_tag version kind))

abbrev pub of_fields : Fields → Stored
of_fields p = record {
  kind = p.0;
  zone = p.1.0.zone;
  net = p.1.0.net;
  node = p.1.0.node;
  date = p.1.1.0;
  to_name = p.1.1.1.0;
  from_name = p.1.1.1.1.0;
  subject = p.1.1.1.1.1.0;
  tag = p.1.1.1.1.1.1.0;
  last = p.1.1.1.1.1.1.1;
}

abbrev to_fields : Stored → Fields
to_fields s =
    (s.kind, (record { zone = s.zone; net = s.net; node = s.node }, (s.date, (s.to_name, (s.from_name, (s.subject, (s.tag, s.last)))))))

last_fits : (with_tag : Bool) (p : List ℕ × List ℕ) → length p.0 < 2 ^ 8 → (with_tag ≡ false → p.0 ≡ []) → length p.1 < 2 ^ 32 → LastFits with_tag p
last_fits true p tag no_tag last = (tag, last)
last_fits false p tag no_tag last = (no_tag refl, last)

last_tag : (with_tag : Bool) (p : List ℕ × List ℕ) → LastFits with_tag p → length p.0 < 2 ^ 8
last_tag true p h = h.0
last_tag false p h = let P : List ℕ → Type 0 = λ t. length t < 2 ^ 8 in subst P (sym h.0) (lit< tt)

last_no_tag : (with_tag : Bool) (p : List ℕ × List ℕ) → LastFits with_tag p → with_tag ≡ false → p.0 ≡ []
last_no_tag true p h e = absurd (cc)
last_no_tag false p h e = h.0

last_room : (with_tag : Bool) (p : List ℕ × List ℕ) → LastFits with_tag p → length p.1 < 2 ^ 32
last_room true p h = h.1
last_room false p h = h.1

to_fit : (version : Version) (s : Stored) → IsStored version s → FieldsFit version (to_fields s)
to_fit version s h = grind (arith, last_fits)

pub of_fit : (version : Version) (p : Fields) → FieldsFit version p → IsStored version (of_fields p)
of_fit version p h = grind (arith, last_tag, last_no_tag, last_room)

pub bytes_are : (version : Version) (p : Fields) → fields_bytes version p ≡ stored_bytes version (of_fields p)
unfolding stored_bytes
bytes_are version p = refl

pub stored_field : (version : Version) → Layout Stored (IsStored version) (stored_bytes version)
stored_field version = reported_field tells (all_fields version)
  where
    tells : Tells Fields Stored (FieldsFit version) (fields_bytes version) (IsStored version) (stored_bytes version)
    tells = record {
      to = of_fields;
      from = to_fields;
      back = λ s. refl;
      to_fits = of_fit version;
      from_fits = to_fit version;
      same = bytes_are version;
    }

pub record Stands (version : Version) (bytes : List ℕ) (next : Stored) (rest : List ℕ) : Type 0 where
  pub size : IsStored version next
  pub whole : bytes ≡ stored_bytes version next ++ rest
  pub rest_bytes : AreBytes rest

pub stored_in : Version → List ℕ → Option (Stored × List ℕ)
stored_in version bytes = (stored_field version).read bytes

pub stored_stands : (version : Version) (bytes : List ℕ) (found : Stored × List ℕ) → AreBytes bytes → stored_in version bytes ≡ Some found
    → Stands version bytes found.0 found.1
unfolding stored_in
stored_stands version bytes found are h =
    let took = (stored_field version).takes bytes found are h in
    record { size = took.fits; whole = took.whole; rest_bytes = took.rest_bytes }

pub stored_again : (version : Version) (s : Stored) (rest : List ℕ) → IsStored version s → stored_in version (stored_bytes version s ++ rest) ≡ Some (s, rest)
unfolding stored_in
stored_again version s rest h = (stored_field version).again s rest h

pub stored_stops : (version : Version) (bytes : List ℕ) → AreBytes bytes → stored_in version bytes ≡ None → StopsIn version bytes
unfolding stored_in
stored_stops version bytes are h = (stored_field version).cuts bytes are h

pub stopped_unread : (version : Version) (bytes : List ℕ) → AreBytes bytes → StopsIn version bytes → stored_in version bytes ≡ None
unfolding stored_in
stopped_unread version bytes are h =
    inside_unread Stored (IsStored version) (stored_bytes version) (stored_field version) bytes are ((stored_field version).read bytes) refl h
