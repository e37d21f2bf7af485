-- Fields that are taken from a source.
use Rattle.std.proofs.Common.{◌≡◌, ℕ, ◌+◌, ◌-◌, ◌*◌, ◌/◌, ◌%◌, ◌<◌, ◌≤◌, List, [], ◌∷◌, ◌++◌, length, get_or, take, drop, replicate, refl, sym, ◌∙◌, Option, Result, arith}
use Rattle.std.proofs.lemmas.List.{append-nil, length-append, length-drop, length-replicate, nil_from_length, take-append-drop}
use Rattle.std.proofs.KnownBytes.{Consumes-trans}
use Rattle.std.specs.Io.KnownBytes.{Consumes}
use Rattle.echo_addr.specs.declared.address.Address.{Address}
use Rattle.echo_packet.specs.Header.{AreBytes, number_at}
use Rattle.disk_io.specs.{declared.fixed.Broken.Broken, Fixed.BreaksFilling}
use Rattle.disk_io.specs.declared.fixed.Broken.TheVariants as broken
use Rattle.echo_filed.specs.Fields.{Breaks, BreaksSized, EndsIn, HasLength, IsByte, IsLong, IsSmall, Reads, address_bytes, itself, one_byte}
use Rattle.echo_filed.specs.Stored.{long, long_at}
use Rattle.echo_filed.proofs.Layouts.{BothFit, Layout, LengthFits, both_bytes, ends_first, ends_second, ends_string, length_first, long_front}

pub front_ends : {X : Type 0} {Fits : X → Type 0} {write : X → List ℕ} (x : X) → Fits x → (n : ℕ) (buf : List ℕ) → write x ≡ buf → n < length buf
    → EndsIn X Fits write (take n buf)
front_ends x fits n buf same short = record {
  value = x;
  fits = fits;
  missing = drop n buf;
  some = omega (arith, length-drop n buf);
  cut = same ∙ sym (take-append-drop n buf);
}

pub fixed_breaks : (X : Type 0) (Fits : X → Type 0) (write : X → List ℕ) (x : X) (buf : List ℕ) → Fits x → write x ≡ buf
    → (a b : Option (List ℕ)) (e : Broken) → BreaksFilling buf a b e → Breaks X Fits write a b e
fixed_breaks X Fits write x buf fits same a b broken.Cut h = ((take h.0.0 buf, h.0.2, front_ends x fits h.0.0 buf same h.0.1), h.1)
fixed_breaks X Fits write x buf fits same a b broken.Device h = (take h.0 buf, h.2, front_ends x fits h.0 buf same h.1)
fixed_breaks X Fits write x buf fits same a b broken.Memory h = tt

pub breaks_as : {X Y : Type 0} {F : X → Type 0} {w : X → List ℕ} {G : Y → Type 0} {v : Y → List ℕ} (a b : Option (List ℕ)) (e : Broken)
    → ((bytes : List ℕ) → EndsIn X F w bytes → EndsIn Y G v bytes) → Breaks X F w a b e → Breaks Y G v a b e
breaks_as a b e h1 h2 = grind arith

pub breaks_behind : {X Y : Type 0} {F : X → Type 0} {w : X → List ℕ} {G : Y → Type 0} {v : Y → List ℕ} (a b c : Option (List ℕ)) (front : List ℕ) (e : Broken)
    → Consumes a b front → ((bytes : List ℕ) → EndsIn X F w bytes → EndsIn Y G v (front ++ bytes)) → Breaks X F w b c e → Breaks Y G v a c e
breaks_behind a b c front broken.Cut took within h = ((front ++ h.0.0, Consumes-trans a b c front h.0.0 took h.0.1, within h.0.0 h.0.2), h.1)
breaks_behind a b c front broken.Device took within h = (front ++ h.0, Consumes-trans a b c front h.0 took h.1, within h.0 h.2)
breaks_behind a b c front broken.Memory took within h = tt

pub byte_whole : (s : List ℕ) → length s ≡ 1 → AreBytes s → IsByte (get_or s 0 0) × (one_byte (get_or s 0 0) ≡ s)
byte_whole (a ∷ []) size are = (are 0, refl)
byte_whole _ size are = absurd (omega arith)

pub long_whole : (s : List ℕ) → length s ≡ 4 → AreBytes s → IsLong (long_at 0 s) × (long (long_at 0 s) ≡ s)
long_whole s size are = grind (arith, long_front, nil_from_length, length-drop, append-nil)

pub address_whole : (s : List ℕ) → length s ≡ 6 → AreBytes s
    → let a : Address = record { zone = number_at 0 s; net = number_at 2 s; node = number_at 4 s } in IsSmall a × (address_bytes a ≡ s)
address_whole (a ∷ (b ∷ (c ∷ (d ∷ (e ∷ (f ∷ s)))))) size are =
    let ha : a < 256 = are 0 in
    let hb : b < 256 = are 1 in
    let hc : c < 256 = are 2 in
    let hd : d < 256 = are 3 in
    let he : e < 256 = are 4 in
    let hf : f < 256 = are 5 in
    let a' : (a + 256 * b) % 256 ≡ a = omega arith in
    let b' : (a + 256 * b) / 256 ≡ b = omega arith in
    let c' : (c + 256 * d) % 256 ≡ c = omega arith in
    let d' : (c + 256 * d) / 256 ≡ d = omega arith in
    let e' : (e + 256 * f) % 256 ≡ e = omega arith in
    let f' : (e + 256 * f) / 256 ≡ f = omega arith in
    let s' : [] ≡ s = sym (nil_from_length s (omega arith)) in (
      record { zone = omega arith; net = omega arith; node = omega arith },
      λ i. a' i ∷ (b' i ∷ (c' i ∷ (d' i ∷ (e' i ∷ (f' i ∷ s' i))))),
    )
address_whole _ size are = absurd (omega arith)

pub string_ends : (size : ℕ) (bytes : List ℕ) → length bytes < size → EndsIn (List ℕ) (HasLength size) itself bytes
string_ends size bytes short =
    let more : List ℕ = replicate (size - length bytes) 0 in
    let many : length more ≡ size - length bytes = length-replicate {A = ℕ} (size - length bytes) 0 in
    record {
      value = bytes ++ more;
      fits = omega (arith, length-append bytes more);
      missing = more;
      some = omega arith;
      cut = refl;
    }

pub string_breaks : (size : ℕ) (had : List ℕ) (a b c : Option (List ℕ)) (e : Broken) → length had ≤ size → Consumes a b had → BreaksSized (size - length had) b c e
    → Breaks (List ℕ) (HasLength size) itself a c e
string_breaks size had a b c e h1 h2 h3 = grind (arith, Consumes-trans, string_ends, length-append)

pub part_breaks : (size next : ℕ) (had : List ℕ) (a b c : Option (List ℕ)) (e : Broken) → length had + next ≤ size → Consumes a b had
    → Breaks (List ℕ) (HasLength next) itself b c e → Breaks (List ℕ) (HasLength size) itself a c e
part_breaks size next had a b c e within took h = grind (arith, breaks_behind, length-append, string_ends)

pub counted_reads : (F : ℕ → Type 0) (w : ℕ → List ℕ) (n : ℕ) (a b c : Option (List ℕ)) (r : Result (List ℕ) Broken) → F n → Consumes a b (w n)
    → Reads (HasLength n) itself b c r → Reads (LengthFits F) (length_first w) a c r
counted_reads F w n a b c r h1 h2 h3 = grind (arith, Consumes-trans, breaks_behind, ends_string)

pub address_reads : (a b : Option (List ℕ)) (s : List ℕ) (zone net node : ℕ) → length s ≡ 6 → AreBytes s → zone ≡ number_at 0 s → net ≡ number_at 2 s → node ≡ number_at 4 s
    → Consumes a b s → IsSmall (record { zone = zone; net = net; node = node }) × Consumes a b (address_bytes (record { zone = zone; net = net; node = node }))
address_reads a b s zone net node size are z n m took = grind (arith, address_whole)

pub breaks_first : {X Y : Type 0} {F : X → Type 0} {w : X → List ℕ} {G : X → Y → Type 0} {v : X → Y → List ℕ} → Layout X F w → ((x : X) → Layout Y (G x) (v x))
    → (a b : Option (List ℕ)) (e : Broken) → Breaks X F w a b e → Breaks (X × Y) (BothFit F G) (both_bytes w v) a b e
breaks_first {X} {Y} {F} {w} {G} {v} first second a b e h =
    breaks_as {F = F} {w = w} {G = BothFit F G} {v = both_bytes w v} a b e (ends_first first second) h

pub breaks_second : {X Y : Type 0} {F : X → Type 0} {w : X → List ℕ} {G : X → Y → Type 0} {v : X → Y → List ℕ} → Layout X F w → ((x : X) → Layout Y (G x) (v x))
    → (x : X) (a b c : Option (List ℕ)) (e : Broken) → F x × Consumes a b (w x) → Breaks Y (G x) (v x) b c e → Breaks (X × Y) (BothFit F G) (both_bytes w v) a c e
breaks_second {X} {Y} {F} {w} {G} {v} first second x a b c e had h =
    breaks_behind {F = G x} {w = v x} {G = BothFit F G} {v = both_bytes w v} a b c (w x) e had.1 (λ bytes inside. ends_second first second x bytes had.0 inside) h

pub reads_both : {X Y : Type 0} {F : X → Type 0} {w : X → List ℕ} {G : X → Y → Type 0} {v : X → Y → List ℕ} → Layout X F w → ((x : X) → Layout Y (G x) (v x))
    → (x : X) (y : Y) (a b c : Option (List ℕ)) → F x × Consumes a b (w x) → G x y × Consumes b c (v x y)
    → BothFit F G (x, y) × Consumes a c (both_bytes w v (x, y))
reads_both {X} {Y} {F} {w} {G} {v} first second x y a b c had more = ((had.0, more.0), Consumes-trans a b c (w x) (v x y) had.1 more.1)
