use Rattle.std.proofs.Common.{◌≡◌, ℕ, Bool, List, Option, subst, arith}
use Rattle.std.specs.Io.KnownBytes.{Consumes}
use Rattle.disk_io.specs.declared.fixed.Broken.{Broken}
use Rattle.echo_filed.specs.{Stored.IsStored, Stored.Stored, Stored.Version, Stored.stored_bytes, Fields.Breaks, Fields.LastFits, Fields.last_of}
use Rattle.echo_filed.proofs.StoredFields.{Fields, FieldsFit, bytes_are, fields_bytes, of_fields, of_fit}
use Rattle.echo_filed.proofs.Taken.{breaks_as}

pub last_breaks : (b with_tag : Bool) → b ≡ with_tag → (old new : Option (List ℕ)) (e : Broken) → Breaks (List ℕ × List ℕ) (LastFits b) (last_of b) old new e
    → Breaks (List ℕ × List ℕ) (LastFits with_tag) (last_of with_tag) old new e
last_breaks b with_tag same old new e h = subst (λ t. Breaks (List ℕ × List ℕ) (LastFits t) (last_of t) old new e) same h

abbrev pub Had : {X : Type 0} → (X → Type 0) → (X → List ℕ) → X → Option (List ℕ) → Option (List ℕ) → Type 0
Had F w x a b = F x × Consumes a b (w x)

pub last_had : (b with_tag : Bool) → b ≡ with_tag → (p : List ℕ × List ℕ) (old new : Option (List ℕ)) → Had (LastFits b) (last_of b) p old new → Had (LastFits with_tag) (last_of with_tag) p old new
last_had b with_tag same p old new h = subst (λ t. Had (LastFits t) (last_of t) p old new) same h

pub stored_breaks : (version : Version) (a b : Option (List ℕ)) (e : Broken) → Breaks Fields (FieldsFit version) (fields_bytes version) a b e
    → Breaks Stored (IsStored version) (stored_bytes version) a b e
stored_breaks version a b e h = grind (arith, breaks_as, of_fit, bytes_are)

pub stored_had : (version : Version) (p : Fields) (a b : Option (List ℕ)) → Had (FieldsFit version) (fields_bytes version) p a b
    → Had (IsStored version) (stored_bytes version) (of_fields p) a b
stored_had version p a b h = (of_fit version p h.0, subst (Consumes a b) (bytes_are version p) h.1)
