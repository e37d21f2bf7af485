-- A base file that is unchanged.
use Rattle.std.proofs.{Common.{◌≡◌, ◌≤◌, ◌++◌, ℕ, List, length, take, drop, sym, ap, subst, ◌∙◌, Option, append_assoc, arith}, lemmas.List.take-append-drop}
use Rattle.{std.specs.Prelude.IsSome, disk_io.specs.{Disk.{DiskState, bytes_in}, Runs.ChangesNothing}, base_file.specs.Base.Base}
use Rattle.base_folder_store.{specs.Ahead.IsPartOf, proofs.Ahead.part_grows}
use Rattle.station_bases.specs.Entries.{AreIndexed, CanFetch, CanLookUp, HoldEntries, IsWithinFile, SameButAdded, message_bytes}
use Rattle.station_bases.specs.{InFile.{IsHeld, IsWithinReach}, declared.{held.Held.{Held, TheVariants.{Apart, Whole}}, entries.Entries.Entries}}

module _ (d0 d1 : DiskState) (path : List ℕ) (quiet : ChangesNothing d0 d1) where
  pub same_file : bytes_in (d1.seen path) ≡ bytes_in (d0.seen path)
  same_file = ap bytes_in (quiet.seen path)

  pub reach_still : (e : Entries) → IsWithinFile d0 path e → IsWithinFile d1 path e
  reach_still e was = grind arith

  pub look_still : (e f : Entries) → AreIndexed f → f.end ≡ e.end → CanLookUp d0 path e → CanLookUp d1 path f
  look_still e f indexed end was = grind (arith, reach_still)

-- the same if only this file is unchanged
pub reach_seen : {S T : Type 0} (d0 d1 : DiskState) (path : List ℕ) (held : Held S T) → d1.seen path ≡ d0.seen path → (d1.is_honest → d0.is_honest) → IsWithinReach d0 path held → IsWithinReach d1 path held
reach_seen d0 d1 path (Apart e) seen before was = record {
  look = record {
    indexed = was.look.indexed;
    legible = λ honest.
        let reach = was.look.legible (before honest) in
        record {
          there = subst (λ (f : Option (List ℕ)). IsSome f) (sym seen) reach.there;
          long = subst (λ (f : Option (List ℕ)). e.end ≤ length (bytes_in f)) (sym seen) reach.long;
        };
  };
  part = λ honest. subst (λ (f : Option (List ℕ)). IsPartOf (message_bytes (bytes_in f) e) e.ahead) (sym seen) (was.part (before honest));
}
reach_seen d0 d1 path (Whole base) seen before was = tt

pub held_seen : {S T : Type 0} (d0 d1 : DiskState) (path : List ℕ) (held : Held S T) → d1.seen path ≡ d0.seen path → (b : Base) → IsHeld d0 path held b → IsHeld d1 path held b
held_seen d0 d1 path (Apart e) seen b was = subst (λ (f : Option (List ℕ)). HoldEntries (bytes_in f) e b) (sym seen) was
held_seen d0 d1 path (Whole base) seen b was = was

-- with messages added to those that wait
pub fetch_more : (d : DiskState) (path : List ℕ) (e f : Entries) → SameButAdded e f → AreIndexed f → CanFetch d path e → CanFetch d path f
fetch_more d path e f same indexed was = record {
  look = record {
    indexed = indexed;
    legible = λ honest.
        let reach = was.look.legible honest in
        record { there = reach.there; long = subst (λ (n : ℕ). n ≤ length (bytes_in (d.seen path))) (sym same.end) reach.long };
  };
  part = λ honest.
      let file = bytes_in (d.seen path) in
      let n = length e.waiting.items in
      let more = drop n f.waiting.items in
      let all : e.waiting.items ++ more ≡ f.waiting.items = ap (λ (l : List ℕ). l ++ more) (sym same.kept) ∙ take-append-drop n f.waiting.items in
      let bytes = append_assoc (drop 16 (take e.end file)) e.waiting.items more ∙ (λ i. drop 16 (take (sym same.end i) file) ++ all i) in
      let grown = subst (λ (l : List ℕ). IsPartOf l e.ahead) bytes (part_grows (message_bytes file e) more e.ahead (was.part honest)) in
      subst (λ a. IsPartOf (message_bytes file f) a) (sym same.ahead) grown;
}
