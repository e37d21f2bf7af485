-- The bytes of the messages of a base file, and each message by its entry.
use Rattle.{std.proofs.Common.{◌≡◌, ◌<◌, ◌++◌, ℕ, List, length, take, drop, Option, sym, ap, subst, ◌∙◌}, disk_io.specs.Disk.{DiskState, bytes_in}}
use Rattle.{disk_io.specs.Runs.ChangesNothing, echo_filed.specs.Filed.Filed, base_store.specs.Keys.{AreWhereRecorded, RepresentsSeat}}
use Rattle.{base_folder_store.specs.{Extent.bytes_of, declared.extent.Extent.Extent}, station_bases.specs.Entries.message_bytes}
use Rattle.station_bases.specs.declared.entries.Entries.{Entries}

module _ (d0 d1 : DiskState) (path : List ℕ) (e : Entries) (x : Extent) (quiet : ChangesNothing d0 d1) (at : x.path.now ≡ path) (head : x.head ≡ 16) (last : x.end ≡ e.end) where
  module _ (waits : x.waiting.now ≡ e.waiting.items) where
    pub bytes_are : bytes_of d1 x ≡ message_bytes (bytes_in (d0.seen path)) e
    bytes_are = (λ i. drop (head i) (take (last i) (bytes_in (d1.seen (at i)))) ++ waits i) ∙ ap (λ (f : Option (List ℕ)). drop 16 (take e.end (bytes_in f)) ++ e.waiting.items) (quiet.seen path)

    pub seat_at : (keys : List ℕ) (base : List Filed) (place : ℕ) → keys ≡ e.keys.items → AreWhereRecorded base (message_bytes (bytes_in (d0.seen path)) e) e.keys.items → place < length base → RepresentsSeat base (bytes_of d1 x) keys place
    seat_at keys base place same recorded less =
        subst (λ (k : List ℕ). RepresentsSeat base (bytes_of d1 x) k place) (sym same) (subst (λ (b : List ℕ). RepresentsSeat base b e.keys.items place) (sym bytes_are) (recorded.each place less))
