-- The bytes of an extent, and those of an open base folder.
use Rattle.std.proofs.{Common.{◌≡◌, ◌≤◌, ◌++◌, ℕ, List, length, take, drop, ap, sym, subst, ◌∙◌, arith, length-append, length-drop}, lemmas.List.length-take-le}
use Rattle.disk_io.specs.{Disk.DiskState, Disk.bytes_in, Runs.ChangesNothing}
use Rattle.base_log.specs.Standing.{BaseBytes}
use Rattle.base_folder_store.specs.{Ahead.IsPartOf, Extent.IsExtent, Extent.IsReadable, Extent.bytes_of, Extent.size_of, Opened.IsLegible, Opened.held_by, declared.extent.Extent.Extent, declared.folder.Folder.Folder, declared.read_ahead.ReadAhead.ReadAhead}
use Rattle.base_folder_store.proofs.Legible.{held_quiet, legible_quiet}

pub size_is : (d : DiskState) (x : Extent) → x.head ≤ x.end → IsReadable d x → length (bytes_of d x) ≡ size_of x
size_is d x order readable = grind (arith, length-append, length-drop, length-take-le)

-- after reads of other bytes
module _ (d e : DiskState) (f : Folder) (x : Extent) (quiet : ChangesNothing d e) (legible : IsLegible d f) where
  now : IsLegible e f
  now = legible_quiet d e f quiet legible

  pub messages_readable : IsExtent f.names.messages.items f.recorded.messages f.waiting.messages.items x → IsReadable e x
  messages_readable is = grind (arith, now)

  pub messages_are : IsExtent f.names.messages.items f.recorded.messages f.waiting.messages.items x → bytes_of e x ≡ (held_by d f).messages
  messages_are is = (λ i. drop (is.head i) (take (is.last i) (bytes_in (e.seen ((is.at ∙ now.names.messages) i)))) ++ is.waits i) ∙ ap (λ (b : BaseBytes). b.messages) (held_quiet d e f quiet)

module _ (d : DiskState) (f : Folder) (x : Extent) (legible : IsLegible d f) where
  pub keys_readable : IsExtent f.names.keys.items f.recorded.keys f.waiting.keys.items x → IsReadable d x
  keys_readable is = grind arith

  pub keys_are : IsExtent f.names.keys.items f.recorded.keys f.waiting.keys.items x → bytes_of d x ≡ (held_by d f).keys
  keys_are is = λ i. drop (is.head i) (take (is.last i) (bytes_in (d.seen ((is.at ∙ legible.names.keys) i)))) ++ is.waits i

  pub keys_kept : IsExtent f.names.keys.items f.recorded.keys f.waiting.keys.items x → (old new : ReadAhead) → (IsPartOf (bytes_of d x) old → IsPartOf (bytes_of d x) new) → IsPartOf (held_by d f).keys old → IsPartOf (held_by d f).keys new
  keys_kept is old new kept was = subst (λ (l : List ℕ). IsPartOf l new) (keys_are is) (kept (subst (λ (l : List ℕ). IsPartOf l old) (sym (keys_are is)) was))
