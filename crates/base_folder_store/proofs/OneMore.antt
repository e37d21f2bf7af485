use Rattle.std.proofs.Common.{◌≡◌, ℕ, ◌+◌, ◌<◌, ◌^◌, false, List, [], ◌∷◌, ◌++◌, length, sym, ap, ◌∙◌, arith}
use Rattle.std.proofs.lemmas.{Grind.flat_map-append, List.append-nil, List.map-append}
use Rattle.echo_filed.specs.{Filed.Filed, Filed.IsFiled, Filed.key_of, Stored.IsStored, Stored.Stored, Stored.message_in, Stored.stored_bytes, declared.stored.Version.TheVariants.Second}
use Rattle.echo_filed.proofs.Plain.{all_append}
use Rattle.base_log.specs.Standing.{BaseBytes}
use Rattle.base_file.{specs.{Alone.{IsStoredAlone, MayStandAlone}, Base.{Base, is_known}}, proofs.Entries.one_more}
use Rattle.base_store.{specs.{Keys.{FolderRepresents, digested, entry, keys_from}, Store.with_message}, proofs.Placed.{bytes_of, keys_append}}
use Rattle.base_folder_store.specs.{Added.with_stored, Held.HoldsBase, Held.digest_by}

pub files_more : (digest : List ℕ → ℕ) (base : List Filed) (cursor : ℕ) (messages keys : List ℕ) (m : Filed) (bytes : List ℕ) (number : ℕ) → FolderRepresents digest base cursor messages keys → IsStoredAlone m bytes → IsFiled m
    → is_known base (key_of m) ≡ false → number ≡ digest (digested m) → length (messages ++ bytes) < 2 ^ 64 → FolderRepresents digest (base ++ m ∷ []) cursor (messages ++ bytes) (keys ++ entry (length messages) number)
files_more digest base cursor messages keys m bytes number was is filed new recorded fits =
    let one : List Stored = is.s ∷ [] in
    let here : length messages ≡ 0 + length (bytes_of was.all) = omega (arith, ap (λ (l : List ℕ). length l) was.stored) in
    let entered : entry (length messages) number ≡ keys_from digest (0 + length (bytes_of was.all)) one =
    (λ i. entry (here i) (recorded i))
    ∙ ap (λ (x : Filed). entry (0 + length (bytes_of was.all)) (digest (digested x))) (sym is.is)
    ∙ sym (append-nil (entry (0 + length (bytes_of was.all)) (digest (digested (message_in Second is.s))))) in
    record {
      all = was.all ++ one;
      sizes = all_append (IsStored Second) was.all one was.sizes (is.size, tt);
      sound = all_append MayStandAlone was.all one was.sound (is.alone, tt);
      stored = (λ i. was.stored i ++ (is.same ∙ sym (append-nil (stored_bytes Second is.s))) i) ∙ sym (flat_map-append (stored_bytes Second) was.all one);
      filed = (λ i. was.filed i ++ sym is.is i ∷ []) ∙ sym (map-append (message_in Second) was.all one);
      entries = (λ i. was.entries i ++ entered i) ∙ sym (keys_append digest 0 was.all one);
      long = fits;
      digests = was.digests;
      holds = one_more base cursor m was.holds filed new;
    }

pub holds_more : (keyed : ℕ → ℕ → List ℕ → ℕ) (held : BaseBytes) (base : Base) (m : Filed) (bytes : List ℕ) (number : ℕ) → HoldsBase keyed held base → IsStoredAlone m bytes → IsFiled m
    → is_known base.messages (key_of m) ≡ false → number ≡ digest_by keyed held.mark (digested m) → length (held.messages ++ bytes) < 2 ^ 64 → HoldsBase keyed (with_stored held bytes number) (with_message base m)
holds_more keyed held base m bytes number was is filed new recorded fits = grind (arith, files_more)
