-- A base folder and a base file as the bases of the two stations.
use Rattle.std.proofs.Common.{◌≡◌, ℕ, List, [], Option, inl, inr, refl, sym, subst, arith}
use Rattle.std.specs.Prelude.{get_or, None}
use Rattle.disk_io.specs.Disk.{Files, IsIn}
use Rattle.base_log.specs.{Standing.BaseBytes, Standing.IsEnded, Standing.Represents}
use Rattle.base_log.proofs.{Paths.{keys_in, log_in, messages_in}, Same.{AreThere-same, RecordsBase-same}}
use Rattle.base_folder.{specs.Unopened.HaveRoom, proofs.Empties.empty_base as empty_folder}
use Rattle.cmd_status.specs.Inputs.{IsBaseGiven}
use Rattle.station_bases.specs.{InFolder.folder_place, Reading.file_place}
use Rattle.law_stations.specs.{Nets.empty_base, Seats.IsSettledByOwn}
use Rattle.law_session.specs.Session.{ArePlaces}
use Rattle.law_session.specs.declared.{kinds.TheConstants.{FIRST_FILE, FIRST_FOLDER, SECOND_FILE, SECOND_FOLDER}, session.TheConstants.{FIRST_LINKS, SECOND_LINKS}}
use Rattle.law_session.proofs.Names.{byte}

-- ---- only their own files decide

ended_same : (path : List ℕ) (bodies : List (List ℕ)) (a c : Files) → ((m : List ℕ) → IsIn path m → c m ≡ a m) → IsEnded path bodies a → IsEnded path bodies c
ended_same path bodies a c same h6 = grind (arith, log_in, messages_in, keys_in)

represented_same : (path : List ℕ) (base : BaseBytes) (a c : Files) → ((m : List ℕ) → IsIn path m → c m ≡ a m) → Represents path base a → Represents path base c
represented_same path base a c same was = grind (arith, messages_in, keys_in, log_in, ended_same, AreThere-same, RecordsBase-same)

folder-settled : (keyed : ℕ → ℕ → List ℕ → ℕ) (path : List ℕ) → IsSettledByOwn (folder_place keyed path)
folder-settled keyed path base before after same was = record { bytes = was.bytes; represented = represented_same path was.bytes before after same was.represented; holds = was.holds }

file-settled : (path : List ℕ) → IsSettledByOwn (file_place path)
file-settled path base before after same was = subst (λ (f : Option (List ℕ)). IsBaseGiven f base.messages base.cursor) (sym (same path ([], inr refl))) was

file-empty : (path : List ℕ) (c : Files) → ((m : List ℕ) → (file_place path).is_own m → c m ≡ None) → (file_place path).represents empty_base c
file-empty path c none = subst (λ (f : Option (List ℕ)). IsBaseGiven f [] 0) (sym (none path ([], inr refl))) (refl, refl)

-- ---- paths

file-t : (m : List ℕ) → (file_place SECOND_FILE.now).is_own m → get_or m 0 0 ≡ 116
file-t m (own, inl is) = byte 0 is
file-t m (own, inr is) = byte 0 is

file-tw : (m : List ℕ) → (file_place SECOND_FILE.now).is_own m → get_or m 1 0 ≡ 119
file-tw m (own, inl is) = byte 1 is
file-tw m (own, inr is) = byte 1 is

file-outside : (file_place SECOND_FILE.now).is_own SECOND_LINKS.now → ⊥
file-outside (own, inl is) = omega (arith, byte 4 is)
file-outside (own, inr is) = omega (arith, byte 4 is)

first-file-o : (m : List ℕ) → (file_place FIRST_FILE.now).is_own m → get_or m 0 0 ≡ 111
first-file-o m (own, inl is) = byte 0 is
first-file-o m (own, inr is) = byte 0 is

first-file-on : (m : List ℕ) → (file_place FIRST_FILE.now).is_own m → get_or m 1 0 ≡ 110
first-file-on m (own, inl is) = byte 1 is
first-file-on m (own, inr is) = byte 1 is

first-file-outside : (file_place FIRST_FILE.now).is_own FIRST_LINKS.now → ⊥
first-file-outside (own, inl is) = omega (arith, byte 4 is)
first-file-outside (own, inr is) = omega (arith, byte 4 is)

pub folder-and-file : (keyed : ℕ → ℕ → List ℕ → ℕ) → HaveRoom keyed → ArePlaces (folder_place keyed FIRST_FOLDER.now) (file_place SECOND_FILE.now)
folder-and-file keyed fits = record {
  settled_first = folder-settled keyed FIRST_FOLDER.now;
  settled_second = file-settled SECOND_FILE.now;
  begin_o = λ m is. byte 0 is.parts;
  begin_on = λ m is. byte 1 is.parts;
  begin_t = file-t;
  begin_tw = file-tw;
  outside_first = λ is. omega (arith, byte 3 is.parts);
  outside_second = file-outside;
  empty_first = λ c none. empty_folder keyed FIRST_FOLDER.now c fits none;
  empty_second = file-empty SECOND_FILE.now;
}

pub file-and-folder : (keyed : ℕ → ℕ → List ℕ → ℕ) → HaveRoom keyed → ArePlaces (file_place FIRST_FILE.now) (folder_place keyed SECOND_FOLDER.now)
file-and-folder keyed fits = record {
  settled_first = file-settled FIRST_FILE.now;
  settled_second = folder-settled keyed SECOND_FOLDER.now;
  begin_o = first-file-o;
  begin_on = first-file-on;
  begin_t = λ m is. byte 0 is.parts;
  begin_tw = λ m is. byte 1 is.parts;
  outside_first = first-file-outside;
  outside_second = λ is. omega (arith, byte 3 is.parts);
  empty_first = file-empty FIRST_FILE.now;
  empty_second = λ c none. empty_folder keyed SECOND_FOLDER.now c fits none;
}
