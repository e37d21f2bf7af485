-- The files of a base folder. The path of a folder ends with a slash, or is empty.
use Rattle.std.specs.Prelude.{◌≡◌, ◌≢◌, ◌⊎◌, ℕ, ◌+◌, List, [], ◌∷◌, ◌++◌}
use Rattle.base_log.specs.declared.names.{TheConstants.LOG, TheConstants.MESSAGES, TheConstants.KEYS, Names.Names}

abbrev pub log_of : List ℕ → List ℕ
log_of path = path ++ LOG.now

-- The files of a number have it as a digit at the end of their names.
abbrev pub messages_of : List ℕ → ℕ → List ℕ
messages_of path number = path ++ (MESSAGES.now ++ (48 + number) ∷ [])

abbrev pub keys_of : List ℕ → ℕ → List ℕ
keys_of path number = path ++ (KEYS.now ++ (48 + number) ∷ [])

abbrev pub folder_of : Names → List ℕ
folder_of names = names.folder.items

pub record AreNames (names : Names) (number : ℕ) : Type 0 where
  pub log : names.log.items ≡ log_of (folder_of names)
  pub messages : names.messages.items ≡ messages_of (folder_of names) number
  pub keys : names.keys.items ≡ keys_of (folder_of names) number

-- One of the folder's own files: its log, or a file of some number.
abbrev pub IsFileOf : List ℕ → List ℕ → Type 0
IsFileOf path m = (m ≡ log_of path) ⊎ ((number : ℕ) × ((m ≡ messages_of path number) ⊎ (m ≡ keys_of path number)))

-- A file of the folder that is neither its log nor a file of that number.
pub record IsOtherNumber (path : List ℕ) (number : ℕ) (file : List ℕ) : Type 0 where
  pub own : IsFileOf path file
  pub not_log : log_of path ≢ file
  pub not_messages : messages_of path number ≢ file
  pub not_keys : keys_of path number ≢ file
