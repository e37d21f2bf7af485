-- The entries that a look-up reads.
use Rattle.{std.proofs.Common.{◌≡◌, ℕ, List, refl}, base_log.specs.Standing.BaseBytes, base_file.specs.Base.Base}
use Rattle.base_store.{specs.{Keys.{AreWhereRecorded, digested_key}, Sip.sip_digest}, proofs.Placed.stand_where_recorded}
use Rattle.base_folder_store.{specs.{Answers.HaveDigest, Held.HoldsBase}, proofs.Seen.{id_digest, key_digest}}
use Rattle.echo_filed.specs.{Filed.{Filed, has_id, key_of, same_key}, declared.key.Key.Key}
use Rattle.station_bases.specs.{Entries.{AreEntriesOf, entry_digest, message_bytes}, declared.entries.Entries.Entries}

-- the entries and bytes, in the form of a base folder
abbrev as_folder : List ℕ → Entries → ℕ → BaseBytes
as_folder file e cursor = record { messages = message_bytes file e; keys = e.keys.items; cursor = cursor; mark = record { owner = 0; first = e.digest.first; second = e.digest.second } }

module _ (file : List ℕ) (e : Entries) (messages : List Filed) (cursor : ℕ) (are : AreEntriesOf file e messages cursor) where
  base : Base
  base = record { messages = messages; cursor = cursor }

  holds : HoldsBase sip_digest (as_folder file e cursor) base
  unfolding base
  holds = record { files = are; cursor = refl }

  pub where_recorded : AreWhereRecorded messages (message_bytes file e) e.keys.items
  where_recorded = stand_where_recorded (entry_digest e) messages cursor (message_bytes file e) e.keys.items are

  pub key_recorded : (key : Key) (number : ℕ) → number ≡ entry_digest e (digested_key key) → HaveDigest (λ m. same_key (key_of m) key) number messages e.keys.items
  unfolding base
  key_recorded key number is = key_digest sip_digest (as_folder file e cursor) base key number holds is

  pub id_recorded : (id : List ℕ) (number : ℕ) → number ≡ entry_digest e id → HaveDigest (has_id id) number messages e.keys.items
  unfolding base
  id_recorded id number is = id_digest sip_digest (as_folder file e cursor) base id number holds is
