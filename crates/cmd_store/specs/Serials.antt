-- A posting that needs a serial.
use Rattle.std.specs.{Prelude.{◌≡◌, ℕ, ◌⊎◌, ◌+◌, ◌-◌, ◌%◌, ◌^◌, ◌<◌, Bool, true, false, List}, List.list_any}
use Rattle.echo_text.specs.Ids.{id_of}
use Rattle.{echo_filed.specs.Filed.{Filed, has_id}, echo_links.specs.Links.LinkFile, cmd_store.specs.declared.drafting.NewMessage.NewMessage}

-- A message of the base has the id that the system gives with this serial.
abbrev pub is_taken : LinkFile → List Filed → ℕ → Bool
is_taken file base serial = list_any (has_id (id_of file.system serial)) base

-- The serial `steps` steps after `start`, with 0 after the greatest.
abbrev pub serial_after : ℕ → ℕ → ℕ
serial_after start steps = (start + steps) % 2 ^ 32

-- The first serial from `start` on that no message of the base has. If all are in use, it is the last of them.
pub record IsFirstFree (file : LinkFile) (base : List Filed) (start serial : ℕ) : Type 0 where
  pub steps : ℕ
  pub is : serial ≡ serial_after start steps
  pub before : (k : ℕ) → k < steps → is_taken file base (serial_after start k) ≡ true
  pub ends : (is_taken file base serial ≡ false) ⊎ (steps ≡ 2 ^ 32 - 1)

abbrev pub with_serial : NewMessage → ℕ → NewMessage
with_serial words serial = record {
  tag = words.tag;
  to_name = words.to_name;
  from_name = words.from_name;
  subject = words.subject;
  reply = words.reply;
  serial = serial;
  stamp = words.stamp;
}
