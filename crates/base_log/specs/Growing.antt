-- The two files of a number, which only grow.
use Rattle.std.specs.Prelude.{◌+◌, ℕ, List}
use Rattle.base_log.specs.{Names.keys_of, Names.messages_of, Standing.BaseBytes, Standing.and_keys, Standing.and_messages, declared.log.CommitRecord.CommitRecord, declared.names.Names.Names}
use Rattle.base_log.specs.declared.staging.GrowingFile.{GrowingFile}
use Rattle.base_log.specs.declared.staging.GrowingFile.TheVariants as file

abbrev pub path_in : Names → GrowingFile → List ℕ
path_in names file.Messages = names.messages.items
path_in names file.Keys = names.keys.items

abbrev pub file_of : List ℕ → ℕ → GrowingFile → List ℕ
file_of path number file.Messages = messages_of path number
file_of path number file.Keys = keys_of path number

abbrev pub counted : CommitRecord → GrowingFile → ℕ
counted recorded file.Messages = recorded.messages
counted recorded file.Keys = recorded.keys

abbrev pub with_more : CommitRecord → GrowingFile → ℕ → CommitRecord
with_more recorded file.Messages more = record recorded { messages = recorded.messages + more }
with_more recorded file.Keys more = record recorded { keys = recorded.keys + more }

abbrev pub and_bytes : BaseBytes → GrowingFile → List ℕ → BaseBytes
and_bytes base file.Messages bytes = and_messages base bytes
and_bytes base file.Keys bytes = and_keys base bytes
