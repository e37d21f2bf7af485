-- The fixed header of a JAM base (JAM-001): the first 1024 bytes of the file of headers.
use Rattle.std.specs.Prelude.{ℕ, List, [], ◌∷◌, ◌++◌, codes, replicate}
use Rattle.echo_filed.specs.Stored.{long}

-- The first bytes of a file of headers, and of each header in it.
abbrev pub jam_mark : List ℕ
jam_mark = codes "JAM" ++ 0 ∷ []

-- The number of changes of the base, and the number of its messages that are not deleted.
abbrev pub counts : ℕ → ℕ → List ℕ
counts changes active = long changes ++ long active

-- The fixed header of a base created at this time: never changed, no messages, no password, first message number 1.
abbrev pub new_fixed : ℕ → List ℕ
new_fixed created = jam_mark ++ (long created ++ (counts 0 0 ++ (long 4294967295 ++ (long 1 ++ replicate 1000 0))))
