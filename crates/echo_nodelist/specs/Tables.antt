-- Tables for a checksum of eight bytes at a time.
use Rattle.std.specs.Prelude.{◌≡◌, ℕ, ◌<◌, List, ◌∷◌, replicate, slice_index}
use Rattle.echo_nodelist.specs.{declared.crc.Tables.Tables, Crc.crc}

-- Each entry is the checksum of its index as a byte, followed by `zeros` bytes 00.
abbrev pub IsTable : ℕ → List ℕ → Type 0
IsTable zeros table = (byte : ℕ) → byte < 256 → slice_index table byte ≡ crc (byte ∷ replicate zeros 0)

-- One to seven bytes 00.
abbrev pub AreTables : Tables → Type 0
AreTables tables = IsTable 1 tables.one × IsTable 2 tables.two × IsTable 3 tables.three × IsTable 4 tables.four × IsTable 5 tables.five × IsTable 6 tables.six × IsTable 7 tables.seven
