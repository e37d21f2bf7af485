-- The files that packets will become.
use Rattle.std.specs.Prelude.{ℕ, List}

-- The name of a file in the folder of packets, and its bytes.
pub record PacketFile : Type 0 where
  pub name : List ℕ
  pub bytes : List ℕ
