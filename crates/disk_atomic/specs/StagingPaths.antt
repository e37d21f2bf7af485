-- The paths of staging files.
use Rattle.std.specs.Prelude.{ℕ, List, ◌++◌, codes, decimal}
use Rattle.echo_addr.specs.declared.address.Address.{Address}

-- A system in a file name: `zone.net.node`.
abbrev pub dotted : Address → List ℕ
dotted a = decimal a.zone ++ (codes "." ++ (decimal a.net ++ (codes "." ++ decimal a.node)))

-- The staging path of a path, for the system with this own name.
abbrev pub staging_path : List ℕ → List ℕ → List ℕ
staging_path path own = path ++ (codes ".~" ++ (own ++ codes "~.new"))
