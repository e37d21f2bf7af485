-- Mail that is lost in every run.
use Rattle.std.specs.Prelude.{◌≡◌, ℕ, List}
use Rattle.echo_addr.specs.declared.address.Address.{Address}
use Rattle.echo_links.specs.Links.{LinkFile}
use Rattle.echo_filed.specs.Filed.{Filed, key_of}
use Rattle.model_graph.specs.Walk.{Among}
use Rattle.model_run.specs.{Event.RunEvent, Harms.NeverGets, Orderly.{IsPosting, Settled, count}, Run.{System, run_of}}

-- No posting of a in the area is ever in the base of b.
abbrev pub NeverComes : List LinkFile → List ℕ → Address → Address → Type 0
NeverComes files tag a b =
    (events : List RunEvent) (s : System) → Among s (run_of files events).systems → s.file.system ≡ a →
    (m : Filed) → Among m s.history → IsPosting tag m →
    (z : System) → Among z (run_of files events).systems → z.file.system ≡ b → count (key_of m) z.base ≡ 0

-- In each run that settles after a posting of a some system with the area never gets it.
abbrev pub Loses : List LinkFile → List ℕ → Address → Type 0
Loses files tag a =
    (events : List RunEvent) → Settled (run_of files events) tag → (s : System) → Among s (run_of files events).systems → s.file.system ≡ a →
    (m : Filed) → Among m s.history → IsPosting tag m → NeverGets (run_of files events) tag
