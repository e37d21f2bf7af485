-- Packet files are read as one list of packets, and the meaning of a 0 of `check`.
use Rattle.{std.{proofs.Common.{◌≡◌, refl, sym, ℕ, List, [], ◌∷◌, append-nil, Option, Ok}, specs.Prelude.Bool}, cmd_status.specs.Devices.Output}
use Rattle.{cmd_status.specs.{declared.{fault.Fault.Fault, status.Status.TheVariants.Good}, Inputs.AreLinkFiles}, echo_links.specs.Links.{LinkFile, upper}}
use Rattle.{model_steps.specs.declared.packet.Packet.Packet, model_run.specs.Tidy.Tidy, cmd_check.specs.Checking.CheckAnswers}
use Rattle.law_stations.{specs.{Agreement.{IsPacketFile, limits_of}, InOrder.ReadsAs, Nets.Paired}, proofs.Readings.one-packet}

pub reads-once : (bytes : List ℕ) (p q : Packet) → ReadsAs bytes p → ReadsAs bytes q → q ≡ p
reads-once bytes p q (a, is) (b, other) =
    let one = one-packet a b p.header q.header p.messages q.messages bytes bytes [] is other (sym (append-nil bytes)) in
    λ i. record { header = one.0 i; messages = one.1 i }

pub all-read : (files : List (List ℕ)) (ps qs : List Packet) → Paired IsPacketFile files ps → Paired ReadsAs files qs → qs ≡ ps
all-read [] [] [] is other = refl
all-read [] [] (q ∷ qs) is other = absurd other
all-read [] (p ∷ ps) qs is other = absurd is
all-read (bytes ∷ files) [] qs is other = absurd is
all-read (bytes ∷ files) (p ∷ ps) [] is other = absurd other
all-read (bytes ∷ files) (p ∷ ps) (q ∷ qs) is other =
    let first = reads-once bytes p q (limits_of bytes, is.0.packet) other.0 in
    let later = all-read files ps qs is.1 other.1 in
    λ i. first i ∷ later i

-- the meaning of a 0 of `check`
pub checked : (nodelist : Option (List ℕ)) (more : Bool) (tag : List ℕ) (links : List (List ℕ)) (stopped : Option Fault) (old new : Output)
    → CheckAnswers nodelist more tag links stopped old new (Ok Good) → (files : List LinkFile) × AreLinkFiles links files × Tidy files (upper tag)
checked nodelist more tag links stopped old new so =
    let c = so.right.0 in
    (c.files, c.are_files, c.tidy.0 refl)
