-- A step that a crash cut off before it began.
use Rattle.std.proofs.{Common.ℕ, Common.List, Common.Option, Common.refl, Common.arith, lemmas.List.take_min}
use Rattle.disk_io.specs.{Disk.DiskState, Disk.Files, Disk.bytes_in, Steps.TornWrite, Steps.ChangesFile}

pub TornWrite-none : (at count : ℕ) (file : Option (List ℕ)) → TornWrite at count file file
TornWrite-none at count file = record {
  there = λ is. is;
  before = take_min at (bytes_in file);
  behind = refl;
  no_shorter = omega arith;
  no_longer = omega arith;
}

pub ChangesFile-none : (old : DiskState) (path : List ℕ) (step : Option (List ℕ) → Option (List ℕ) → Type 0) → ((file : Option (List ℕ)) → step file file) → (c : Files) → ChangesFile old path step c c
ChangesFile-none old path step none c = record { others = λ m other named. refl; within = λ named. none (c path) }
