-- The possible states of files before the first call.
use Rattle.std.specs.Prelude.{None}
use Rattle.disk_io.specs.Disk.{DiskState}

-- No files. The files that a crash may leave are not known.
abbrev pub no_files : DiskState
no_files = record {
  seen = λ m. None;
  may_leave = λ c. Unit {0};
  moment = 0;
  left_since = λ t c. Unit {0};
  is_named = λ m. ⊥;
  is_flushed = λ m. ⊥;
  is_alone = λ m. ⊥;
  on_disk = λ m named flushed c left. absurd named;
  counts_now = λ t c le left. tt;
  only_now = λ c left. tt;
  is_honest = Unit {0};
}

-- A disk without any correct answer yet.
abbrev pub nothing_known : DiskState
nothing_known = record no_files { is_honest = ⊥ }
