-- The faults of a folder, and a folder without faults.
use Rattle.{std.proofs.{Common.{◌≡◌, ◌∙◌, ℕ, Bool, List, length, sym, ap, ⊎_elim}, lemmas.Bool.true≢false}, disk_io.specs.Disk.{Files, bytes_in}}
use Rattle.base_log.specs.{Names.log_of, Log.{last_recorded, opened}, Reading.ReadsAll, Standing.{BaseBytes, Represents}, declared.log.End.End}
use Rattle.{base_log.proofs.{Logs.one_log, Opened.{lost_none, read_log}}, base_folder.specs.Wrong.{IsFolderLog, IsSound, is_foreign}}

pub one_end : (log : List ℕ) (one other : End) → ReadsAll log one → ReadsAll log other → one ≡ other
one_end log one other first next =
    let same : first.reads.bodies ≡ next.reads.bodies = one_log first.reads.bodies next.reads.bodies log (read_log log one first) (read_log log other next) in
    let gate : one.records_len ≡ other.records_len = first.reads.records_len ∙ ap (λ (b : List (List ℕ)). length (opened b)) same ∙ sym next.reads.records_len in
    let recorded : one.recorded ≡ other.recorded = sym first.reads.recorded ∙ ap last_recorded same ∙ next.reads.recorded in
    λ i. record { records_len = gate i; recorded = recorded i }

pub sound_by : (strange : Bool) (path : List ℕ) (files : Files) (end : End) (base : BaseBytes) → IsFolderLog strange (bytes_in (files (log_of path))) end → Represents path base files → IsSound strange path files
sound_by strange path files end base log represented =
    let bytes = bytes_in (files (log_of path)) in
    record {
      folder = λ none.
          ⊎_elim
          (λ foreign. absurd (true≢false (sym foreign.foreign ∙ ap (is_foreign strange (length bytes)) (one_end bytes foreign.end end foreign.reads log.reads) ∙ log.own)))
          (λ lost. lost_none path files base lost represented) none;
      whole = λ n cut. cut.broken.none base represented;
    }
