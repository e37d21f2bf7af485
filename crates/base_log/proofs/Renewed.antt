-- A base folder at rest, in which a call makes other files.
use Rattle.std.proofs.Common.{◌≡◌, inl, ℕ, List, Option, take, sym, ◌∙◌, subst, arith}
use Rattle.disk_io.specs.{Disk.DiskState, Disk.Files, Disk.bytes_in, Steps.ChangesFile, Runs.ChangesAt, Runs.LeavesOnly}
use Rattle.disk_io.proofs.Moments.{no_call, then_call, weaker_run}
use Rattle.base_log.specs.{Names.IsOtherNumber, Names.log_of, Names.messages_of, Names.keys_of, Standing.base_at, AtRest.IsAtRest, Moments.SameOutside, Moments.RepresentsAlone, declared.log.End.End}
use Rattle.base_log.proofs.{Paths.other_than, Rested.rest_same}

module _ (d0 : DiskState) (path : List ℕ) (end : End) (rest : IsAtRest d0 path end) where
  pub record FilesAlone (c : Files) : Type 0 where
    pub log : c (log_of path) ≡ d0.seen (log_of path)
    pub messages : c (messages_of path end.recorded.number) ≡ d0.seen (messages_of path end.recorded.number)
    pub keys : c (keys_of path end.recorded.number) ≡ d0.seen (keys_of path end.recorded.number)
    pub outside : SameOutside path d0 c

  pub alone_first : LeavesOnly d0 d0 FilesAlone
  alone_first = grind (arith, no_call)

  pub alone_changed : {changed unnamed shared : List ℕ → Type 0} (step : Option (List ℕ) → Option (List ℕ) → Type 0) (d e : DiskState) (file : List ℕ) → IsOtherNumber path end.recorded.number file → d.is_named file
      → LeavesOnly d0 d FilesAlone → ChangesAt changed unnamed shared (ChangesFile d file step) d e → LeavesOnly d0 e FilesAlone
  alone_changed step d e file others named run call =
      then_call d0 d e FilesAlone (ChangesFile d file step) run call
      (λ a c was changed. record {
        log = changed.others (log_of path) others.not_log (inl named) ∙ was.log;
        messages = changed.others (messages_of path end.recorded.number) others.not_messages (inl named) ∙ was.messages;
        keys = changed.others (keys_of path end.recorded.number) others.not_keys (inl named) ∙ was.keys;
        outside = λ m out is flushed. changed.others m (other_than path file m others.own out) (inl named) ∙ was.outside m out is flushed;
      })

  pub alone_represented : (c : Files) → FilesAlone c → RepresentsAlone path d0 (base_at d0 path end.recorded) c
  alone_represented c was = record { outside = was.outside; represented = rest_same d0 path end rest c was.log was.messages was.keys }

  pub alone_run : (d : DiskState) → LeavesOnly d0 d FilesAlone → LeavesOnly d0 d (RepresentsAlone path d0 (base_at d0 path end.recorded))
  alone_run d run = weaker_run d0 d FilesAlone (RepresentsAlone path d0 (base_at d0 path end.recorded)) run alone_represented

pub same_base : (d e : DiskState) (path : List ℕ) (end : End) → e.seen (messages_of path end.recorded.number) ≡ d.seen (messages_of path end.recorded.number)
    → e.seen (keys_of path end.recorded.number) ≡ d.seen (keys_of path end.recorded.number) → base_at e path end.recorded ≡ base_at d path end.recorded
same_base d e path end m k = λ i. record { messages = take end.recorded.messages (bytes_in (m i)); keys = take end.recorded.keys (bytes_in (k i)); cursor = end.recorded.cursor; mark = end.recorded.mark }
