use Rattle.{std.proofs.Common.{◌≡◌, ◌∙◌, ℕ, List, [], length, false, inr, refl, sym, ap, subst, arith, lit<}, echo_addr.specs.declared.address.Address.Address}
use Rattle.{disk_io.specs.Disk.{Files, bytes_in}, base_log.specs.{Log.{no_mark, nothing_recorded}, Names.{log_of, messages_of, keys_of}, Reading.ReadsAll}}
use Rattle.base_log.{specs.{Standing.{BaseBytes, IsNew, Represents}, declared.log.{End.End, CommitRecord.CommitRecord}}, proofs.Empty.new_log}
use Rattle.{base_log.proofs.Paths.{log_in, messages_in, keys_in}, base_file.specs.Base.Base, base_folder_store.specs.Held.{HoldsBase, RepresentsBase}}
use Rattle.base_folder.{specs.{Ours.IsOfOther, Unopened.HaveRoom, Wrong.{HasNoFiles, IsFolderLog, IsSound}}, proofs.Wrongs.{one_end, sound_by}}

no_bytes : BaseBytes
no_bytes = record { messages = []; keys = []; cursor = 0; mark = no_mark }

no_messages : Base
no_messages = record { messages = []; cursor = 0 }

no_end : End
no_end = record { records_len = 0; recorded = nothing_recorded }

nothing_read : ReadsAll [] no_end
unfolding no_end
nothing_read = grind arith

no_log : (path : List ℕ) (files : Files) → HasNoFiles path files → bytes_in (files (log_of path)) ≡ []
no_log path files none = ap bytes_in (none (log_of path) (log_in path))

nothing_represented : (path : List ℕ) (files : Files) → HasNoFiles path files → Represents path no_bytes files
unfolding no_bytes
nothing_represented path files none =
    let log = no_log path files none in
    let new : IsNew path files = record {
      log = omega (arith, ap length log);
      empty = record { messages = λ n lt. ap bytes_in (none (messages_of path n) (messages_in path n)); keys = λ n lt. ap bytes_in (none (keys_of path n) (keys_in path n)) };
    } in
    record {
      bodies = [];
      log = new_log path files new;
      ended = inr new;
      there = tt;
      recorded_base = record { messages_long = refl; keys_long = refl; cursor = refl; mark = refl; digit = lit< tt; messages = refl; keys = refl };
    }

nothing_held : (keyed : ℕ → ℕ → List ℕ → ℕ) → HaveRoom keyed → HoldsBase keyed no_bytes no_messages
unfolding no_bytes no_messages
nothing_held keyed fits = grind arith

pub empty_base : (keyed : ℕ → ℕ → List ℕ → ℕ) (path : List ℕ) (files : Files) → HaveRoom keyed → HasNoFiles path files → RepresentsBase keyed path (record { messages = []; cursor = 0 }) files
unfolding no_messages
empty_base keyed path files fits none = record { bytes = no_bytes; represented = nothing_represented path files none; holds = nothing_held keyed fits }

empty_folder : (log : List ℕ) → log ≡ [] → IsFolderLog false log no_end
unfolding no_end
empty_folder log none = subst (λ (l : List ℕ). IsFolderLog false l no_end) (sym none) (record { reads = nothing_read; own = refl })

pub empty_sound : (path : List ℕ) (files : Files) → HasNoFiles path files → IsSound false path files
unfolding no_end
empty_sound path files none = sound_by false path files no_end no_bytes (empty_folder (bytes_in (files (log_of path))) (no_log path files none)) (nothing_represented path files none)

pub empty_nobody : (own address : Address) (path : List ℕ) (files : Files) → HasNoFiles path files → IsOfOther own false path files address → ⊥
unfolding no_end
empty_nobody own address path files none of =
    let log = bytes_in (files (log_of path)) in
    let end : of.log.end ≡ no_end = one_end log of.log.end no_end of.log.log.reads (empty_folder log (no_log path files none)).reads in
    of.mark.claimed (ap (λ (t : CommitRecord). t.mark.owner) (sym of.log.is) ∙ ap (λ (e : End). e.recorded.mark.owner) end)
