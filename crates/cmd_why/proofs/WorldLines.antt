-- The printed form of a replayed net.
use Rattle.std.proofs.Common.{◌≡◌, ℕ, ◌+◌, ◌<◌, List, [], ◌∷◌, ◌++◌, length, map, take, get_or, sym, ap, ◌∙◌, arith, append_assoc, append-nil, inl, inr, Bool, Some}
use Rattle.std.{proofs.{Math.ListN.get_or-map, lemmas.{List.{length-map, length-take-le, take_more}, Option.slice_get_cases}}, specs.List.flat_map}
use Rattle.{echo_links.specs.Links.LinkFile, model_run.specs.{Run.{Run, System, nth}, World.{is_settled, undelivered}}}
use Rattle.{echo_net.proofs.Exports.nth-slice_get, cmd_why.specs.Replayed.{area_state_line, packets_line, replay_lines, settled_line, systems_from}}

-- one more system
systems_last : (run : Run) (i : ℕ) (files : List LinkFile) (file : LinkFile)
    → systems_from run i (files ++ file ∷ []) ≡ systems_from run i files ++ flat_map (area_state_line run (i + length files) file.system) file.areas
systems_last run i [] file =
    append-nil (flat_map (area_state_line run i file.system) file.areas) ∙ ap (λ n. flat_map (area_state_line run n file.system) file.areas) (let e : i ≡ i + 0 = omega arith in e)
systems_last run i (first ∷ files) file =
    ap (λ t. flat_map (area_state_line run i first.system) first.areas ++ t) (systems_last run (i + 1) files file)
    ∙ sym (append_assoc (flat_map (area_state_line run i first.system) first.areas) (systems_from run (i + 1) files) (flat_map (area_state_line run (i + 1 + length files) file.system) file.areas))
    ∙ ap (λ n. (flat_map (area_state_line run i first.system) first.areas ++ systems_from run (i + 1) files) ++ flat_map (area_state_line run n file.system) file.areas) (omega arith)

pub systems_more : (run : Run) (i : ℕ) (first old new : List ℕ) → i < length run.systems
    → ((s : System) → nth i run.systems ≡ Some s → new ≡ old ++ flat_map (area_state_line run i s.file.system) s.file.areas)
    → old ≡ first ++ systems_from run 0 (take i (map (λ (s : System). s.file) run.systems))
    → new ≡ first ++ systems_from run 0 (take (i + 1) (map (λ (s : System). s.file) run.systems))
systems_more run i first old new inside added so = elim (slice_get_cases run.systems i).1 [
  | inl (s, below, got, read) ↦
      let files : List LinkFile = map (λ (s : System). s.file) run.systems in
      let long : i < length files = (let e = length-map run.systems (λ (s : System). s.file) in omega (arith, e, inside)) in
      let here : get_or files i s.file ≡ s.file = get_or-map (λ (s : System). s.file) run.systems i s ∙ ap (λ (t : System). t.file) read in
      let count : 0 + length (take i files) ≡ i = (let e = length-take-le i files (omega (arith, long)) in omega (arith, e)) in
      added s (sym (nth-slice_get i run.systems) ∙ got) ∙ ap (λ l. l ++ flat_map (area_state_line run i s.file.system) s.file.areas) so
      ∙ append_assoc first (systems_from run 0 (take i files)) (flat_map (area_state_line run i s.file.system) s.file.areas)
      ∙ ap (λ t. first ++ t)
      (ap (λ n. systems_from run 0 (take i files) ++ flat_map (area_state_line run n s.file.system) s.file.areas) (sym count)
      ∙ sym (systems_last run 0 (take i files) s.file)
      ∙ ap (systems_from run 0) (ap (λ y. take i files ++ y ∷ []) (sym here) ∙ sym (take_more files i s.file long)))
  | inr past ↦ absurd (let less = past.0 in omega (arith, less, inside))
]

-- the lines of a world, of three parts
pub world_lines : (run : Run) (files : List LinkFile) (packets missing : ℕ) (settled : Bool) (old a b text new : List ℕ) → a ≡ old ++ systems_from run 0 files
    → b ≡ a ++ packets_line packets missing → new ≡ b ++ text → packets ≡ length run.packets → missing ≡ undelivered run → settled ≡ is_settled run
    → text ≡ settled_line settled → new ≡ old ++ replay_lines files run
world_lines run files packets missing settled old a b text new a-is b-is new-is packets-are missing-are settled-is text-is = grind (arith, append_assoc)
