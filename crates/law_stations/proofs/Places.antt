-- The places of the systems in a run: an address leads to its system, and files stay.
use Rattle.std.proofs.Common.{◌≡◌, inl, inr, refl, sym, subst, ap, ◌∙◌, ℕ, zero, suc, ◌+◌, arith, not, true, List, [], ◌∷◌, map, Some}
use Rattle.{std.{proofs.lemmas.Bool.{cond-false, cond-true}, specs.List.position_or_len}, echo_addr.specs.declared.address.Address.Address}
use Rattle.{model_graph.specs.Walk.{Among, Different}, echo_links.{specs.Links.same_address, proofs.Addresses.same_address_decides}}
use Rattle.model_run.{specs.{Event.RunEvent, Run.{Run, System, after_events, nth}}, proofs.Lists.{nth-among, yes_or_no, Among-map_to}}
use Rattle.model_run.proofs.{WholeRuns.{along, event-files, files_of}, Targets.{some_same, none_some}}
use Rattle.law_stations.specs.Agreement.{file_address, own_address}

pub place-of : (i : ℕ) (s : System) (a : Address) (all : List System) → Different (map own_address all) → nth i all ≡ Some s → own_address s ≡ a
    → position_or_len (λ (x : System). same_address x.file.system a) all ≡ i
place-of i s a [] apart there named = absurd (none_some there)
place-of zero s a (z ∷ all) apart there named =
    let here : own_address z ≡ a = ap own_address (some_same there) ∙ named in
    let passes : same_address z.file.system a ≡ true = (same_address_decides z.file.system a).1 here in
    cond-false (not (same_address z.file.system a)) (1 + position_or_len (λ (x : System). same_address x.file.system a) all) 0 (ap not passes)
place-of (suc i) s a (z ∷ all) apart there named =
    let rest = place-of i s a all apart.1 there named in
    elim (yes_or_no (same_address z.file.system a)) [
      | inl t ↦
          let same : own_address z ≡ own_address s = (same_address_decides z.file.system a).0 t ∙ sym named in
          let P : Address → Type 0 = λ x. Among x (map own_address all) in
          absurd (apart.0 (subst P (sym same) (Among-map_to own_address s all (nth-among i s all there))))
      | inr f ↦
          let step : position_or_len (λ (x : System). same_address x.file.system a) (z ∷ all) ≡ 1 + position_or_len (λ (x : System). same_address x.file.system a) all =
          cond-true (not (same_address z.file.system a)) (1 + position_or_len (λ (x : System). same_address x.file.system a) all) 0 (ap not f) in
          omega (arith, step, rest)
    ]

pub files-stay : (events : List RunEvent) (run : Run) → files_of (after_events run events) ≡ files_of run
files-stay events run = along (λ r. files_of r ≡ files_of run) (λ r e same. event-files r e ∙ same) events run refl

pub addresses-of : (all : List System) → map own_address all ≡ map file_address (map (λ (s : System). s.file) all)
addresses-of [] = refl
addresses-of (s ∷ all) = ap (λ (xs : List Address). own_address s ∷ xs) (addresses-of all)

pub addresses-stay : (events : List RunEvent) (run : Run) → Different (map own_address run.systems) → Different (map own_address (after_events run events).systems)
addresses-stay events run apart =
    let same = addresses-of (after_events run events).systems ∙ ap (map file_address) (files-stay events run) ∙ sym (addresses-of run.systems) in
    subst Different (sym same) apart
