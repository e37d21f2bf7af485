-- A net with one file for each address: the system of an address, and the links that it lists.
use Rattle.std.{proofs.Common.{◌≡◌, refl, sym, subst, ap, ◌∙◌, ℕ, zero, suc, IsTrue, List, [], ◌∷◌, map, Some, arith}, specs.Prelude.true}
use Rattle.echo_addr.specs.declared.address.Address.{Address}
use Rattle.model_graph.specs.Walk.{Among, Different}
use Rattle.echo_links.{specs.Links.{LinkFile, has_area, is_link, links_of}, proofs.Addresses.same_address_decides}
use Rattle.model_run.{specs.{Event.RunEvent, Run.{System, nth, run_of}, Tidy.{Carries, lists}, LawsOfRuns.LawsOfRuns}, proofs.{Lists.{and-from, and-parts, any-from, any-to, nth-among, Among-map_to}, HarmLists.nth-map, Resting.file-there, HarmSteps.run-files, Targets.{some_same, none_some}, Areas.{one_name as different-same, link-area, link-among}}}

pub different-index : {X Y : Type 0} (g : X → Y) (xs : List X) → Different (map g xs) → (i j : ℕ) (x y : X) → nth i xs ≡ Some x → nth j xs ≡ Some y → g x ≡ g y → i ≡ j
different-index {X} {Y} g [] d i j x y at_i at_j e = absurd (none_some at_i)
different-index g (z ∷ xs) d zero zero x y at_i at_j e = refl
different-index {X} {Y} g (z ∷ xs) d zero (suc j) x y at_i at_j e =
    let P : Y → Type 0 = λ w. Among w (map g xs) in
    absurd (d.0 (subst P (sym e ∙ ap g (sym (some_same at_i))) (Among-map_to g y xs (nth-among j y xs at_j))))
different-index {X} {Y} g (z ∷ xs) d (suc i) zero x y at_i at_j e =
    absurd (d.0 (rw (e ∙ ap g (sym (some_same at_j))) at (Among-map_to g x xs (nth-among i x xs at_i))))
different-index g (z ∷ xs) d (suc i) (suc j) x y at_i at_j e = ap suc (different-index g xs d.1 i j x y at_i at_j e)

pub file-carries : (files : List LinkFile) (tag : List ℕ) (file : LinkFile) → Among file files → has_area file tag ≡ true → Carries files tag file.system
file-carries files tag file h area = grind (arith, any-to, and-from, same_address_decides)

pub file-lists : (files : List LinkFile) (tag : List ℕ) (file : LinkFile) → Among file files → (a : Address) → is_link file tag a ≡ true → IsTrue (lists files tag file.system a)
file-lists files tag file h a link = grind (arith, any-to, and-from, same_address_decides)

pub carrier-file : (files : List LinkFile) (tag : List ℕ) (a : Address) → Carries files tag a →
    (file : LinkFile) × Among file files × (file.system ≡ a) × (has_area file tag ≡ true)
carrier-file files tag a h = grind (arith, any-from, and-parts, same_address_decides)

pub lists-file : (files : List LinkFile) (tag : List ℕ) (a b : Address) → IsTrue (lists files tag a b) →
    (file : LinkFile) × Among file files × (file.system ≡ a) × (is_link file tag b ≡ true)
lists-file files tag a b h = grind (arith, any-from, and-parts, same_address_decides)

module _ (files : List LinkFile) (known : LawsOfRuns files) (one_file : Different (map (λ (file : LinkFile). file.system) files)) (events : List RunEvent) where
  pub one-system : (i j : ℕ) (s z : System) → nth i (run_of files events).systems ≡ Some s → nth j (run_of files events).systems ≡ Some z →
      s.file.system ≡ z.file.system → i ≡ j
  one-system i j s z at_i at_j e =
      let ss = (run_of files events).systems in
      different-index (λ (file : LinkFile). file.system) (map (λ (t : System). t.file) ss) (rw (← (run-files files events)) at one_file) i j s.file z.file
      (nth-map (λ (t : System). t.file) i s ss at_i) (nth-map (λ (t : System). t.file) j z ss at_j) e

  pub lists-link : (tag : List ℕ) (s : System) → Among s (run_of files events).systems → (b : Address) → IsTrue (lists files tag s.file.system b) →
      Among b (links_of s.file tag)
  lists-link tag s h b link = grind (arith, lists-file, different-same, file-there, link-among)

pub lister-carries : (files : List LinkFile) (tag : List ℕ) (a b : Address) → IsTrue (lists files tag a b) → Carries files tag a
lister-carries files tag a b link = grind (arith, lists-file, file-carries, link-area, link-among)
