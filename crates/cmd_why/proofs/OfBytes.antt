-- Link files that are read one after another.
use Rattle.std.proofs.Common.{◌≡◌, ◌⊎◌, ◌∙◌, inl, inr, sym, subst, ap, ℕ, zero, suc, ◌+◌, ◌<◌, arith, List, [], ◌∷◌, ◌++◌, length, get_or, take, Some}
use Rattle.{std.specs.Prelude.{Result, Ok, Err}, echo_links.specs.{declared.fault.LinkFault.LinkFault, LinkLines.{LinksOf, file_of}, Links.{IsFile, LinkFile}}}
use Rattle.{model_run.specs.{Fits.FilesFit, Run.nth}, cmd_why.{specs.Sources.files_of, proofs.Counting.nth-read}}
use Rattle.echo_links.specs.declared.fault.LinkFault.TheVariants as fault

pub of_bytes : (bytes : List ℕ) (file : LinkFile) → (let read : Result LinkFile LinkFault = Ok file in (read ≡ Err fault.Memory) ⊎ LinksOf bytes read) → LinksOf bytes (Ok file)
of_bytes bytes file h = elim h [ inl memory ↦ absurd (cc) | inr is ↦ is ]

next_file : (i : ℕ) (source : List ℕ) (sources : List (List ℕ)) → nth i sources ≡ Some source →
    files_of (take (suc i) sources) ≡ files_of (take i sources) ++ file_of source ∷ []
next_file i source [] h = absurd (cc)
next_file zero source (x ∷ sources) h =
    let same : x ≡ source = cc in
    ap (λ (y : List ℕ). file_of y ∷ []) same
next_file (suc i) source (x ∷ sources) h = ap (λ (files : List LinkFile). file_of x ∷ files) (next_file i source sources h)

pub read_more : (sources : List (List ℕ)) (files more : List LinkFile) (file : LinkFile) (i next : ℕ) (source : List ℕ) → next ≡ i + 1 → more ≡ files ++ file ∷ [] →
    file ≡ file_of source → i < length sources → source ≡ get_or sources i source → files ≡ files_of (take i sources) → more ≡ files_of (take next sources)
read_more sources files more file i next source e added is within there so_far =
    let e_suc : next ≡ suc i = omega (arith, e) in
    added ∙ (ap (λ (f : LinkFile). files ++ f ∷ []) is ∙ (ap (λ (fs : List LinkFile). fs ++ file_of source ∷ []) so_far
    ∙ (sym (next_file i source sources (nth-read i source sources within there)) ∙ ap (λ (n : ℕ). files_of (take n sources)) (sym e_suc))))
