-- Reading link files in order.
use Rattle.std.proofs.Common.{◌≡◌, ℕ, ◌+◌, ◌<◌, ◌⊎◌, inl, inr, List, [], ◌∷◌, ◌++◌, length, take, drop, get_or, Result, Ok, Err, refl, sym, ap, subst, ◌∙◌, suc, add-one, drop-cons}
use Rattle.std.proofs.lemmas.List.{take-append-drop, take_more}
use Rattle.echo_links.specs.{declared.fault.LinkFault.LinkFault, Links.LinkFile, LinkLines.LinksOf}
use Rattle.echo_links.specs.declared.fault.LinkFault.TheVariants as link
use Rattle.cmd_status.specs.{declared.fault.Fault.TheVariants.Link, Ended.IsOutOfMemory, Inputs.AreLinkFiles, Inputs.IsLinkFault}

one_more : (inputs : List (List ℕ)) (files : List LinkFile) (bytes : List ℕ) (file : LinkFile) → AreLinkFiles inputs files → LinksOf bytes (Ok file)
    → AreLinkFiles (inputs ++ bytes ∷ []) (files ++ file ∷ [])
one_more [] [] bytes file are is = (is, tt)
one_more [] (f ∷ fs) bytes file are is = absurd are
one_more (b ∷ bs) [] bytes file are is = absurd are
one_more (b ∷ bs) (f ∷ fs) bytes file are is = (are.0, one_more bs fs bytes file are.1 is)

pub read_more : (inputs : List (List ℕ)) (i : ℕ) (bytes : List ℕ) (files : List LinkFile) (file : LinkFile) → i < length inputs → bytes ≡ get_or inputs i bytes
    → AreLinkFiles (take i inputs) files → (let read : Result LinkFile LinkFault = Ok file in read ≡ Err link.Memory) ⊎ LinksOf bytes (Ok file)
    → AreLinkFiles (take (i + 1) inputs) (files ++ file ∷ [])
read_more inputs i bytes files file inside is are (inl memory) = absurd cc
read_more inputs i bytes files file inside is are (inr read) =
    subst (λ (t : List (List ℕ)). AreLinkFiles t (files ++ file ∷ []))
    (sym (take_more inputs i bytes inside ∙ ap (λ b. take i inputs ++ b ∷ []) (sym is)))
    (one_more (take i inputs) files bytes file are read)

cut_at : (inputs : List (List ℕ)) (i : ℕ) (bytes : List ℕ) → i < length inputs → bytes ≡ get_or inputs i bytes → inputs ≡ take i inputs ++ bytes ∷ drop (i + 1) inputs
cut_at inputs i bytes inside is =
    sym (take-append-drop i inputs)
    ∙ ap (λ t. take i inputs ++ t) (rw add-one (drop-cons inputs i bytes inside ∙ ap (λ b. b ∷ drop (suc i) inputs) (sym is)))

pub link_refused : (inputs : List (List ℕ)) (i : ℕ) (bytes : List ℕ) (files : List LinkFile) (why : LinkFault) → i < length inputs → bytes ≡ get_or inputs i bytes
    → AreLinkFiles (take i inputs) files → (let read : Result LinkFile LinkFault = Err why in read ≡ Err link.Memory) ⊎ LinksOf bytes (Err why)
    → IsOutOfMemory (Link why) ⊎ IsLinkFault inputs (Link why)
link_refused inputs i bytes files why inside is are (inl memory) =
    let same : link.Memory ≡ why = cc in inl (subst (λ (f : LinkFault). IsOutOfMemory (Link f)) same tt)
link_refused inputs i bytes files why inside is are (inr refused) = inr (record {
  before = take i inputs;
  bytes = bytes;
  later = drop (i + 1) inputs;
  whole = cut_at inputs i bytes inside is;
  files = files;
  good = are;
  why = why;
  is = refl;
  of_bytes = refused;
})
