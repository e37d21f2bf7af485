-- A path and each longer path that begins with it have the same folder.
use Rattle.std.proofs.{Common.◌≢◌, Common.◌++◌, Common.◌∙◌, Common.List, Common.ap, Common.ℕ, lemmas.List.append_assoc, lemmas.List.Elements.All-append}
use Rattle.disk_io.specs.Disk.{IsIn}

pub in_folder_of : (folder path m : List ℕ) → IsIn folder path → IsIn path m → IsIn folder m
in_folder_of folder path m of is = record {
  name = of.name ++ is.name;
  parts = is.parts ∙ ap (λ (l : List ℕ). l ++ is.name) of.parts ∙ append_assoc folder of.name is.name;
  plain = All-append (λ b. b ≢ 47) of.name is.name of.plain is.plain;
}
