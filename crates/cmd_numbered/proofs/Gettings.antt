-- The files that a folder gets, and why it did not get one.
use Rattle.std.proofs.{Common.{◌≡◌, ◌≤◌, ◌+◌, ◌∙◌, ℕ, List, [], ◌∷◌, ◌++◌, Option, Some, None, refl, sym, ap, append_assoc, arith, length}, lemmas.List.{append-nil, length-append}}
use Rattle.{base_folder.proofs.Fetchings.unread_since, cmd_status.specs.declared.status.Status.Status}
use Rattle.cmd_numbered.specs.{Folders.Gets, Numbered.{HasMade, IsStopped, IsUnmade}, declared.{folder.MessageFile.MessageFile, numbering.ExportError.ExportError}}

gets_more : (a b c : Option (List MessageFile)) (first second : List MessageFile) → Gets a b first → Gets b c second → Gets a c (first ++ second)
gets_more None b c first second was is = tt
gets_more (Some before) None c first second was is = absurd was
gets_more (Some before) (Some mid) None first second was is = absurd is
gets_more (Some before) (Some mid) (Some now) first second was is = is ∙ ap (λ (l : List MessageFile). l ++ second) was ∙ append_assoc before first second

pub none_made : (a : Option (List MessageFile)) → HasMade a a 0
none_made None = record { files = []; many = refl; got = tt }
none_made (Some now) = record { files = []; many = refl; got = sym (append-nil now) }

pub one_made : (a b : Option (List MessageFile)) (file : MessageFile) → Gets a b (file ∷ []) → HasMade a b 1
one_made a b file is = record { files = file ∷ []; many = refl; got = is }

pub more_made : (a b c : Option (List MessageFile)) (m n : ℕ) → HasMade a b m → HasMade b c n → HasMade a c (m + n)
more_made a b c m n was is = record {
  files = was.files ++ is.files;
  many = omega (arith, was.many, is.many, length-append was.files is.files);
  got = gets_more a b c was.files is.files was.got is.got;
}

pub no_more_made : (a b c : Option (List MessageFile)) (m : ℕ) → HasMade a b m → Gets b c [] → HasMade a c m
no_more_made a b c m was is = record {
  files = was.files ++ [];
  many = omega (arith, was.many, length-append was.files []);
  got = gets_more a b c was.files [] was.got is;
}

pub unmade_since : (Refused : Status → Type 0) (path : List ℕ) (first before now : ℕ) (why : ExportError) → first ≤ before → IsUnmade Refused path before now why → IsUnmade Refused path first now why
unmade_since Refused path first before now why less is = grind (arith, unread_since)

pub stopped_since : (Refused : Status → Type 0) (path : List ℕ) (first before now : ℕ) (stop : Option ExportError) → first ≤ before → IsStopped Refused path before now stop → IsStopped Refused path first now stop
stopped_since Refused path first before now stop less is = grind (arith, unmade_since)
