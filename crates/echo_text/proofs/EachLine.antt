-- The bytes after a word in lines, line by line.
use Rattle.std.proofs.Common.{◌≡◌, ℕ, true, false, List, ◌∷◌, map, ap}
use Rattle.std.proofs.lemmas.Bool.{cond-false, cond-true}
use Rattle.std.specs.List.{filter}
use Rattle.echo_text.specs.{Lines.after_word, Lines.begins, Tail.lists_of}

pub listed_yes : (word line : List ℕ) (more : List (List ℕ)) → begins word line ≡ true → lists_of word (line ∷ more) ≡ after_word word line ∷ lists_of word more
listed_yes word line more is = ap (map (after_word word)) (cond-true (begins word line) (line ∷ filter (begins word) more) (filter (begins word) more) is)

pub listed_no : (word line : List ℕ) (more : List (List ℕ)) → begins word line ≡ false → lists_of word (line ∷ more) ≡ lists_of word more
listed_no word line more isnt = ap (map (after_word word)) (cond-false (begins word line) (line ∷ filter (begins word) more) (filter (begins word) more) isnt)
