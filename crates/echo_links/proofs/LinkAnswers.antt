-- Bytes are a link file or have one fault, and it is never out of memory.
use Rattle.std.proofs.Common.{◌≡◌, ℕ, ◌+◌, nat_lt, Bool, true, false, cond, List, [], ◌∷◌, length, map, refl, sym, ap, ◌∙◌, Option, Some, None, Result, Ok, Err, arith}
use Rattle.std.specs.{Prelude.is_err, Prelude.⊤, Option.option_or, List.list_any}
use Rattle.echo_addr.specs.Address.{address_in, outcome}
use Rattle.echo_links.specs.LinkLines.{LinksOf, after_first_of, area_fault, file_fault, file_of, first_fault, is_name_line, is_one_address, is_system_line, line_fault, links_fault, name_fault, name_in, system_fault, words}
use Rattle.echo_links.specs.{declared.fault.LinkFault.LinkFault, Links.LinkFile, Links.same_address}
use Rattle.echo_links.specs.declared.fault.LinkFault.TheVariants as fault

abbrev answer_with : List ℕ → Option LinkFault → Result LinkFile LinkFault
answer_with bytes None = Ok (file_of bytes)
answer_with bytes (Some refused) = Err refused

pub link_answer : List ℕ → Result LinkFile LinkFault
link_answer bytes = answer_with bytes (file_fault bytes)

answered_with : (bytes : List ℕ) (o : Option LinkFault) → file_fault bytes ≡ o → LinksOf bytes (answer_with bytes o)
answered_with bytes None e = (e, refl)
answered_with bytes (Some refused) e = e

pub link_answered : (bytes : List ℕ) → LinksOf bytes (link_answer bytes)
unfolding link_answer
link_answered bytes = answered_with bytes (file_fault bytes) refl

pub link_only : (bytes : List ℕ) (other : Result LinkFile LinkFault) → LinksOf bytes other → other ≡ link_answer bytes
unfolding link_answer
link_only bytes (Ok file) h = ap (λ (f : LinkFile). Ok f) h.1 ∙ ap (answer_with bytes) (sym h.0)
link_only bytes (Err refused) h = ap (answer_with bytes) (sym h)

abbrev IsOfLines : Option LinkFault → Type 0
IsOfLines (Some fault.Memory) = ⊥
IsOfLines _ = ⊤

either_way : (b : Bool) (x y : Option LinkFault) → IsOfLines x → IsOfLines y → IsOfLines (cond b x y)
either_way true x y h g = h
either_way false x y h g = g

first_or : (x y : Option LinkFault) → IsOfLines x → IsOfLines y → IsOfLines (option_or x y)
first_or None y h g = g
first_or (Some f) y h g = h

links_lines : (number : ℕ) (before words : List (List ℕ)) → IsOfLines (links_fault number before words)
links_lines number before [] = tt
links_lines number before (word ∷ more) =
    either_way (is_err (outcome word)) _ _ tt
    (either_way (list_any (same_address (address_in word)) (map address_in before)) _ _ tt (links_lines number (word ∷ before) more))

system_lines : (earlier : List (List ℕ)) (number : ℕ) (line : List ℕ) → IsOfLines (system_fault earlier number line)
system_lines earlier number line = either_way (list_any is_system_line earlier) _ _ tt (either_way (is_one_address (after_first_of (words line))) _ _ tt tt)

name_lines : (earlier : List (List ℕ)) (number : ℕ) (line : List ℕ) → IsOfLines (name_fault earlier number line)
name_lines earlier number line = either_way (list_any is_name_line earlier) _ _ tt (either_way (nat_lt 40 (length (name_in line))) _ _ tt tt)

area_lines : (earlier : List (List ℕ)) (number : ℕ) (line : List ℕ) → IsOfLines (area_fault earlier number line)
area_lines earlier number line = grind (arith, either_way, links_lines)

each_line : (earlier : List (List ℕ)) (number : ℕ) (line : List ℕ) → IsOfLines (line_fault earlier number line)
unfolding line_fault
each_line earlier number line = grind (arith, either_way, system_lines, name_lines, area_lines)

all_lines : (earlier : List (List ℕ)) (number : ℕ) (lines : List (List ℕ)) → IsOfLines (first_fault earlier number lines)
all_lines earlier number [] = tt
all_lines earlier number (line ∷ later) =
    first_or (line_fault earlier number line) (first_fault (line ∷ earlier) (number + 1) later) (each_line earlier number line) (all_lines (line ∷ earlier) (number + 1) later)

pub no_memory_fault : (bytes : List ℕ) → LinksOf bytes (Err fault.Memory) → ⊥
unfolding file_fault
no_memory_fault bytes h = grind (arith, first_or, all_lines, either_way)
