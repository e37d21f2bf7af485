-- The outcomes of messages tossed in order, and their counts.
use Rattle.std.proofs.{Common.{◌≡◌, suc, ◌+◌, Bool, true, false, List, [], ◌∷◌, ◌++◌, length, refl, ap, ◌∙◌, arith, cond}, lemmas.List.Sums.sum_by-append}
use Rattle.std.specs.Prelude.{count_by, option_to_list}
use Rattle.echo_addr.specs.declared.address.Address.{Address}
use Rattle.echo_packet.specs.Message.{Message}
use Rattle.echo_links.specs.Links.{LinkFile}
use Rattle.echo_filed.specs.Filed.{Filed as FiledMessage}
use Rattle.model_steps.specs.declared.outcome.Outcome.TheVariants.{BadTag, Filed, Known, NoArea, NotEcho, NotLinked}
use Rattle.model_steps.specs.{declared.outcome.Outcome.Outcome, Tossing.outcomes, Tossing.toss_outcome, Tossing.tossed, Tossing.tossing}
use Rattle.echo_steps.specs.Tallies.{all_counted, same_outcome, tally_of, tally_with}

counted_more : (p : Outcome → Bool) (all : List Outcome) (o : Outcome) → count_by p (all ++ o ∷ []) ≡ count_by p all + cond (p o) 1 0
counted_more p all o = let sum = sum_by-append (λ x. cond (p x) 1 0) all (o ∷ []) in omega arith

counted_yes : (p : Outcome → Bool) (all : List Outcome) (o : Outcome) → p o ≡ true → count_by p (all ++ o ∷ []) ≡ count_by p all + 1
counted_yes p all o is = counted_more p all o ∙ ap (λ b. count_by p all + cond b 1 0) is

counted_no : (p : Outcome → Bool) (all : List Outcome) (o : Outcome) → p o ≡ false → count_by p (all ++ o ∷ []) ≡ count_by p all
counted_no p all o not = let more = counted_more p all o ∙ ap (λ b. count_by p all + cond b 1 0) not in omega arith

pub tally_of-push : (all : List Outcome) (o : Outcome) → tally_of (all ++ o ∷ []) ≡ tally_with (tally_of all) o
tally_of-push all Filed = grind (arith, counted_yes, counted_no)
tally_of-push all Known = grind (arith, counted_no, counted_yes)
tally_of-push all NotEcho = grind (arith, counted_no, counted_yes)
tally_of-push all BadTag = grind (arith, counted_no, counted_yes)
tally_of-push all NoArea = grind (arith, counted_no, counted_yes)
tally_of-push all NotLinked = grind (arith, counted_no, counted_yes)

counted_front : (p : Outcome → Bool) (o : Outcome) (all : List Outcome) → count_by p (o ∷ all) ≡ cond (p o) 1 0 + count_by p all
counted_front p o all = let sum = sum_by-append (λ x. cond (p x) 1 0) (o ∷ []) all in omega arith

counted_first : (o : Outcome) (all : List Outcome) → all_counted (tally_of (o ∷ all))
    ≡ cond (same_outcome Filed o) 1 0 + (cond (same_outcome Known o) 1 0 + (cond (same_outcome NotEcho o) 1 0 + (cond (same_outcome BadTag o) 1 0
    + (cond (same_outcome NoArea o) 1 0 + cond (same_outcome NotLinked o) 1 0)))) + all_counted (tally_of all)
counted_first o all =
    let filed = counted_front (same_outcome Filed) o all in
    let known = counted_front (same_outcome Known) o all in
    grind (arith, counted_front (same_outcome NotEcho) o all, counted_front (same_outcome BadTag) o all, counted_front (same_outcome NoArea) o all, counted_front (same_outcome NotLinked) o all)

one_outcome : (o : Outcome) → cond (same_outcome Filed o) 1 0 + (cond (same_outcome Known o) 1 0 + (cond (same_outcome NotEcho o) 1 0 + (cond (same_outcome BadTag o) 1 0
    + (cond (same_outcome NoArea o) 1 0 + cond (same_outcome NotLinked o) 1 0)))) ≡ 1
one_outcome Filed = refl
one_outcome Known = refl
one_outcome NotEcho = refl
one_outcome BadTag = refl
one_outcome NoArea = refl
one_outcome NotLinked = refl

pub all_counted-tally_of : (all : List Outcome) → all_counted (tally_of all) ≡ length all
all_counted-tally_of [] = refl
all_counted-tally_of (o ∷ all) = counted_first o all ∙ ap (λ n. n + all_counted (tally_of all)) (one_outcome o) ∙ (let so = all_counted-tally_of all in omega arith)

pub tossed-push : (file : LinkFile) (base : List FiledMessage) (sender : Address) (ms : List Message) (m : Message)
    → tossed file base sender (ms ++ m ∷ []) ≡ tossed file base sender ms ++ option_to_list (tossing file (tossed file base sender ms) sender m)
tossed-push file base sender [] m = refl
tossed-push file base sender (x ∷ ms) m = tossed-push file (base ++ option_to_list (tossing file base sender x)) sender ms m

pub outcomes-push : (file : LinkFile) (base : List FiledMessage) (sender : Address) (ms : List Message) (m : Message)
    → outcomes file base sender (ms ++ m ∷ []) ≡ outcomes file base sender ms ++ toss_outcome file (tossed file base sender ms) sender m ∷ []
outcomes-push file base sender [] m = refl
outcomes-push file base sender (x ∷ ms) m =
    ap (λ all. toss_outcome file base sender x ∷ all) (outcomes-push file (base ++ option_to_list (tossing file base sender x)) sender ms m)

pub length-outcomes : (file : LinkFile) (base : List FiledMessage) (sender : Address) (ms : List Message) → length (outcomes file base sender ms) ≡ length ms
length-outcomes file base sender [] = refl
length-outcomes file base sender (m ∷ ms) = ap suc (length-outcomes file (base ++ option_to_list (tossing file base sender m)) sender ms)
