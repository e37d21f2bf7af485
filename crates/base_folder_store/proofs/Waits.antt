-- The written bytes, and the waiting bytes after them.
use Rattle.std.proofs.Common.{◌≡◌, ◌<◌, ◌≤◌, ◌+◌, ◌-◌, ◌++◌, ℕ, min, List, [], length, take, drop, sym, ap, ◌∙◌, arith, ⊎_elim}
use Rattle.std.proofs.lemmas.List.{append-nil, drop-append-le, drop_all, take-append-le, take_all}
use Rattle.std.proofs.{lemmas.Bool.cases_lt, Math.Seq.drop-append-add, Math.Seq.take-append-add}
use Rattle.disk_io.specs.Disk.{DiskState}
use Rattle.base_log.specs.Standing.{BaseBytes, and_keys, and_messages, base_at}
use Rattle.base_folder_store.specs.{Opened.IsWritten, Opened.held_by, Opened.path_of, declared.folder.Folder.Folder}

nothing_more : (b : BaseBytes) → and_keys (and_messages b []) [] ≡ b
nothing_more b = λ i. record { messages = append-nil b.messages i; keys = append-nil b.keys i; cursor = b.cursor; mark = b.mark }

pub written_held : (d : DiskState) (f : Folder) → IsWritten f → held_by d f ≡ base_at d (path_of f) f.recorded
written_held d f none = (λ i. and_keys (and_messages (base_at d (path_of f) f.recorded) (none.messages i)) (none.keys i)) ∙ nothing_more (base_at d (path_of f) f.recorded)

pub part_across : (xs ys : List ℕ) (n begins ends first last from to : ℕ) → length xs ≡ n → begins ≤ ends → first ≡ min begins n → last ≡ min ends n → from ≡ begins - n → to ≡ ends - n
    → drop first (take last xs) ++ drop from (take to ys) ≡ drop begins (take ends (xs ++ ys))
part_across xs ys n begins ends first last from to long order is_first is_last is_from is_to =
    ⊎_elim
    (λ (h : ends < n).
    let f : first ≡ begins = omega arith in
    let l : last ≡ ends = omega arith in
    let z : from ≡ 0 = omega arith in
    let w : to ≡ 0 = omega arith in
    let inside : ends ≤ length xs = omega arith in
    (λ i. drop (f i) (take (l i) xs) ++ drop (z i) (take (w i) ys))
    ∙ append-nil (drop begins (take ends xs))
    ∙ ap (λ (l : List ℕ). drop begins l) (sym (take-append-le ends xs ys inside)))
    (λ (h : n ≤ ends).
    let l : last ≡ length xs = omega arith in
    let more : ends ≡ length xs + to = omega arith in
    let all : take last xs ≡ xs = ap (λ (m : ℕ). take m xs) l ∙ take_all (length xs) xs (omega arith) in
    let behind : take ends (xs ++ ys) ≡ xs ++ take to ys = ap (λ (m : ℕ). take m (xs ++ ys)) more ∙ take-append-add xs ys to in
    ⊎_elim
    (λ (k : begins < n).
    let f : first ≡ begins = omega arith in
    let z : from ≡ 0 = omega arith in
    let inside : begins ≤ length xs = omega arith in
    (λ i. drop (f i) (all i) ++ drop (z i) (take to ys))
    ∙ sym (drop-append-le begins xs (take to ys) inside)
    ∙ ap (λ (l : List ℕ). drop begins l) (sym behind))
    (λ (k : n ≤ begins).
    let past : length xs ≤ first = omega arith in
    let at : begins ≡ length xs + from = omega arith in
    (λ i. (ap (λ (l : List ℕ). drop first l) all ∙ drop_all first xs past) i ++ drop from (take to ys))
    ∙ sym (drop-append-add xs (take to ys) from)
    ∙ (λ i. drop (sym at i) (sym behind i)))
    (cases_lt begins n))
    (cases_lt ends n)
