use Rattle.std.proofs.{Common.{◌≡◌, ◌≤◌, ◌-◌, ◌++◌, length, take, drop, get_or, ◌∙◌, arith}, lemmas.List.take_rest}
use Rattle.echo_filed.specs.{Stored.after_length, Stored.last_bytes, declared.stored.Version.TheVariants.Second}
use Rattle.base_folder_store.proofs.Plain.{last_in, strings_in, whole_in}
use Rattle.base_folder_store.proofs.front.text_in.Goals as goal

pub returns : goal.returns
returns c = λ s size is.
    let bytes = c.args.bytes.now in
    let small : get_or bytes 0 0 ≤ 1 = omega (arith, c.if-bytes-gt1.false) in
    let whole = whole_in s bytes is small in
    let all : take (length bytes - 27) (drop 27 bytes) ≡ after_length s.to_name ++ (after_length s.from_name ++ (after_length s.subject ++ last_bytes Second s)) = take_rest bytes 27 ∙ strings_in s bytes size is in
    let last : c.in_ok-last.last.now ≡ last_bytes Second s = c.in_ok-last.ensures s.to_name s.from_name s.subject (last_bytes Second s) all in
    (whole, take_rest c.in_ok-last.last.now 4 ∙ last_in s c.in_ok-last.last.now whole last)
