-- A staging path is in the folder of its path.
use Rattle.std.proofs.Common.{◌≡◌, ◌≢◌, ◌∙◌, ◌<◌, ◌^◌, ℕ, List, ◌++◌, All, codes, length, sym, subst, ap, arith, append_assoc, length-append}
use Rattle.{std.{proofs.lemmas.List.Elements.{All-append, All-from_recursion}, specs.Fmt.decimal}, echo_addr.specs.declared.address.Address.Address}
use Rattle.{echo_addr.{specs.Address.IsAddress, proofs.Decimals.{IsDigit, digits_of_decimal}}, echo_filed.proofs.Choices.all_weaker, disk_io.specs.Disk.IsIn}
use Rattle.disk_atomic.specs.StagingPaths.{dotted, staging_path}

-- a byte that is no slash
abbrev pub IsPlain : ℕ → Type 0
IsPlain b = b ≢ 47

pub plain_decimal : (n : ℕ) → n < 2 ^ 64 → All IsPlain (decimal n)
plain_decimal n small =
    All-from_recursion IsPlain (decimal n) (all_weaker IsDigit IsPlain (λ b h. let low = h.0 in let high = h.1 in λ e. omega arith) (decimal n) (digits_of_decimal n small))

pub plain_dot : All IsPlain (codes ".")
plain_dot = All-from_recursion IsPlain (codes ".") ((λ e. omega (arith, e)), tt)

pub plain_dotted : (a : Address) → a.zone < 2 ^ 64 → a.net < 2 ^ 64 → a.node < 2 ^ 64 → All IsPlain (dotted a)
plain_dotted a zone net node =
    All-append IsPlain (decimal a.zone) _ (plain_decimal a.zone zone)
    (All-append IsPlain (codes ".") _ plain_dot (All-append IsPlain (decimal a.net) _ (plain_decimal a.net net) (All-append IsPlain (codes ".") _ plain_dot (plain_decimal a.node node))))

-- the dotted name of a system in range
pub plain_address : (a b : Address) → a ≡ b → IsAddress b → All IsPlain (dotted a)
plain_address a b same is =
    let zone = is.zone.1 in
    let net = is.net.1 in
    let node = is.node.1 in
    subst (λ (x : Address). All IsPlain (dotted x)) (sym same) (plain_dotted b (omega arith) (omega arith) (omega arith))

pub plain_front : All IsPlain (codes ".~")
plain_front = All-from_recursion IsPlain (codes ".~") ((λ e. omega (arith, e)), ((λ e. omega (arith, e)), tt))

pub plain_end : All IsPlain (codes "~.new")
plain_end =
    All-from_recursion IsPlain (codes "~.new")
    ((λ e. omega (arith, e)), ((λ e. omega (arith, e)), ((λ e. omega (arith, e)), ((λ e. omega (arith, e)), ((λ e. omega (arith, e)), tt)))))

pub staging_in : (folder path own : List ℕ) → IsIn folder path → All IsPlain own → IsIn folder (staging_path path own)
staging_in folder path own is plain =
    let more = codes ".~" ++ (own ++ codes "~.new") in
    record {
      name = is.name ++ more;
      parts = ap (λ (l : List ℕ). l ++ more) is.parts ∙ append_assoc folder is.name more;
      plain = All-append IsPlain is.name more is.plain (All-append IsPlain (codes ".~") _ plain_front (All-append IsPlain own _ plain plain_end));
    }

pub staging_other : (path own : List ℕ) → staging_path path own ≢ path
staging_other path own e =
    let more = own ++ codes "~.new" in
    omega (arith, ap length e, length-append path (codes ".~" ++ more), length-append (codes ".~") more)
