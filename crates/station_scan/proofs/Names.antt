-- Names of packets, and paths that are not the same.
use Rattle.std.proofs.Common.{◌≡◌, ◌≢◌, ◌∙◌, ◌+◌, ◌<◌, ◌^◌, ◌==◌, ℕ, false, true≢false, List, [], ◌∷◌, ◌++◌, ap, arith, append_assoc, codes, decimal, get_or, length, length-append, refl, sym}
use Rattle.{std.proofs.lemmas.{Bool.eqb-false, Fmt.decimal_injective, List.Elements.{All-append, All-from_recursion}}, station.proofs.StagingPaths.staging_in}
use Rattle.std.{proofs.lemmas.List.{append-nil, append_cancel_left, append_cancel_right, get_or-append-add}, specs.Prelude.{All, AllPairs}}
use Rattle.{std.specs.List.{AllByRecursion, flat_map}, echo_addr.{specs.declared.address.Address.Address, proofs.Decimals.{IsDigit, digits_of_decimal}}}
use Rattle.echo_filed.{specs.Sets.{address_before, address_set}, proofs.{Choices.all_weaker, Orders.address_order, Sets.{ascending_pairs, set_ascending}}}
use Rattle.{echo_links.specs.Links.{LinkFile, links_of}, echo_steps.specs.Counts.link_set, cmd_store.specs.PacketLines.packet_name}
use Rattle.{station_scan.specs.Sending.IsSized, disk_io.specs.Disk.IsIn, disk_atomic.specs.{StagingPaths.staging_path, ListStaged.IsNameByte}}

-- the end of a staging path
abbrev pub ending : List ℕ → List ℕ
ending own = codes ".~" ++ (own ++ codes "~.new")

-- a name has no tilde, so it is no staging path
pub not_staging : (own n k : List ℕ) → All IsNameByte n → n ≢ k ++ ending own
not_staging own n k name e =
    let at : get_or n (length k + 1) 0 ≡ 126 = ap (λ (l : List ℕ). get_or l (length k + 1) 0) e ∙ get_or-append-add k (ending own) 1 0 in
    let lt : length k + 1 < length n = omega (arith, ap length e, length-append k (ending own), length-append (codes ".~") (own ++ codes "~.new")) in
    (name (length k + 1) 0 lt).no_tilde at

-- two packets of one folder with two paths have no path in common
pub record AreFourApart (folder own n k : List ℕ) : Type 0 where
  pub paths : folder ++ n ≢ folder ++ k
  pub stagings : staging_path (folder ++ n) own ≢ staging_path (folder ++ k) own
  pub path_staging_other : folder ++ n ≢ staging_path (folder ++ k) own
  pub staging_not_path : staging_path (folder ++ n) own ≢ folder ++ k

pub four_apart : (folder own n k : List ℕ) → All IsNameByte n → All IsNameByte k → folder ++ n ≢ folder ++ k → AreFourApart folder own n k
four_apart folder own n k is_n is_k other = record {
  paths = other;
  stagings = λ e. other (append_cancel_right (folder ++ n) (folder ++ k) (ending own) e);
  path_staging_other = λ e. not_staging own n k is_n (append_cancel_left folder n (k ++ ending own) (e ∙ append_assoc folder k (ending own)));
  staging_not_path = λ e. not_staging own k n is_k (append_cancel_left folder k (n ++ ending own) (sym e ∙ append_assoc folder n (ending own)));
}

-- the path that is tried is in the folder, and no packet's
pub trial_in : (folder own : List ℕ) → All (λ b. b ≢ 47) own → IsIn folder (staging_path folder own)
trial_in folder own plain = staging_in folder folder own (record { name = []; parts = sym (append-nil folder); plain = λ k d lt. absurd (omega (arith, lt)) }) plain

module _ (folder own n : List ℕ) where
  pub trial_no_path : All IsNameByte n → staging_path folder own ≢ folder ++ n
  trial_no_path plain e = not_staging own n [] plain (append_cancel_left folder n (ending own) (sym e))

  pub trial_not_staging : n ≢ [] → staging_path folder own ≢ staging_path (folder ++ n) own
  trial_not_staging some e = some (append_cancel_left folder n [] (sym (append_cancel_right folder (folder ++ n) (ending own) e) ∙ sym (append-nil folder)))

-- a packet with this name is in the folder, and its staging file too
pub name_in : (folder n : List ℕ) → All IsNameByte n → IsIn folder (folder ++ n)
name_in folder n is = record { name = n; parts = refl; plain = λ k d lt. (is k d lt).no_slash }

pub name_staging_in : (folder own n : List ℕ) → All IsNameByte n → All (λ b. b ≢ 47) own → IsIn folder (staging_path (folder ++ n) own)
name_staging_in folder own n is plain = staging_in folder (folder ++ n) own (name_in folder n is) plain

-- ---- names of packets

other_byte : (b : ℕ) → (b == 47) ≡ false → (b == 126) ≡ false → IsNameByte b
other_byte b slash tilde = record { no_slash = eqb-false b 47 slash; no_tilde = eqb-false b 126 tilde }

plain_digits : (n : ℕ) → n < 2 ^ 64 → All IsNameByte (decimal n)
plain_digits n small = grind (arith, All-from_recursion, all_weaker, digits_of_decimal)

plain_dot : All IsNameByte (codes ".")
plain_dot = All-from_recursion IsNameByte (codes ".") (other_byte 46 refl refl, tt)

plain_end : All IsNameByte (codes ".pkt")
plain_end = All-from_recursion IsNameByte (codes ".pkt") (other_byte 46 refl refl, (other_byte 112 refl refl, (other_byte 107 refl refl, (other_byte 116 refl refl, tt))))

pub name_plain : (a : Address) (n : ℕ) → IsSized a → n < 2 ^ 64 → All IsNameByte (packet_name a n)
name_plain a n sized small =
    let zone = sized.zone in
    let net = sized.net in
    let node = sized.node in
    All-append IsNameByte (decimal a.zone) _ (plain_digits a.zone (omega arith))
    (All-append IsNameByte (codes ".") _ plain_dot
    (All-append IsNameByte (decimal a.net) _ (plain_digits a.net (omega arith))
    (All-append IsNameByte (codes ".") _ plain_dot
    (All-append IsNameByte (decimal a.node) _ (plain_digits a.node (omega arith))
    (All-append IsNameByte (codes ".") _ plain_dot (All-append IsNameByte (decimal n) _ (plain_digits n small) plain_end))))))

pub name_some : (a : Address) (n : ℕ) → packet_name a n ≢ []
name_some a n e =
    let rest = decimal a.net ++ (codes "." ++ (decimal a.node ++ (codes "." ++ (decimal n ++ codes ".pkt")))) in
    omega (arith, ap length e, length-append (decimal a.zone) (codes "." ++ rest))

-- two texts without a dot, each before a dot
dot_parts : (xs ys r s : List ℕ) → AllByRecursion (λ b. b ≢ 46) xs → AllByRecursion (λ b. b ≢ 46) ys → xs ++ 46 ∷ r ≡ ys ++ 46 ∷ s → (xs ≡ ys) × (r ≡ s)
dot_parts [] [] r s p q e = (refl, cc e)
dot_parts [] (y ∷ ys) r s p q e = absurd (q.0 (cc e))
dot_parts (x ∷ xs) [] r s p q e = absurd (p.0 (cc e))
dot_parts (x ∷ xs) (y ∷ ys) r s p q e =
    let first : x ≡ y = cc e in
    let more : xs ++ 46 ∷ r ≡ ys ++ 46 ∷ s = cc e in
    let rest = dot_parts xs ys r s p.1 q.1 more in
    (λ i. first i ∷ rest.0 i, rest.1)

number_parts : (m n : ℕ) (r s : List ℕ) → m < 2 ^ 16 → n < 2 ^ 16 → decimal m ++ (codes "." ++ r) ≡ decimal n ++ (codes "." ++ s) → (m ≡ n) × (r ≡ s)
number_parts m n r s low high e =
    let small : m < 2 ^ 64 = omega arith in
    let small_too : n < 2 ^ 64 = omega arith in
    let no_dot = λ (k : ℕ) (lt : k < 2 ^ 64). all_weaker IsDigit (λ b. b ≢ 46) (λ b h. let least = h.0 in λ is. omega arith) (decimal k) (digits_of_decimal k lt) in
    let parts = dot_parts (decimal m) (decimal n) r s (no_dot m small) (no_dot n small_too) e in
    (decimal_injective m n small small_too parts.0, parts.1)

-- packets for two addresses have two names
pub name_other : (a b : Address) (n : ℕ) → IsSized a → IsSized b → packet_name a n ≡ packet_name b n → a ≡ b
name_other a b n one two e = grind (arith, number_parts)

-- the links of a link file are distinct
pub links_differ : (file : LinkFile) → AllPairs (λ a b. a ≢ b) (link_set file)
unfolding address_set
links_differ file i j d lt hi e =
    let all = flat_map (λ area. links_of file area.tag) file.areas in
    let up = ascending_pairs address_before (address_set all) (set_ascending address_before address_order all) i j d lt hi in
    true≢false (sym up ∙ ap (λ (x : Address). address_before x (get_or (link_set file) j d)) e ∙ address_order.apart (get_or (link_set file) j d))
