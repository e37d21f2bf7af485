-- The copies that a scan makes of a message, and their content in a toss.
use Rattle.std.proofs.Common.{◌≡◌, ℕ, zero, suc, Bool, List, [], ◌∷◌, ◌++◌, map, drop, sym, ap, subst, ◌∙◌, Option, Some, None, arith, inl, inr}
use Rattle.std.proofs.lemmas.{Bool.cases_Bool, Bool.cond-false, Bool.cond-true, List.Elements.All-append, List.Elements.All-from_recursion, List.Elements.recursion_from_All}
use Rattle.std.specs.{Prelude.bytes_eq, Prelude.filter, Prelude.find, Prelude.option_map, Prelude.unwrap_or, List.AllByRecursion}
use Rattle.echo_addr.specs.{declared.address.Address.Address, declared.address.NetNode.NetNode, Address.IsAddress, Address.net_node_of, ShortLines.IsNetNode}
use Rattle.echo_text.specs.{Echo.EchoText, Echo.IsEcho, Refusal.text_refusal}
use Rattle.echo_filed.specs.{Sets.entry_before, Sets.entry_set, Filed.Filed, Filed.IsFiled, Filed.key_of}
use Rattle.model_steps.specs.{Scanning.copy_to, Scanning.exported, Scanning.goes_to, Scanning.packet_to, Scanning.packets_of, Scanning.recipients, Scanning.scanned, declared.stamp.Stamp.Stamp, Tossing.received}
use Rattle.echo_links.specs.Links.{Area, IsArea, IsFile, LinkFile, links_of}
use Rattle.base_file.specs.Base.{IsBase}
use Rattle.echo_filed.proofs.{Sets.set_all, Orders.entry_set_is_set, Texts.written_accepted, Texts.written_back}

found_links : (p : Area → Bool) (areas : List Area) → AllByRecursion IsArea areas → AllByRecursion IsAddress (unwrap_or (option_map (λ area. area.links) (find p areas)) [])
found_links p [] all = tt
found_links p (first ∷ later) all =
    let links : Option Area → List Address = λ o. unwrap_or (option_map (λ area. area.links) o) [] in
    let P : Option Area → Type 0 = λ o. AllByRecursion IsAddress (unwrap_or (option_map (λ area. area.links) o) []) in
    elim (cases_Bool (p first)) [
      | inl passes ↦ subst P (sym (cond-true (p first) (Some first) (find p later) passes)) all.0.addresses
      | inr fails ↦ subst P (sym (cond-false (p first) (Some first) (find p later) fails)) (found_links p later all.1)
    ]

pub links_are_addresses : (file : LinkFile) → IsFile file → (tag : List ℕ) → AllByRecursion IsAddress (links_of file tag)
unfolding links_of
links_are_addresses file h tag = found_links (λ area. bytes_eq area.tag tag) file.areas h.each_area

pub net_node_fits : (a : Address) → IsAddress a → IsNetNode (net_node_of a)
net_node_fits a h = record { net = omega (arith, h.net.1); node = omega (arith, h.node.1) }

net_nodes_fit : (list : List Address) → AllByRecursion IsAddress list → AllByRecursion IsNetNode (map net_node_of list)
net_nodes_fit [] all = tt
net_nodes_fit (a ∷ more) all = (net_node_fits a all.0, net_nodes_fit more all.1)

set_fits : (all : List NetNode) → AllByRecursion IsNetNode all → AllByRecursion IsNetNode (entry_set all)
unfolding entry_set
set_fits all h = set_all entry_before IsNetNode all h

pub exported_is_echo : (file : LinkFile) → IsFile file → (e : EchoText) → IsEcho e → IsEcho (exported file e)
unfolding exported
exported_is_echo file h e is =
    let joins : List NetNode = map net_node_of (file.system ∷ links_of file e.tag) in
    let joins_fit : AllByRecursion IsNetNode joins = net_nodes_fit (file.system ∷ links_of file e.tag) (h.address, links_are_addresses file h e.tag) in
    let all_fit = All-append IsNetNode e.seen joins is.seen_entries (All-from_recursion IsNetNode joins joins_fit) in
    record {
      tag_bytes = is.tag_bytes;
      kept_lines = is.kept_lines;
      ending = is.ending;
      ascending = (entry_set_is_set (e.seen ++ joins)).ascending;
      seen_entries = All-from_recursion IsNetNode (entry_set (e.seen ++ joins)) (set_fits (e.seen ++ joins) (recursion_from_All IsNetNode (e.seen ++ joins) all_fit));
      path_entries =
          All-append IsNetNode e.path (net_node_of file.system ∷ []) is.path_entries
          (All-from_recursion IsNetNode (net_node_of file.system ∷ []) (net_node_fits file.system h.address, tt));
    }

pub copy_accepted : (file : LinkFile) (to : Address) (m : Filed) → IsFile file → IsEcho m.echo → text_refusal ((copy_to file to m).text) ≡ None
unfolding copy_to
copy_accepted file to m h is = written_accepted (exported file m.echo) (exported_is_echo file h m.echo is)

pub copy_read_back : (file : LinkFile) (from to : Address) (m : Filed) → IsFile file → IsEcho m.echo
    → received from (copy_to file to m)
    ≡ record { sender = Some from; date = m.date; to_name = m.to_name; from_name = m.from_name; subject = m.subject; echo = exported file m.echo }
unfolding copy_to received
copy_read_back file from to m h is = grind (arith, written_back, exported_is_echo)

exported_key : (file : LinkFile) (m : Filed) (from : Option Address)
    → key_of (record { sender = from; date = m.date; to_name = m.to_name; from_name = m.from_name; subject = m.subject; echo = exported file m.echo }) ≡ key_of m
unfolding key_of exported
exported_key file m from = grind arith

pub copy_keeps_key : (file : LinkFile) (from to : Address) (m : Filed) → IsFile file → IsEcho m.echo → key_of (received from (copy_to file to m)) ≡ key_of m
copy_keeps_key file from to m h is = ap key_of (copy_read_back file from to m h is) ∙ exported_key file m (Some from)

pub all_filter : {X : Type 0} (P : X → Type 0) (p : X → Bool) (xs : List X) → AllByRecursion P xs → AllByRecursion P (filter p xs)
all_filter P p [] all = tt
all_filter {X} P p (x ∷ xs) all =
    let Q : List X → Type 0 = λ l. AllByRecursion P l in
    elim (cases_Bool (p x)) [
      | inl passes ↦ subst Q (sym (cond-true (p x) (x ∷ filter p xs) (filter p xs) passes)) (all.0, all_filter P p xs all.1)
      | inr fails ↦ subst Q (sym (cond-false (p x) (x ∷ filter p xs) (filter p xs) fails)) (all_filter P p xs all.1)
    ]

pub all_later : {X : Type 0} (P : X → Type 0) (n : ℕ) (xs : List X) → AllByRecursion P xs → AllByRecursion P (drop n xs)
all_later P zero xs all = all
all_later P (suc n) [] all = tt
all_later P (suc n) (x ∷ xs) all = all_later P n xs all.1

all_made : {X Y : Type 0} (P : X → Type 0) (Q : Y → Type 0) (f : X → Y) → ((x : X) → P x → Q (f x)) → (xs : List X) → AllByRecursion P xs → AllByRecursion Q (map f xs)
all_made P Q f step [] all = tt
all_made P Q f step (x ∷ xs) all = (step x all.0, all_made P Q f step xs all.1)

any_of : {X : Type 0} (xs : List X) → AllByRecursion (λ x. Unit {0}) xs
any_of [] = tt
any_of (x ∷ xs) = (tt, any_of xs)

pub scanned_accepted : (file : LinkFile) (base : List Filed) (cursor : ℕ) (stamp : Stamp) → IsFile file → IsBase base cursor
    → AllByRecursion (λ packet. AllByRecursion (λ packed. text_refusal packed.text ≡ None) packet.messages) (scanned file base cursor stamp)
unfolding scanned packets_of packet_to
scanned_accepted file base cursor stamp h is =
    all_made (λ address. Unit {0}) (λ packet. AllByRecursion (λ packed. text_refusal packed.text ≡ None) packet.messages) (packet_to file stamp (drop cursor base))
    (λ address any. all_made IsFiled (λ packed. text_refusal packed.text ≡ None) (copy_to file address) (λ m filed. copy_accepted file address m h filed.is_echo)
    (filter (goes_to file address) (drop cursor base)) (all_filter IsFiled (goes_to file address) (drop cursor base) (all_later IsFiled cursor base is.each)))
    (recipients file (drop cursor base)) (any_of (recipients file (drop cursor base)))
