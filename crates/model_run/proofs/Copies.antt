-- The contents of the packets of a scan.
use Rattle.std.{proofs.{Common.{◌≡◌, ◌≢◌, inl, inr, refl, ap, List, [], ◌∷◌, ◌++◌, map, Option, Some, arith}, lemmas.Bool.not-true}, specs.{Prelude.{Bool, true, false, filter, not, is_none, unwrap_or, option_map}, List.flat_map}}
use Rattle.echo_addr.specs.{declared.address.Address.Address, declared.address.NetNode.NetNode, Address.net_node_of}
use Rattle.model_graph.{specs.Walk.{Among, Different}, proofs.Members.Among-at}
use Rattle.echo_packet.specs.Message.{Message}
use Rattle.echo_text.specs.{Echo.IsEcho, Refusal.text_refusal}
use Rattle.model_steps.specs.{Scanning.packet_to, Scanning.header_to, Scanning.copy_to, Scanning.exported, Scanning.goes_to, Scanning.targets, Scanning.recipients, declared.stamp.Stamp.Stamp, Tossing.received}
use Rattle.echo_links.specs.Links.{LinkFile, is_link, links_of, same_address, IsFile}
use Rattle.echo_filed.specs.Filed.{Filed, key_of}
use Rattle.model_run.{specs.{Run.destination, Orderly.copies, Keeping.content_of}, proofs.{Lists.{not_both, yes_or_no, and-parts, and-from, any-to, any-from, filter-yes, Among-filter_from, Among-filter_to, Among-flat_map_to}, TosserPremises.Laws}}

-- the copy of a message, as its receiver files it
unfoldable pub copied : LinkFile → Filed → Filed
copied file m = record {
  sender = Some file.system;
  date = m.date;
  to_name = m.to_name;
  from_name = m.from_name;
  subject = m.subject;
  echo = exported file m.echo;
}

pub copied-key : (file : LinkFile) (m : Filed) → key_of (copied file m) ≡ key_of m
unfolding key_of copied exported
copied-key file m = grind (arith, copied)

pub copied-tag : (file : LinkFile) (m : Filed) → (copied file m).echo.tag ≡ m.echo.tag
unfolding copied exported
copied-tag file m = refl

pub copied-content : (file : LinkFile) (m : Filed) → content_of (copied file m) ≡ content_of m
unfolding copied exported
copied-content file m = refl

module _ (laws : Laws) (file : LinkFile) where
  pub copied-seen : (m : Filed) (n : NetNode) → Among n (copied file m).echo.seen → Among n (m.echo.seen ++ map net_node_of (file.system ∷ links_of file m.echo.tag))
  unfolding copied exported
  copied-seen m n h = laws.set_only n (m.echo.seen ++ map net_node_of (file.system ∷ links_of file m.echo.tag)) h

  pub seen-copied : (m : Filed) (n : NetNode) → Among n (m.echo.seen ++ map net_node_of (file.system ∷ links_of file m.echo.tag)) → Among n (copied file m).echo.seen
  unfolding copied exported
  seen-copied m n h = laws.set_all n (m.echo.seen ++ map net_node_of (file.system ∷ links_of file m.echo.tag)) h

  module _ (fits : IsFile file) where
    pub received-copy : (address : Address) (m : Filed) → IsEcho m.echo →
        (is_none (text_refusal (copy_to file address m).text) ≡ true) × (received file.system (copy_to file address m) ≡ copied file m)
    unfolding copy_to received copied
    received-copy address m echo = grind arith

    abbrev echomail : Message → Bool
    echomail packed = is_none (text_refusal packed.text)

    all_copied : (address : Address) (ms : List Filed) → ((m : Filed) → Among m ms → IsEcho m.echo) →
        map (received file.system) (filter echomail (map (copy_to file address) ms)) ≡ map (copied file) ms
    all_copied address [] valid = refl
    all_copied address (m ∷ ms) valid = grind (arith, received-copy, filter-yes, all_copied address ms)

    pub copies-are : (stamp : Stamp) (waiting : List Filed) (address : Address) → ((m : Filed) → Among m waiting → IsEcho m.echo) →
        copies (packet_to file stamp waiting address) ≡ map (copied file) (filter (goes_to file address) waiting)
    unfolding packet_to header_to
    copies-are stamp waiting address valid =
        all_copied address (filter (goes_to file address) waiting) (λ m i. valid m (Among-filter_from (goes_to file address) m waiting i).0)

  pub packet-destination : (stamp : Stamp) (waiting : List Filed) (address : Address) → destination (packet_to file stamp waiting address) ≡ address
  unfolding packet_to header_to
  packet-destination stamp waiting address = refl

  -- the address is a target
  pub record Targeted (m : Filed) (a : Address) : Type 0 where
    pub link : is_link file m.echo.tag a ≡ true
    pub not_sender : m.sender ≢ Some a
    pub not_seen : ¬ Among (net_node_of a) m.echo.seen

  false-not : (b : Bool) → b ≡ false → not b ≡ true
  false-not b e = ap not e

  sender-is : (o : Option Address) (a : Address) → unwrap_or (option_map (same_address a) o) false ≡ true → o ≡ Some a
  sender-is h1 a e = grind (arith, not_both)

  is-sender : (o : Option Address) (a : Address) → o ≡ Some a → unwrap_or (option_map (same_address a) o) false ≡ true
  is-sender o a e = grind arith

  false-or : (b : Bool) → ¬ (b ≡ true) → b ≡ false
  false-or b n = elim (yes_or_no b) [ inl t ↦ absurd (n t) | inr f ↦ f ]

  pub targets-from : (m : Filed) (a : Address) → Among a (targets file m) → Targeted m a
  unfolding targets
  targets-from m a h = grind (arith, Among-filter_from, and-parts, any-to, not_both, is-sender, not-true)

  pub targets-to : (m : Filed) (a : Address) → Targeted m a → Among a (targets file m)
  unfolding targets
  targets-to m a t = grind (arith, any-from, Among-filter_to, Among-at, and-from, false-not, false-or, sender-is)

  pub goes-from : (m : Filed) (a : Address) → goes_to file a m ≡ true → Targeted m a
  goes-from m a h = grind (arith, any-from, targets-from, Among-at)

  pub goes-to : (m : Filed) (a : Address) → Targeted m a → goes_to file a m ≡ true
  goes-to m a t = any-to (same_address a) a (targets file m) (targets-to m a t) (laws.addresses.full a a refl)

  pub target-recipient : (waiting : List Filed) (m : Filed) (a : Address) → Among m waiting → Targeted m a → Among a (recipients file waiting)
  unfolding recipients
  target-recipient waiting m a h t = grind (arith, Among-flat_map_to, targets-to)

  pub recipients-differ : (waiting : List Filed) → Different (recipients file waiting)
  unfolding recipients
  recipients-differ waiting = laws.addresses_once (flat_map (targets file) waiting)
