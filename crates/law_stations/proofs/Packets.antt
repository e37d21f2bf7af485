-- The packet files of a scan are packets.
use Rattle.std.proofs.{Common.{◌≡◌, ◌≢◌, refl, subst, ℕ, arith, List, [], ◌∷◌, ◌++◌, length, map, drop}, Math.Seq.take-append_seam, lemmas.List.drop_at}
use Rattle.std.{proofs.lemmas.List.Elements.All-from_recursion, specs.{Prelude.filter, List.{AllByRecursion, flat_map}}}
use Rattle.{echo_addr.specs.{declared.address.Address.Address, Address.IsAddress}, law_stations.specs.{Agreement.IsPacketFile, Nets.{Paired, bytes_of}}}
use Rattle.echo_packet.specs.Message.{DateTime, FromName, Message, Subject, Text, ToName, before, message_bytes, messages_bytes, zero_ended}
use Rattle.echo_packet.specs.{declared.header.Header.Header, Header.{AreBytes, IsHeader, header_bytes, word}, Packet.packet_bytes}
use Rattle.{echo_packet.proofs.Headers.{AreBytes-drop, AreBytes-take, IsHeader-from_bytes}, echo_links.specs.Links.{IsFile, LinkFile, links_of}}
use Rattle.echo_filed.{specs.{Filed.{Filed, IsFiled}, Sets.{address_before, address_set}}, proofs.{Bytes.text_no_zero, Plain.all_append, Sets.set_all}}
use Rattle.{base_file.specs.Base.IsBase, model_steps.specs.Scanning.{copy_to, goes_to, header_to, packet_to, packets_of, recipients, scanned, targets}}
use Rattle.model_steps.specs.{declared.{packet.Packet.Packet, stamp.Stamp.Stamp}, PacketFiles.PacketFile}
use Rattle.model_steps.proofs.Copies.{exported_is_echo, links_are_addresses, all_filter as all-filter, all_later as all-drop}
use Rattle.{model_steps.proofs.Encoding.{IsWhole, written_packet, header_size as header-long}, cmd_store.specs.PacketLines.file_sent}

bytes-front : (xs ys : List ℕ) → AreBytes (xs ++ ys) → AreBytes xs
bytes-front xs ys h = subst AreBytes (take-append_seam xs ys) (AreBytes-take (length xs) (xs ++ ys) h)

bytes-behind : (xs ys : List ℕ) → AreBytes (xs ++ ys) → AreBytes ys
bytes-behind xs ys h = subst AreBytes (drop_at xs ys (length xs) refl) (AreBytes-drop (length xs) (xs ++ ys) h)

header-is : (h : Header) → AreBytes (header_bytes h) → length h.password ≡ 8 → length h.fill ≡ 20 → IsHeader h
header-is h bytes password fill = IsHeader-from_bytes h (header_bytes h) refl bytes (header-long h password fill) password fill

header-fits : (file : LinkFile) (stamp : Stamp) (address : Address) → AreBytes (header_bytes (header_to file stamp address)) → IsHeader (header_to file stamp address)
unfolding header_to
header-fits file stamp address bytes = header-is (header_to file stamp address) bytes refl refl

-- the strings of a message are byte strings
record HasBytes (m : Message) : Type 0 where
  date : AreBytes m.date
  to_name : AreBytes m.to_name
  from_name : AreBytes m.from_name
  subject : AreBytes m.subject
  text : AreBytes m.text

has-bytes : (m : Message) → AreBytes (message_bytes m) → HasBytes m
has-bytes m h =
    let to_text = bytes-front (before Text m) (zero_ended m.text) h in
    let to_subject = bytes-front (before Subject m) (zero_ended m.subject) to_text in
    let to_from = bytes-front (before FromName m) (zero_ended m.from_name) to_subject in
    let to_to = bytes-front (before ToName m) (zero_ended m.to_name) to_from in
    record {
      date = bytes-behind (before DateTime m) m.date to_to;
      to_name = bytes-front m.to_name (0 ∷ []) (bytes-behind (before ToName m) (zero_ended m.to_name) to_from);
      from_name = bytes-front m.from_name (0 ∷ []) (bytes-behind (before FromName m) (zero_ended m.from_name) to_subject);
      subject = bytes-front m.subject (0 ∷ []) (bytes-behind (before Subject m) (zero_ended m.subject) to_text);
      text = bytes-front m.text (0 ∷ []) (bytes-behind (before Text m) (zero_ended m.text) h);
    }

copy-fits : (file : LinkFile) (address : Address) (m : Filed) → IsFile file → IsAddress address → IsFiled m → HasBytes (copy_to file address m)
    → IsWhole (copy_to file address m)
unfolding copy_to
copy-fits file address m fits to is bytes = grind (arith, All-from_recursion, text_no_zero, exported_is_echo)

copies-fit : (file : LinkFile) (address : Address) → IsFile file → IsAddress address → (ms : List Filed) → AllByRecursion IsFiled ms
    → AreBytes (messages_bytes (map (copy_to file address) ms)) → AllByRecursion IsWhole (map (copy_to file address) ms)
copies-fit file address fits to [] all bytes = tt
copies-fit file address fits to (m ∷ ms) all bytes =
    let first = message_bytes (copy_to file address m) in
    let later = messages_bytes (map (copy_to file address) ms) in (
      copy-fits file address m fits to all.0 (has-bytes (copy_to file address m) (bytes-front first later bytes)),
      copies-fit file address fits to ms all.1 (bytes-behind first later bytes),
    )

zone-named : (file : LinkFile) (stamp : Stamp) (address : Address) → IsAddress address → (header_to file stamp address).dest_zone ≢ 0
unfolding header_to
zone-named file stamp address to = λ e. let least = to.zone.0 in omega (arith, e, least)

-- a packet of copies to an address
pub copies-packet : (file : LinkFile) (stamp : Stamp) (address : Address) → IsFile file → IsAddress address → (ms : List Filed) → AllByRecursion IsFiled ms
    → (let p : Packet = record { header = header_to file stamp address; messages = map (copy_to file address) ms } in
    AreBytes (packet_bytes p.header p.messages) → IsPacketFile (packet_bytes p.header p.messages) p)
copies-packet file stamp address fits to ms all bytes =
    let header = header_to file stamp address in
    let copies = map (copy_to file address) ms in
    let front = bytes-front (header_bytes header) (messages_bytes copies ++ word 0) bytes in
    let middle = bytes-front (messages_bytes copies) (word 0) (bytes-behind (header_bytes header) (messages_bytes copies ++ word 0) bytes) in
    record {
      packet = written_packet (length (packet_bytes header copies)) header copies (packet_bytes header copies) (header-fits file stamp address front)
          (copies-fit file address fits to ms all middle) refl (omega arith);
      zone = zone-named file stamp address to;
    }

-- the packet of a scan to an address
packet-fits : (file : LinkFile) (stamp : Stamp) (waiting : List Filed) (address : Address) → IsFile file → IsAddress address → AllByRecursion IsFiled waiting
    → (let p = packet_to file stamp waiting address in AreBytes (packet_bytes p.header p.messages) → IsPacketFile (packet_bytes p.header p.messages) p)
unfolding packet_to
packet-fits file stamp waiting address fits to all bytes =
    copies-packet file stamp address fits to (filter (goes_to file address) waiting) (all-filter IsFiled (goes_to file address) waiting all) bytes

packets-fit : (file : LinkFile) (stamp : Stamp) (waiting : List Filed) (n : ℕ) → IsFile file → AllByRecursion IsFiled waiting → (addresses : List Address)
    → AllByRecursion IsAddress addresses → (let ps = map (packet_to file stamp waiting) addresses in
    AllByRecursion (λ (f : PacketFile). AreBytes f.bytes) (map (file_sent n) ps) → Paired IsPacketFile (map bytes_of (map (file_sent n) ps)) ps)
packets-fit file stamp waiting n fits all [] to bytes = tt
packets-fit file stamp waiting n fits all (a ∷ addresses) to bytes =
    (packet-fits file stamp waiting a fits to.0 all bytes.0, packets-fit file stamp waiting n fits all addresses to.1 bytes.1)

targets-are : (file : LinkFile) → IsFile file → (m : Filed) → AllByRecursion IsAddress (targets file m)
unfolding targets
targets-are file fits m = all-filter IsAddress _ (links_of file m.echo.tag) (links_are_addresses file fits m.echo.tag)

all-targets : (file : LinkFile) → IsFile file → (ms : List Filed) → AllByRecursion IsAddress (flat_map (targets file) ms)
all-targets file fits [] = tt
all-targets file fits (m ∷ ms) = all_append IsAddress (targets file m) (flat_map (targets file) ms) (targets-are file fits m) (all-targets file fits ms)

recipients-are : (file : LinkFile) → IsFile file → (ms : List Filed) → AllByRecursion IsAddress (recipients file ms)
unfolding recipients address_set
recipients-are file fits ms = set_all address_before IsAddress (flat_map (targets file) ms) (all-targets file fits ms)

-- the packets of a scan
pub scanned-fit : (file : LinkFile) (base : List Filed) (cursor : ℕ) (stamp : Stamp) (n : ℕ) → IsFile file → IsBase base cursor
    → AllByRecursion (λ (f : PacketFile). AreBytes f.bytes) (map (file_sent n) (scanned file base cursor stamp))
    → Paired IsPacketFile (map bytes_of (map (file_sent n) (scanned file base cursor stamp))) (scanned file base cursor stamp)
unfolding scanned packets_of
scanned-fit file base cursor stamp n fits is bytes =
    packets-fit file stamp (drop cursor base) n fits (all-drop IsFiled cursor base is.each) (recipients file (drop cursor base)) (recipients-are file fits (drop cursor base)) bytes
