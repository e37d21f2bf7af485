-- The messages that should be filed and sent.
use Rattle.std.specs.Prelude.{◌≡◌, ◌≢◌, List, Some, None, true}
use Rattle.echo_addr.specs.{declared.address.Address.Address, Address.net_node_of}
use Rattle.model_graph.specs.Walk.{Among}
use Rattle.echo_packet.specs.Message.{Message}
use Rattle.echo_text.specs.Refusal.{text_refusal}
use Rattle.echo_links.specs.Links.{LinkFile, is_link}
use Rattle.echo_filed.specs.{Filed.Filed, Written.echo_of}
use Rattle.model_steps.specs.{Posting.IsAllowed, Posting.posted, Tossing.received}
use Rattle.model_run.specs.Lone.{LoneEvent, PostHere, TossHere}

-- The received message is echomail of an area, from a link of the area.
pub record IsFromLink (file : LinkFile) (sender : Address) (packed : Message) : Type 0 where
  pub text : text_refusal packed.text ≡ None
  pub link : is_link file (echo_of packed.text).tag sender ≡ true

-- The event filed the message. It posted it, and this base did not refuse it; or the message came with it, unchanged,
-- from a link of its area.
abbrev pub IsFiledBy : LinkFile → List Filed → Filed → LoneEvent → Type 0
IsFiledBy file base m (PostHere tag draft serial stamp) = (m ≡ posted file tag draft serial stamp) × IsAllowed file base tag draft serial stamp
IsFiledBy file base m (TossHere sender messages) = (packed : Message) × Among packed messages × IsFromLink file sender packed × (m ≡ received sender packed)
IsFiledBy file base m other = ⊥

-- The address should get the message: it is a link of the area, is not the sender, and is not in the message's first
-- SEEN-BY.
pub record IsOwed (file : LinkFile) (m : Filed) (address : Address) : Type 0 where
  pub link : is_link file m.echo.tag address ≡ true
  pub not_sender : m.sender ≢ Some address
  pub unlisted : ¬ Among (net_node_of address) m.echo.seen
