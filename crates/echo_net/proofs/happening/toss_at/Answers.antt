use Rattle.std.proofs.{Common.{◌≡◌, ℕ, Bool, true, false, cond, List, [], refl, sym, subst, Ok, Some, arith}, lemmas.List.append-nil}
use Rattle.model_steps.specs.{declared.packet.Packet.Packet, Tossing.destination_of}
use Rattle.echo_links.specs.Links.{LinkFile}
use Rattle.model_run.specs.Run.{destination}
use Rattle.echo_steps.{specs.PacketSteps.PacketStep, proofs.WholePackets.whole_packet}
use Rattle.echo_packet.specs.Packet.{PacketOf}
use Rattle.echo_net.specs.Worlds.{unlimited}
use Rattle.echo_net.proofs.happening.toss_at.Goals as goal

either : (b : Bool) (own zone : ℕ) → zone ≡ own → cond b own zone ≡ own
either true own zone e = refl
either false own zone e = e

for_us : (file : LinkFile) (p : Packet) → destination p ≡ file.system → destination_of file p.header ≡ file.system
for_us file p e = grind (arith, either)

pub returns-in-Ok-clause-tossed : goal.returns-in-Ok-clause-tossed
returns-in-Ok-clause-tossed g c = λ p fits is to.
    let Is : List ℕ → Type 0 = λ bytes. PacketOf unlimited p.header p.messages bytes in
    let Step : List ℕ → Type 0 = λ bytes. PacketStep unlimited c.args.tosser.now (Some bytes) (Some c.toss.new.reader.now) (Ok c.in-Ok.field-0) c.toss.new.self in
    let done = whole_packet unlimited p.header p.messages c.args.bytes.now [] _ c.args.tosser.now c.toss.new.self (Ok c.in-Ok.field-0)
    (subst Is (sym is) fits) (for_us c.args.tosser.now.file p to) (subst Step (sym (append-nil c.args.bytes.now)) c.in-Ok.ensures.tossed) refl in
    done.state
