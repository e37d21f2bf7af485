use Rattle.std.{proofs.Common.{◌==◌, ◌&&◌, ap, sym, ◌∙◌, not, List, length}, specs.{Prelude.{count_by, nat_le}, List.list_all}}
use Rattle.model_steps.specs.SystemState.{SystemState}
use Rattle.echo_net.{specs.Worlds.{Exported, WorldState}, proofs.Readings.settled-is}
use Rattle.echo_net.proofs.world.World.settled.Goals as goal

pub returns-then-all_scanned : goal.returns-then-all_scanned
returns-then-all_scanned g c = λ run is.
    let scanned = sym c.if-all_scanned.true ∙ c.all_scanned.ensures
    ∙ ap (λ (ss : List SystemState). list_all (λ s. nat_le (length s.base) s.cursor) ss) (c.deref.ensures.value ∙ ap (λ (w : WorldState). w.systems) c.self.view_is) in
    let missing = c.count_missing.ensures
    ∙ ap (λ (es : List Exported). count_by (λ e. not e.came) es) (c.deref-then-all_scanned.ensures.value ∙ ap (λ (w : WorldState). w.packets) c.self.view_is) in
    (λ i. scanned i && (missing i == 0)) ∙ settled-is c.args.self.now run is

pub returns-else-all_scanned : goal.returns-else-all_scanned
returns-else-all_scanned g c = λ run is.
    let scanned = sym c.if-all_scanned.false ∙ c.all_scanned.ensures
    ∙ ap (λ (ss : List SystemState). list_all (λ s. nat_le (length s.base) s.cursor) ss) (c.deref.ensures.value ∙ ap (λ (w : WorldState). w.systems) c.self.view_is) in
    c.if-all_scanned.false
    ∙ (λ i. scanned i && (count_by (λ e. not e.came) c.args.self.now.packets == 0)) ∙ settled-is c.args.self.now run is
