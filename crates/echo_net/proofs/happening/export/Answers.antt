use Rattle.std.proofs.{Common.{◌++◌, ◌∷◌, [], ◌∙◌, List, map, append_assoc, ap, sym}, lemmas.List.{map-append, Elements.All-push}}
use Rattle.echo_net.specs.Worlds.{Exported, Fits, made}
use Rattle.echo_net.proofs.happening.export.Goals as goal

pub packets-preserved : goal.packets-preserved
packets-preserved c =
    let old = c.args.exported.now.items in
    let packet = c.in-Some.packet in
    let before = c.packets.invariant in
    let one = c.in_ok-export_one.ensures in
    record {
      bytes = one.bytes ∙ ap (λ (es : List Exported). es ++ made packet ∷ []) before.bytes
          ∙ append_assoc old (map made c.packets.yielded) (made packet ∷ [])
          ∙ ap (λ (es : List Exported). old ++ es) (sym (map-append made c.packets.yielded (packet ∷ [])));
      fit = All-push Fits c.packets.yielded packet before.fit one.fit;
    }
