-- Messages sent again are in packets that the system made before.
use Rattle.std.{proofs.{Common.{◌≡◌, sym, ap, ◌∙◌, ℕ, List, take, Option, Some, None, arith}, lemmas.Bool.{eqb-true, true≢false}}, specs.Prelude.{Bool, true, filter, not, is_some, ◌&&◌, ◌==◌}}
use Rattle.echo_addr.specs.declared.address.Address.{Address}
use Rattle.model_graph.specs.Walk.{Among}
use Rattle.echo_packet.specs.Message.{Message}
use Rattle.echo_text.specs.Echo.{msgid_of}
use Rattle.echo_links.specs.Links.{LinkFile}
use Rattle.echo_filed.{specs.{Filed.{Filed, key_of}, Stubs.stub_of}, proofs.{Keys.stub_of_stub, StubTests.stub_reported}}
use Rattle.model_steps.specs.{declared.packet.Packet.Packet, Resending.is_resent, Resending.is_whole_in, Resending.resent, Resending.scanned_from, Scanning.copy_to, Scanning.goes_to}
use Rattle.model_run.{specs.{Event.RunEvent, Run.{System, destination, nth, run_of}, Exports.{Export, exports}, Fits.FilesFit}, proofs.{Lists.{and-parts, nth-among, Among-drop, Among-filter_from, Among-map_from}, TosserPremises.Laws, Bases.{IsKept, Kept-front}, WholeRuns.run-ok, ExportLists.run-logged}}

no-id : (id : Option (List ℕ)) (stub : Bool) → not (is_some id && stub) ≡ true → stub ≡ true → id ≡ None
no-id h1 stub whole is = grind (arith, true≢false)

unstubbed : (b h : Filed) → key_of b ≡ key_of h → msgid_of b.echo.kept ≡ None → stub_of h ≡ h
unfolding key_of stub_of
unstubbed b h key none = grind arith

as-filed : (area : List ℕ) (b h : Filed) → IsKept b h → is_whole_in area b ≡ true → b ≡ h
as-filed area b h kept whole = grind (arith, stub_of_stub, and-parts, unstubbed, no-id, stub_reported)

module _ (laws : Laws) (files : List LinkFile) (fit : FilesFit files) (events : List RunEvent) (i : ℕ) (s : System)
    (at : nth i (run_of files events).systems ≡ Some s) where
  pub sent-again : (area : List ℕ) (to : Address) (first : ℕ) (again : Message) → Among again (resent s.file area to first s.base s.cursor) →
      (e : Export) × Among e (exports files events) × (e.system ≡ i) × (destination e.packet ≡ to) × Among again e.packet.messages
  sent-again area to first again h =
      let made = (run-logged laws files fit events).1.made i s at in
      let ok = (run-ok laws files fit events).systems s (nth-among i s (run_of files events).systems at) in
      let (b, j, is) = Among-map_from (copy_to s.file to) again (filter (is_resent s.file area to) (scanned_from first s.base s.cursor)) h in
      let (k, t) = Among-filter_from (is_resent s.file area to) b (scanned_from first s.base s.cursor) j in
      let both = and-parts (is_whole_in area b) (goes_to s.file to b) t in
      let (m, l, kept) = Kept-front s.cursor s.base s.history ok.kept b (Among-drop first b (take s.cursor s.base) k) in
      let same : b ≡ m = as-filed area b m kept both.0 in
      let goes : goes_to s.file to m ≡ true = ap (λ (x : Filed). goes_to s.file to x) (sym same) ∙ both.1 in
      let (p, q, for_it, there) = made.copies_for m l to goes in
      let (e, u, packet_is) = Among-map_from (λ (x : Export). x.packet) p (filter (λ (x : Export). x.system == i) (exports files events)) q in
      let (v, w) = Among-filter_from (λ (x : Export). x.system == i) e (exports files events) u in
      let P : Message → Type 0 = λ x. Among x e.packet.messages in
      let Q : Packet → Type 0 = λ x. Among (copy_to s.file to m) x.messages in grind (arith, eqb-true)
