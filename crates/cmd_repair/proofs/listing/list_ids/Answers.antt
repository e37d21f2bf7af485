use Rattle.{std.proofs.{Common.{◌∙◌, arith, inl, inr, refl, subst, sym, ℕ}, lemmas.Result.err_from_is_err_and}, echo_links.specs.Links.upper}
use Rattle.cmd_status.specs.{Devices.output_of, Ended.CannotPrint}
use Rattle.cmd_repair.proofs.Listed.{memory_answer, ready, ready_begun, ready_done, ready_kept, ready_unfinished}
use Rattle.cmd_repair.proofs.listing.list_ids.Goals as goal

pub returns-in_err-area-clause-listed : goal.returns-in_err-area-clause-listed
returns-in_err-area-clause-listed g c = grind (arith, err_from_is_err_and, memory_answer)

pub returns-in_err-ids-clause-listed : goal.returns-in_err-ids-clause-listed
returns-in_err-ids-clause-listed g c = grind (arith, err_from_is_err_and, memory_answer)

pub returns-in_err-push_first-clause-listed : goal.returns-in_err-push_first-clause-listed
returns-in_err-push_first-clause-listed g c = grind (arith, err_from_is_err_and, memory_answer)

pub returns-in_err-gathered-clause-listed : goal.returns-in_err-gathered-clause-listed
returns-in_err-gathered-clause-listed g c = λ honest base holds.
    let p = err_from_is_err_and c.from_residual-in_err-gathered.result c.from_residual-in_err-gathered.ensures.1 in
    rw (p.1, p.2) (inr (c.in_err-gathered.ensures.fault honest base holds, refl))

pub returns-in_err-print_ids-clause-listed : goal.returns-in_err-print_ids-clause-listed
returns-in_err-print_ids-clause-listed g c = λ honest base holds.
    let p = err_from_is_err_and c.from_residual-in_err-print_ids.result c.from_residual-in_err-print_ids.ensures.1 in
    let at = ready c.args.area.now c.deref.result.now c.deref-2.result.now base c.in_ok-ids.ids.items c.sort_unstable.new.self.items c.deref-3.result.now c.in_ok-gathered.gathered.bytes.items
    c.in_ok-gathered.gathered.lengths.items c.in_ok-gathered.gathered.messages c.len.result c.saturating_sub-without.result c.new-lines.result.items c.push_first.new.lines.items
    (c.deref.ensures.value ∙ c.in_ok-area.ensures.ok) (c.deref-2.ensures.value ∙ sym c.deref.ensures.value) (c.in_ok-gathered.ensures.ids honest base holds)
    (c.in_ok-ids.ensures _ _ (c.in_ok-gathered.ensures.ids honest base holds)) c.sort_unstable.ensures.permutation c.sort_unstable.ensures.sorted c.deref-3.ensures.value
    (c.len.ensures ∙ c.sort_unstable.new.self.ok.0) c.saturating_sub-without.ensures c.new-lines.ensures.items c.in_ok-push_first.ensures in
    rw (p.1, p.2) (inl (c.in_err-print_ids.ensures.err, ready_begun (upper c.args.area.now) base c.deref-3.result.now c.in_ok-gathered.gathered.messages c.saturating_sub-without.result c.push_first.new.lines.items at (output_of g.W.Write.contents g.W.Sink.failures g.W.Sink.holds c.args.out.now) (output_of g.W.Write.contents g.W.Sink.failures g.W.Sink.holds c.print_ids.new.out) c.in_err-print_ids.ensures.begun))

pub returns-in_err-push_last-clause-listed : goal.returns-in_err-push_last-clause-listed
returns-in_err-push_last-clause-listed g c = λ honest base holds.
    let p = err_from_is_err_and c.from_residual-in_err-push_last.result c.from_residual-in_err-push_last.ensures.1 in
    let at = ready c.args.area.now c.deref.result.now c.deref-2.result.now base c.in_ok-ids.ids.items c.sort_unstable.new.self.items c.deref-3.result.now c.in_ok-gathered.gathered.bytes.items
    c.in_ok-gathered.gathered.lengths.items c.in_ok-gathered.gathered.messages c.len.result c.saturating_sub-without.result c.new-lines.result.items c.push_first.new.lines.items
    (c.deref.ensures.value ∙ c.in_ok-area.ensures.ok) (c.deref-2.ensures.value ∙ sym c.deref.ensures.value) (c.in_ok-gathered.ensures.ids honest base holds)
    (c.in_ok-ids.ensures _ _ (c.in_ok-gathered.ensures.ids honest base holds)) c.sort_unstable.ensures.permutation c.sort_unstable.ensures.sorted c.deref-3.ensures.value
    (c.len.ensures ∙ c.sort_unstable.new.self.ok.0) c.saturating_sub-without.ensures c.new-lines.ensures.items c.in_ok-push_first.ensures in
    rw (p.1, p.2) (inl (inr (tt, c.in_ok-print_ids.ensures.ok), ready_kept (upper c.args.area.now) base c.deref-3.result.now c.in_ok-gathered.gathered.messages c.saturating_sub-without.result c.push_first.new.lines.items at c.print_ids.new.lines.items (output_of g.W.Write.contents g.W.Sink.failures g.W.Sink.holds c.args.out.now) (output_of g.W.Write.contents g.W.Sink.failures g.W.Sink.holds c.print_ids.new.out) c.in_ok-print_ids.ensures.lines))

pub returns-in_err-print_rest-clause-listed : goal.returns-in_err-print_rest-clause-listed
returns-in_err-print_rest-clause-listed g c = λ honest base holds.
    let p = err_from_is_err_and c.from_residual-in_err-print_rest.result c.from_residual-in_err-print_rest.ensures.1 in
    let at = ready c.args.area.now c.deref.result.now c.deref-2.result.now base c.in_ok-ids.ids.items c.sort_unstable.new.self.items c.deref-3.result.now c.in_ok-gathered.gathered.bytes.items
    c.in_ok-gathered.gathered.lengths.items c.in_ok-gathered.gathered.messages c.len.result c.saturating_sub-without.result c.new-lines.result.items c.push_first.new.lines.items
    (c.deref.ensures.value ∙ c.in_ok-area.ensures.ok) (c.deref-2.ensures.value ∙ sym c.deref.ensures.value) (c.in_ok-gathered.ensures.ids honest base holds)
    (c.in_ok-ids.ensures _ _ (c.in_ok-gathered.ensures.ids honest base holds)) c.sort_unstable.ensures.permutation c.sort_unstable.ensures.sorted c.deref-3.ensures.value
    (c.len.ensures ∙ c.sort_unstable.new.self.ok.0) c.saturating_sub-without.ensures c.new-lines.ensures.items c.in_ok-push_first.ensures in
    rw (p.1, p.2)
    (inl (
      inl (subst (λ (n : ℕ). CannotPrint n (g.W.Sink.failures c.print_rest.new.out) c.in_err-print_rest.field-0.0) c.in_ok-print_ids.ensures.ok c.in_err-print_rest.ensures.err),
      ready_unfinished (upper c.args.area.now) base c.deref-3.result.now c.in_ok-gathered.gathered.messages c.saturating_sub-without.result c.push_first.new.lines.items at c.print_ids.new.lines.items c.push_last.new.lines.items (output_of g.W.Write.contents g.W.Sink.failures g.W.Sink.holds c.args.out.now) (output_of g.W.Write.contents g.W.Sink.failures g.W.Sink.holds c.print_ids.new.out) (output_of g.W.Write.contents g.W.Sink.failures g.W.Sink.holds c.print_rest.new.out) c.in_ok-print_ids.ensures.lines c.in_ok-push_last.ensures c.in_err-print_rest.ensures.begun,
    ))

pub returns-clause-listed : goal.returns-clause-listed
returns-clause-listed g c = λ honest base holds.
    let at = ready c.args.area.now c.deref.result.now c.deref-2.result.now base c.in_ok-ids.ids.items c.sort_unstable.new.self.items c.deref-3.result.now c.in_ok-gathered.gathered.bytes.items
    c.in_ok-gathered.gathered.lengths.items c.in_ok-gathered.gathered.messages c.len.result c.saturating_sub-without.result c.new-lines.result.items c.push_first.new.lines.items
    (c.deref.ensures.value ∙ c.in_ok-area.ensures.ok) (c.deref-2.ensures.value ∙ sym c.deref.ensures.value) (c.in_ok-gathered.ensures.ids honest base holds)
    (c.in_ok-ids.ensures _ _ (c.in_ok-gathered.ensures.ids honest base holds)) c.sort_unstable.ensures.permutation c.sort_unstable.ensures.sorted c.deref-3.ensures.value
    (c.len.ensures ∙ c.sort_unstable.new.self.ok.0) c.saturating_sub-without.ensures c.new-lines.ensures.items c.in_ok-push_first.ensures in
    ready_done (upper c.args.area.now) base c.deref-3.result.now c.in_ok-gathered.gathered.messages c.saturating_sub-without.result c.push_first.new.lines.items at c.print_ids.new.lines.items c.push_last.new.lines.items (output_of g.W.Write.contents g.W.Sink.failures g.W.Sink.holds c.args.out.now) (output_of g.W.Write.contents g.W.Sink.failures g.W.Sink.holds c.print_ids.new.out) (output_of g.W.Write.contents g.W.Sink.failures g.W.Sink.holds c.print_rest.new.out) c.in_ok-print_ids.ensures.lines c.in_ok-push_last.ensures
    c.in_ok-print_ids.ensures.ok c.in_ok-print_rest.ensures.bytes (c.in_ok-print_rest.ensures.ok, c.in_ok-print_rest.ensures.passed)
