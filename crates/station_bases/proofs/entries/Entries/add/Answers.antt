use Rattle.std.proofs.{Common.{◌≡◌, ◌++◌, ℕ, List, length, ◌||◌, refl, sym, ap, subst, ◌∙◌, arith, length-append}, lemmas.Bool.or_parts}
use Rattle.{base_store.{specs.{Chains.AreChains, Keys.entry}, proofs.Indexed.chains_stay}, echo_filed.specs.Stored.is_short}
use Rattle.{echo_filed.specs.declared.stored.Version.TheVariants.Second, station_bases.proofs.EntryMore.added}
use Rattle.station_bases.proofs.entries.Entries.add.Goals as goal

pub returns-clause-held : goal.returns-clause-held
returns-clause-held c = λ file base inside held new recorded.
    let e = c.args.self.now in
    let f = record c.push.new.self { odd = c.either-self.result } in
    let same = c.push.ensures.same in
    let m = c.args.message.now in
    let bytes = c.in_ok-bytes.bytes.items in
    let room = c.in_ok-place.ensures.room in
    added c.one_message_more.ensures file e f base m bytes c.args.digest held inside c.requires.head c.in_ok-bytes.ensures.stored c.in_ok-bytes.ensures.filed c.in_ok-bytes.ensures.bytes c.in_ok-check_room.ensures.room.text
    (let count = c.in_ok-check_room.ensures.room.messages in omega (arith, count, c.count.ensures)) (omega (arith, room, c.len.ensures, c.in_ok-place.ensures.place)) new recorded
    (ap (λ x. x.digest) same) (ap (λ x. x.cursor) same) (ap (λ x. x.end) same)
    (c.in_ok-push.ensures.waiting ∙ ap (λ (l : List ℕ). e.waiting.items ++ l) c.deref.ensures.value)
    (c.in_ok-push.ensures.keys ∙ ap (λ (l : List ℕ). e.keys.items ++ l) (c.entry-entry.ensures ∙ ap (λ (n : ℕ). entry n c.args.digest) c.in_ok-place.ensures.place))
    (λ none.
    let parts = or_parts e.odd (is_short Second 1 0 m) (ap (λ b. b || is_short Second 1 0 m) (sym (ap (λ x. x.odd) same)) ∙ ap (λ b. c.push.new.self.odd || b) (sym c.is_short.ensures) ∙ sym c.either-self.ensures ∙ none) in
    (parts.0, parts.1))

pub returns-clause-indexed : goal.returns-clause-indexed
returns-clause-indexed c =
    let e = c.args.self.now in
    let same = c.push.ensures.same in
    let more = entry c.in_ok-place.place c.args.digest in
    let size : length more ≡ 16 = refl in
    let keys : c.push.new.self.keys.items ≡ e.keys.items ++ more = c.in_ok-push.ensures.keys ∙ ap (λ (l : List ℕ). e.keys.items ++ l) c.entry-entry.ensures in
    let long = ap (λ (l : List ℕ). length l) keys ∙ length-append e.keys.items more in
    let even = c.requires.even in
    let head = c.requires.head in
    let fits = c.requires.fits in
    let end : c.push.new.self.end ≡ e.end = ap (λ x. x.end) same in
    record {
      even = omega (arith, long, size, even);
      chains = subst (λ x. AreChains c.push.new.self.keys.items x) (sym (ap (λ x. x.chains) same)) (subst (λ (l : List ℕ). AreChains l e.chains) (sym keys) (chains_stay e.keys.items more e.chains c.requires.chains));
      head = omega (arith, end, head);
      fits = omega (arith, end, fits);
    }
