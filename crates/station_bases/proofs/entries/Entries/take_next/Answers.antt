use Rattle.std.proofs.Common.{◌≡◌, ◌+◌, ◌-◌, ◌++◌, ◌&&◌, ◌||◌, not, nat_lt, ℕ, List, Bool, false, drop, map, Option, sym, ap, subst, ◌∙◌, arith}
use Rattle.{std.{proofs.lemmas.Bool.or_parts, specs.Prelude.IfSome}, disk_io.specs.Disk.bytes_in, base_file.specs.Base.is_known}
use Rattle.{base_store.specs.Keys.{digested_key, entry}, echo_filed.specs.{Stored.message_in, declared.stored.Version.TheVariants.Second}}
use Rattle.station_bases.specs.{Entries.{AreEntriesOf, entry_digest}, EntryOpening.IsSoundIn, declared.{entries.Entries.Entries, entry_opening.Sound.Sound}}
use Rattle.station_bases.proofs.{EntryJudged.{files_judged, judged_more}, Reach.same_file}
use Rattle.station_bases.proofs.entries.Entries.take_next.Goals as goal

late : (past short : Bool) → (not past && short) ≡ false → past ≡ false → short ≡ false
late past short none at = sym (ap (λ b. not b && short) at) ∙ none

pub returns-clause-judged : goal.returns-clause-judged
returns-clause-judged g c honest = λ taken.
    let d0 = g.D.Disk.state c.args.disk.now in
    let d1 = g.D.Disk.state c.next_sound.new.disk in
    let path = c.args.path.now in
    let file = bytes_in (d0.seen path) in
    let head = c.args.head in
    let e = c.args.self.now in
    let m = c.digest_if_new.new.self in
    let f = c.append.new.self in
    let sound = c.in-Some.sound in
    let h1 = c.digest_if_new.ensures.quiet.honest honest in
    let h0 = c.next_sound.ensures.quiet.honest h1 in
    let j = c.requires.so_far.judged h0 in
    let s = subst (λ (o : Option Sound). IfSome o (λ (x : Sound). IsSoundIn head.cursor c.count-place.result (drop e.end file) x.key x.size x.short)) c.in-Some.is (c.in_ok-sound.ensures.sound h1) in
    let messages = map (message_in Second) j.all in
    let are = subst (λ (l : List ℕ). AreEntriesOf l e messages 0) (sym (same_file d0 d1 path c.next_sound.ensures.quiet)) (files_judged file head e j c.requires.can.indexed.fits) in
    let new = subst (λ (o : Option ℕ). IfSome o (λ (x : ℕ). is_known messages sound.key ≡ false)) c.in-Some-2.is (c.in_ok-digest.ensures.new honest messages 0 are) in
    let digest = subst (λ (o : Option ℕ). IfSome o (λ (x : ℕ). x ≡ entry_digest e (digested_key sound.key))) c.in-Some-2.is c.in_ok-digest.ensures.digest in
    let one = c.digest_if_new.ensures.same in
    let two = c.append.ensures.same in
    let end : m.end ≡ e.end = ap (λ (x : Entries). x.end) one in
    let less = c.requires.more in
    judged_more file head e f j c.count-place.result sound.key sound.size sound.short c.in-Some-2.digest s c.count-place.ensures (omega (arith, less, c.count-place.ensures)) new digest
    (ap (λ (x : Entries). x.digest) two ∙ ap (λ (x : Entries). x.digest) one)
    (c.in_ok-append.ensures.end ∙ ap (λ (n : ℕ). n + sound.size) end)
    (ap (λ (x : Entries). x.waiting.items) two ∙ ap (λ (x : Entries). x.waiting.items) one)
    (c.in_ok-append.ensures.keys ∙ (λ i. (one i).keys.items ++ entry ((one i).end - 16) c.in-Some-2.digest))
    (λ none.
    let parts = or_parts e.odd (not (nat_lt c.count-place.result head.cursor) && sound.short)
    (sym (ap (λ b. b || (not (nat_lt c.count-place.result head.cursor) && sound.short)) (ap (λ (x : Entries). x.odd) one)) ∙ ap (λ b. m.odd || b) (sym c.is_odd-odd.ensures) ∙ sym c.in_ok-append.ensures.odd ∙ none) in
    (parts.0, late (nat_lt c.count-place.result head.cursor) sound.short parts.1))
