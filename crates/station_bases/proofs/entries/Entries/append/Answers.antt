use Rattle.std.proofs.Common.{◌≡◌, ◌-◌, ◌++◌, ℕ, List, length, refl, sym, ap, subst, ◌∙◌, arith, length-append}
use Rattle.base_store.{specs.{Chains.AreChains, Keys.entry}, proofs.Indexed.chains_stay}
use Rattle.station_bases.proofs.entries.Entries.append.Goals as goal

pub returns-clause-keys : goal.returns-clause-keys
returns-clause-keys c = c.in_ok-extend_from_slice.ensures.items ∙ ap (λ (l : List ℕ). c.args.self.now.keys.items ++ l) c.entry-entry.ensures

pub returns-clause-indexed : goal.returns-clause-indexed
returns-clause-indexed c =
    let keys = c.args.self.now.keys.items in
    let more = entry (c.args.self.now.end - 16) c.args.digest in
    let size : length more ≡ 16 = refl in
    let same = c.in_ok-extend_from_slice.ensures.items ∙ ap (λ (l : List ℕ). keys ++ l) c.entry-entry.ensures in
    let long = ap (λ (l : List ℕ). length l) same ∙ length-append keys more in
    let even = c.requires.even in
    let head = c.requires.head in
    record {
      even = omega (arith, long, size, even);
      chains = subst (λ (l : List ℕ). AreChains l c.args.self.now.chains) (sym same) (chains_stay keys more c.args.self.now.chains c.requires.chains);
      head = omega (arith, c.in-Some.ensures, head);
      fits = omega (arith, c.in-Some.ensures);
    }
