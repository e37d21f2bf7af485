use Rattle.std.proofs.Common.{◌≡◌, ◌+◌, ◌/◌, Bool, List, length, true, refl, sym, subst}
use Rattle.base_store.{specs.{Expected.are_set, Keys.digest_at, declared.expected.Expected.Expected}, proofs.Found.{found_more, found_some}}
use Rattle.base_store.proofs.expected.Expected.go_over.Goals as goal

pub returns-in_err-find_all-clause-found : goal.returns-in_err-find_all-clause-found
returns-in_err-find_all-clause-found c = λ keys at is was.
    let now : Expected = record c.args.self.now { places = c.find_all.new.places } in
    found_some keys c.args.piece.now c.args.from c.args.self.now now refl (λ d. refl) is was c.find_all.ensures.kept c.find_all.ensures.only

pub returns-clause-found : goal.returns-clause-found
returns-clause-found c = λ keys at is was.
    let piece = c.args.piece.now in
    let now : Expected = record c.args.self.now { places = c.find_all.new.places; passed = c.args.from + length piece / 16 } in
    found_more keys piece c.args.from c.args.self.now now at refl (λ d. refl) is was c.find_all.ensures.kept
    (λ i low set. c.in_ok-find_all.ensures.found i low
    (subst (λ (l : List Bool). are_set l c.deref-2.result.now (digest_at piece i) ≡ true) (sym c.deref.ensures.value) (subst (λ (l : List Bool). are_set c.args.self.now.low.items l (digest_at piece i) ≡ true) (sym c.deref-2.ensures.value) set)))
    c.find_all.ensures.only
