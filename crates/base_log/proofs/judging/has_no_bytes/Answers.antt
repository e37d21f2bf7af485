use Rattle.std.proofs.Common.{◌≡◌, ◌∙◌, ℕ, List, [], ◌∷◌, length, IsTrue, ap, refl, subst, arith, rules}
use borrow.Author.Count.{below_more}
use Rattle.disk_io.specs.Disk.{bytes_in}
use Rattle.disk_io.proofs.Moments.{nothing_twice}
use Rattle.base_log.specs.Names.{messages_of, keys_of}
use Rattle.base_log.proofs.judging.has_no_bytes.Goals as goal

no_items : (xs : List ℕ) → length xs ≡ 0 → xs ≡ []
no_items [] none = refl
no_items (x ∷ xs) none = absurd (omega (arith, none))

pub numbers-preserved : goal.numbers-preserved
numbers-preserved g c =
    let was = c.numbers.invariant in
    let path = c.args.folder.now in
    let i = c.numbers.number in
    let d0 = g.D.Disk.state c.args.disk.now in
    let d = g.D.Disk.state c.numbers.disk in
    let names = c.in_ok-names.names in
    let m_is : names.messages.items ≡ messages_of path i = c.in_ok-names.ensures.names.messages ∙ ap (λ (p : List ℕ). messages_of p i) c.in_ok-names.ensures.folder in
    let k_is : names.keys.items ≡ keys_of path i = c.in_ok-names.ensures.names.keys ∙ ap (λ (p : List ℕ). keys_of p i) c.in_ok-names.ensures.folder in
    let yes : IsTrue c.in_ok-is_bare.field-0 = search rules in
    record {
      messages = λ honest.
          below_more (λ (n : ℕ). bytes_in (d0.seen (messages_of path n)) ≡ []) i (was.messages (c.is_bare.ensures.quiet.honest honest))
          (no_items (bytes_in (d0.seen (messages_of path i)))
          (subst (λ f. length (bytes_in f) ≡ 0) (ap d.seen m_is ∙ was.quiet.seen (messages_of path i)) ((c.in_ok-is_bare.ensures.bare honest).0 yes).0));
      keys = λ honest.
          below_more (λ (n : ℕ). bytes_in (d0.seen (keys_of path n)) ≡ []) i (was.keys (c.is_bare.ensures.quiet.honest honest))
          (no_items (bytes_in (d0.seen (keys_of path i)))
          (subst (λ f. length (bytes_in f) ≡ 0) (ap d.seen k_is ∙ was.quiet.seen (keys_of path i)) ((c.in_ok-is_bare.ensures.bare honest).0 yes).1));
      quiet = nothing_twice d0 d (g.D.Disk.state c.is_bare.new.disk) was.quiet c.is_bare.ensures.quiet;
      cause = let one = was.cause in let two = c.is_bare.ensures.cause.later in omega (arith, one, two);
    }
