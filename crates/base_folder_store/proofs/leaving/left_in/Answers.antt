use Rattle.std.proofs.{Common.{◌≡◌, ◌≤◌, not, ◌&&◌, Bool, true, false, List, ℕ, length, refl, sym, ap, subst, ◌∙◌, arith}, lemmas.Bool.true≢false}
use Rattle.base_file.specs.{Alone.IsStoredAlone, BaseFile.stored_at, Purging.{is_within, stub_if}}
use Rattle.echo_filed.specs.{Filed.Filed, Stored.message_in, Stored.stored_bytes, Stubs.is_stub, Stubs.stub_of, declared.stored.Version.TheVariants.Second}
use Rattle.base_folder_store.{specs.Left.IsLeftOf, proofs.{Causes.{answers_error, answers_whole, handed_on}, Shorter.leaves_less}}
use Rattle.base_folder_store.proofs.leaving.left_in.Goals as goal

pub returns-in_err-message-clause-left : goal.returns-in_err-message-clause-left
returns-in_err-message-clause-left c = λ s size alone is.
    answers_error {T = Filed} (λ (m : Filed). m ≡ message_in Second s) (IsLeftOf c.args.range.now.area c.args.before s) _ c.from_residual.result c.from_residual.ensures.1
    (c.in_err-message.ensures.read (message_in Second s) (record { s = s; size = size; alone = alone; is = refl; same = c.deref.ensures.value ∙ is }))

pub returns-in_err-bytes-clause-left : goal.returns-in_err-bytes-clause-left
returns-in_err-bytes-clause-left c = λ s size alone is.
    answers_whole (IsLeftOf c.args.range.now.area c.args.before s) _ c.from_residual-in_err-bytes.result c.from_residual-in_err-bytes.ensures.1 c.in_err-bytes.ensures.whole

pub returns-in_err-bytes-clause-few : goal.returns-in_err-bytes-clause-few
returns-in_err-bytes-clause-few c is = grind (arith, leaves_less, true≢false, handed_on)

no_change : (a b c : Bool) → (a && b) ≡ false → false ≡ (a && (b && c))
no_change true true c h = absurd (true≢false h)
no_change true false c h = refl
no_change false b c h = refl

one_change : (a b c : Bool) → (a && b) ≡ true → c ≡ (a && (b && c))
one_change true true c h = refl
one_change true false c h = absurd (true≢false (sym h))
one_change false b c h = absurd (true≢false (sym h))

pub returns-then-not-becomes_stub-clause-left : goal.returns-then-not-becomes_stub-clause-left
returns-then-not-becomes_stub-clause-left c = λ s size alone is.
    let m = message_in Second s in
    let area = c.args.range.now.area in
    let read : c.in_ok-message.message ≡ m = c.in_ok-message.ensures.read m (record { s = s; size = size; alone = alone; is = refl; same = c.deref.ensures.value ∙ is }) in
    let stays : (c.args.before && is_within area m) ≡ false = ap (λ (x : Filed). c.args.before && is_within area x) (sym read) ∙ sym c.becomes_stub.ensures ∙ c.if-not-becomes_stub.true in
    let whole : IsStoredAlone c.in_ok-message.message c.args.bytes.items = subst (λ (l : List ℕ). IsStoredAlone c.in_ok-message.message l) c.deref.ensures.value c.in_ok-message.ensures.stored in
    let stored : IsStoredAlone m c.args.bytes.items = subst (λ (x : Filed). IsStoredAlone x c.args.bytes.items) read whole in
    record {
      stored = subst (λ (b : Bool). IsStoredAlone (stub_if b m) c.args.bytes.items) (sym stays) stored;
      shorter = let long = ap (λ (l : List ℕ). length l) is in omega (arith, long);
      changed = no_change c.args.before (is_within area m) (not (is_stub m)) stays;
    }

pub returns-clause-left : goal.returns-clause-left
returns-clause-left c = λ s size alone is.
    let m = message_in Second s in
    let area = c.args.range.now.area in
    let read : c.in_ok-message.message ≡ m = c.in_ok-message.ensures.read m (record { s = s; size = size; alone = alone; is = refl; same = c.deref.ensures.value ∙ is }) in
    let goes : (c.args.before && is_within area m) ≡ true = ap (λ (x : Filed). c.args.before && is_within area x) (sym read) ∙ sym c.becomes_stub.ensures ∙ c.if-not-becomes_stub.false in
    let left : c.make_stub.new.message ≡ stub_of m = c.in_ok-changed.ensures.left ∙ ap stub_of read in
    let bytes : c.in_ok-bytes.bytes.items ≡ stored_bytes Second (stored_at 1 0 (stub_of m)) = c.in_ok-bytes.ensures.bytes ∙ ap (λ (x : Filed). stored_bytes Second (stored_at 1 0 x)) left in
    record {
      stored =
          subst (λ (b : Bool). IsStoredAlone (stub_if b m) c.in_ok-bytes.bytes.items) (sym goes)
          (subst (λ (x : Filed). IsStoredAlone x c.in_ok-bytes.bytes.items) left c.in_ok-bytes.ensures.stored);
      shorter = subst (λ (l : List ℕ). length l ≤ length (stored_bytes Second s)) (sym bytes) (leaves_less s size alone).less;
      changed = c.in_ok-changed.ensures.changed ∙ ap (λ (x : Filed). not (is_stub x)) read ∙ one_change c.args.before (is_within area m) (not (is_stub m)) goes;
    }

pub returns-clause-read : goal.returns-clause-read
returns-clause-read c =
    (c.in_ok-message.message, subst (λ (l : List ℕ). IsStoredAlone c.in_ok-message.message l) c.deref.ensures.value c.in_ok-message.ensures.stored)
