use Rattle.std.proofs.Common.{◌≡◌, ◌∙◌, ap, sym, List, Result, Ok, Err, Option, Some, None}
use Rattle.std.specs.Prelude.{IfOk, option_copied}
use Rattle.echo_addr.specs.declared.address.{Address.Address, NetNode.NetNode}
use Rattle.echo_filed.specs.{declared.key.Key.Key, declared.key.Key.TheVariants.ByContent, declared.key.Key.TheVariants.ById, Filed.Filed, Filed.key_of}
use Rattle.echo_filed.proofs.Keys.{key_reported}
use Rattle.echo_filed.proofs.key.Key.of_front.Goals as goal

each : {A B C E : Type 0} (r : Result Key E) (k : Key) (of : A → B → C → Key) → ((a : A) (b : B) (c : C) → k ≡ of a b c) → IfOk r (λ key. key ≡ k)
    → IfOk r (λ key. (a : A) (b : B) (c : C) → key ≡ of a b c)
each (Ok key) k of all h = λ a b c. h ∙ all a b c
each (Err e) k of all h = tt

pub returns-in-Some : goal.returns-in-Some
returns-in-Some c =
    let reported = ap option_copied (sym c.in-Some.is) ∙ c.msgid.ensures in
    let of : Option Address → List NetNode → List NetNode → Filed = λ sender seen path. record {
      sender = sender;
      date = c.args.date.now;
      to_name = c.args.to_name.now;
      from_name = c.args.from_name.now;
      subject = c.args.subject.now;
      echo = record { tag = c.args.front.now.tag; kept = c.args.front.now.kept; seen = seen; path = path };
    } in
    each c.by_id.result (ById c.as_slice-tag.result.now c.in-Some.msgid.now) (λ sender seen path. key_of (of sender seen path))
    (λ sender seen path. ap (λ t. ById t c.in-Some.msgid.now) c.as_slice-tag.ensures ∙ key_reported (of sender seen path) (Some c.in-Some.msgid.now) reported) c.by_id.ensures

pub returns : goal.returns
returns c =
    let reported = ap option_copied (sym c.in_default.is) ∙ c.msgid.ensures in
    let of : Option Address → List NetNode → List NetNode → Filed = λ sender seen path. record {
      sender = sender;
      date = c.args.date.now;
      to_name = c.args.to_name.now;
      from_name = c.args.from_name.now;
      subject = c.args.subject.now;
      echo = record { tag = c.args.front.now.tag; kept = c.args.front.now.kept; seen = seen; path = path };
    } in
    let tag = c.as_slice-tag.ensures in
    let kept = c.in_ok-kept.ensures in
    each c.by_content.result (ByContent c.as_slice-tag.result.now c.args.date.now c.args.to_name.now c.args.from_name.now c.args.subject.now c.in_ok-kept.kept) (λ sender seen path. key_of (of sender seen path))
    (λ sender seen path. (λ i. ByContent (tag i) c.args.date.now c.args.to_name.now c.args.from_name.now c.args.subject.now (kept i)) ∙ key_reported (of sender seen path) None reported) c.by_content.ensures
