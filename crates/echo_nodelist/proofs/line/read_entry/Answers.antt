use Rattle.std.{proofs.Common.{◌≡◌, ◌∷◌, refl, sym, inr, ap, ◌∙◌, arith, Ok}, specs.List.slice_split}
use Rattle.echo_nodelist.specs.{declared.line.Line.TheVariants.Entry, Raw.is_comma}
use Rattle.echo_nodelist.proofs.{Entries.an_entry, Entries.few_fields, Entries.field_cut, Entries.no_keyword, Entries.no_number, Entries.one_field, Entries.two_fields, line.read_entry.Goals.After-len}
use Rattle.echo_nodelist.proofs.line.read_entry.Goals as goal

first : (c : After-len) → slice_split is_comma c.args.bytes.now ≡ c.in-Some.word.now ∷ slice_split is_comma c.in-Some.rest.now
first c = field_cut c.args.bytes.now c.in-Some.word.now c.in-Some.rest.now c.in-Some.ensures.found c.in-Some.ensures.before c.in-Some.ensures.after

second : (c : After-len) → slice_split is_comma c.in-Some.rest.now ≡ c.in-Some-cut.digits.now ∷ slice_split is_comma c.in-Some-cut.rest.now
second c = field_cut c.in-Some.rest.now c.in-Some-cut.digits.now c.in-Some-cut.rest.now c.in-Some-cut.ensures.found c.in-Some-cut.ensures.before c.in-Some-cut.ensures.after

pub returns-in_default : goal.returns-in_default
returns-in_default c = inr (sym (one_field c.args.line c.args.bytes.now (c.in_default.ensures.none refl)))

pub returns-in_default-cut : goal.returns-in_default-cut
returns-in_default-cut c =
    let first = field_cut c.args.bytes.now c.in-Some.word.now c.in-Some.rest.now c.in-Some.ensures.found c.in-Some.ensures.before c.in-Some.ensures.after in
    inr (sym (two_fields c.args.line c.args.bytes.now c.in-Some.word.now c.in-Some.rest.now first (c.in_default-cut.ensures.none refl)))

pub returns-then-len-lt-LEAST_FIELDS : goal.returns-then-len-lt-LEAST_FIELDS
returns-then-len-lt-LEAST_FIELDS c =
    let at = (goal.at.returns-then-len-lt-LEAST_FIELDS c).After-len in
    inr (sym (few_fields c.args.line c.args.bytes.now c.in-Some.word.now c.in-Some.rest.now c.in-Some-cut.digits.now c.in-Some-cut.rest.now
    c.in_ok-fields.fields.items (first at) (second at) c.in_ok-fields.ensures (omega (arith, c.len.ensures))))

pub returns-in_default-of : goal.returns-in_default-of
returns-in_default-of c =
    let at = (goal.at.returns-in_default-of c).After-len in
    inr (sym (no_keyword c.args.line c.args.bytes.now c.in-Some.word.now c.in-Some.rest.now c.in-Some-cut.digits.now c.in-Some-cut.rest.now
    c.in_ok-fields.fields.items (first at) (second at) c.in_ok-fields.ensures (omega (arith, c.len.ensures)) c.in_default-of.ensures))

pub returns-in_default-number_of : goal.returns-in_default-number_of
returns-in_default-number_of c =
    let at = (goal.at.returns-in_default-number_of c).After-len in
    inr (sym (no_number c.args.line c.args.bytes.now c.in-Some.word.now c.in-Some.rest.now c.in-Some-cut.digits.now c.in-Some-cut.rest.now
    c.in_ok-fields.fields.items (first at) (second at) c.in_ok-fields.ensures (omega (arith, c.len.ensures)) c.in-Some-of.keyword c.in-Some-of.ensures
    c.in_default-number_of.ensures))

pub returns : goal.returns
returns c =
    let at = (goal.at.returns c).After-len in
    inr (
    ap (λ f. Ok (Entry c.in-Some-of.keyword c.in-Some-number_of.number f)) c.new.ensures
    ∙ sym (an_entry c.args.line c.args.bytes.now c.in-Some.word.now c.in-Some.rest.now c.in-Some-cut.digits.now c.in-Some-cut.rest.now
    c.in_ok-fields.fields.items (first at) (second at) c.in_ok-fields.ensures (omega (arith, c.len.ensures)) c.in-Some-of.keyword c.in-Some-of.ensures
    c.in-Some-number_of.number c.in-Some-number_of.ensures)
    )
