use Rattle.std.{proofs.{Common.{◌≡◌, ℕ, List, true, ◌∙◌, sym}, lemmas.Str.utf8_lossy-IsUtf8}, specs.Str.IsUtf8}
use Rattle.echo_charset.specs.{declared.charset.Charset.Charset, Charset.decoded_text, Charset.is_utf8}
use Rattle.echo_charset.proofs.charset.Charset.encode_text.Goals as goal

says_itself : (charset : Charset) (text : List ℕ) → is_utf8 charset ≡ true → IsUtf8 text → decoded_text charset text ≡ text
unfolding decoded_text
says_itself charset text is whole = rw is (utf8_lossy-IsUtf8 text whole)

pub returns-in_ok-from_slice : goal.returns-in_ok-from_slice
returns-in_ok-from_slice c =
    rw (c.in_ok-from_slice.ensures.items, c.as_bytes.ensures.value)
    (says_itself c.args.self c.args.text.now (sym c.is_utf8.ensures ∙ c.if-is_utf8.true) c.utf8.text)
