use Rattle.std.{proofs.Common.{◌≡◌, ◌++◌}, specs.Str.{IsUtf8, chars, encode_utf8_all}}
use Rattle.echo_charset.specs.Charset.{characters}
use Rattle.echo_charset.proofs.charset.Charset.single_bytes.Given as goal

abbrev pub invariant-text : goal.invariant-text
invariant-text l = record {
  said : characters l.self l.bytes.items ≡ encode_utf8_all l.yielded;
  left : l.yielded ++ chars l.character-iterator.rest.now ≡ chars l.text;
  whole : IsUtf8 l.character-iterator.rest.now;
}
