use Rattle.std.proofs.Common.{◌≡◌, ◌++◌, drop}
use Rattle.std.specs.Str.{encode_utf8_all}
use Rattle.std.specs.String.{string_bytes}
use Rattle.lexc_forms.proofs.flags.encode.Given as goal

-- the text so far, and that of the other characters
abbrev pub invariant-characters : goal.invariant-characters
invariant-characters l = string_bytes l.text ++ encode_utf8_all (drop l.character-index l.characters) ≡ encode_utf8_all l.characters
