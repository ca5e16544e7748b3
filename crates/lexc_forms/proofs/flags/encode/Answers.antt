use Rattle.std.proofs.Common.{◌∙◌, arith}
use Rattle.std.proofs.lemmas.Result.{IfOk-weaker}
use Rattle.std.specs.Str.{encode_utf8_all}
use Rattle.std.specs.String.{string_bytes}
use Rattle.lexc_forms.proofs.Encoding.{encode_more, encode_done}
use Rattle.lexc_forms.proofs.flags.encode.Goals as goal

pub characters-preserved : goal.characters-preserved
characters-preserved c = encode_more c.args.characters.now c.characters.character-index (string_bytes c.characters.text) (encode_utf8_all c.args.characters.now) c.characters.invariant (string_bytes c.push.new.self) c.character-item.result (omega arith) c.character-item.is c.in_ok-push.ensures.bytes

pub returns : goal.returns
returns c =
    IfOk-weaker c.from_string.result _ _ (λ text same. same ∙ encode_done c.args.characters.now c.characters.character-index (string_bytes c.characters.text) (encode_utf8_all c.args.characters.now) c.characters.invariant (omega arith)) c.from_string.ensures
