use Rattle.std.proofs.Common.{◌≡◌, length, sym, ap, ◌∙◌, arith, encode_utf8_all}
use Rattle.std.proofs.lemmas.Result.{IfOk-weaker}
use Rattle.std.proofs.lemmas.Str.{chars_from_encodes, encodes-chars, IsUtf8-string_bytes}
use Rattle.std.specs.Str.{chars}
use Rattle.std.specs.String.{string_bytes}
use Rattle.fsm_base.specs.Normal.{without_returns}
use Rattle.fsm_base.proofs.NormalLemmas.{replaced, without_returns-encodes, length-without_returns}
use Rattle.fsm_base.proofs.normalize.without_returns.Goals as goal
use Rattle.std.proofs.Common.{refl}

pub returns-clause-characters : goal.returns-clause-characters
returns-clause-characters c =
    let text = c.args.text.now in
    IfOk-weaker c.replace.result _ _ (λ kept h.
    let bytes = replaced h.0 _ text (string_bytes kept) refl h.1 in
    let own = encodes-chars text c.utf8.text in
    let spells : encode_utf8_all (without_returns (chars text)) ≡ string_bytes kept =
    sym (without_returns-encodes (chars text)) ∙ ap without_returns own ∙ sym bytes in
    sym (chars_from_encodes (without_returns (chars text)) (string_bytes kept) (IsUtf8-string_bytes kept) spells)) c.replace.ensures.ok

pub returns-clause-short : goal.returns-clause-short
returns-clause-short c =
    let text = c.args.text.now in
    IfOk-weaker c.replace.result _ _ (λ kept h.
    let bytes = replaced h.0 _ text (string_bytes kept) refl h.1 in
    omega (arith, ap length bytes, length-without_returns text)) c.replace.ensures.ok
