use Rattle.std.proofs.Common.{sym, ap, ◌∙◌}
use Rattle.std.proofs.lemmas.Simd.{map-map}
use Rattle.regex_reader.specs.Brackets.{nests_too_deep}
use Rattle.twolc_grammar.specs.Statements.{bracket_of}
use Rattle.twolc_tokens.specs.declared.token.Placed.{Placed}
use Rattle.twolc_reader.proofs.brackets.is_too_deep.Goals as goal

pub returns : goal.returns
returns c = c.nests_too_deep.ensures ∙ ap (nests_too_deep 0) (sym (map-map bracket_of (λ (p : Placed). p.token) c.args.tokens.now))
