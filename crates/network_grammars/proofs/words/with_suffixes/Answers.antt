use Rattle.std.proofs.Common.{◌↔◌, subst, ◌∙◌}
use Rattle.fsa.specs.Language.{Accepts}
use Rattle.expr_meaning.specs.Operators.{AreSuffixed, IsItself}
use Rattle.network_algebra.specs.Networks.{WordsOf}
use Rattle.network_algebra.specs.declared.network.Network.{Network}
use Rattle.network_grammars.proofs.PairWords.{language_suffixes}
use Rattle.network_grammars.proofs.words.with_suffixes.Goals as goal

pub into_words-requires : goal.into_words-requires
into_words-requires c = c.in_ok-apply_suffixes.ensures.meaning.kind_is ∙ language_suffixes c.args.suffixes.now

pub returns-clause-words : goal.returns-clause-words
returns-clause-words c = λ w.
    subst (λ (n : Network). WordsOf n w ↔ AreSuffixed c.args.suffixes.now (Accepts c.args.words) (IsItself (Accepts c.args.words)) w) c.into_words.ensures
    (c.in_ok-apply_suffixes.ensures.meaning.words (language_suffixes c.args.suffixes.now) w)
