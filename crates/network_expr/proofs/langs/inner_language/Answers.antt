use Rattle.network_expr.proofs.RuleMeaning.{inside_over}
use Rattle.network_expr.proofs.langs.inner_language.Goals as goal

pub of-requires-clause-all : goal.of-requires-clause-all
of-requires-clause-all c = inside_over c.args.alphabet.now c.args.words.now c.in_ok-inside.field-0 c.requires.only c.in_ok-inside.ensures.letters
