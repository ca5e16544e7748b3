use Rattle.twolc_grammar.specs.Sections.{tokens_of}
use Rattle.twolc_reader.proofs.Parts.{alphabet_none, alphabet_ok}
use Rattle.twolc_reader.proofs.list.alphabet_in.Goals as goal

pub returns-in_default : goal.returns-in_default
returns-in_default c = alphabet_none (tokens_of c.args.tokens.now) c.in_default.ensures

pub returns : goal.returns
returns c = alphabet_ok (tokens_of c.args.tokens.now) (tokens_of c.in-Some.atoms.now) c.pairs_in.result c.in-Some.ensures c.pairs_in.ensures
