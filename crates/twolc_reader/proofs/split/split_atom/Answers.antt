use Rattle.twolc_tokens.specs.declared.token.Token.TheVariants.{Atom as atom}
use Rattle.twolc_reader.proofs.Fronts.{none_first, other_first, first_is}
use Rattle.twolc_reader.proofs.split.split_atom.Goals as goal

pub returns-in_default : goal.returns-in_default
returns-in_default c = λ text rest. none_first c.args.tokens.now (atom text) rest c.in_default.ensures.cases

pub returns-in-Atom : goal.returns-in-Atom
returns-in-Atom c = first_is c.args.tokens.now c.in-Some.first.now c.in-Some.rest.now (atom c.in-Atom.atom) c.in-Some.ensures.cases.0 c.in-Atom.is

pub returns-in_default-token : goal.returns-in_default-token
returns-in_default-token c = λ text rest. other_first c.args.tokens.now c.in-Some.first.now c.in-Some.rest.now (atom text) rest c.in-Some.ensures.cases.0 (c.in_default-token.not-Atom text)
