use Rattle.std.proofs.lemmas.Result.{IfOk-weaker}
use Rattle.named_networks.proofs.Answered.{language_is}
use Rattle.named_networks.proofs.languages.language_of.Goals as goal

pub of-requires-clause-all : goal.of-requires-clause-all
of-requires-clause-all c x used = (c.in_ok-pairs.ensures.symbols c.args.symbols.now c.requires.over).upper x (c.in_ok-upper.ensures.letters x used)

pub returns : goal.returns
returns c =
    IfOk-weaker _ _ _
    (λ lang is. language_is c.args.network c.requires.kind c.in_ok-pairs.pairs c.in_ok-pairs.ensures.pairs c.in_ok-upper.field-0 c.in_ok-upper.ensures.language c.args.symbols.now lang is)
    c.of-2.ensures
