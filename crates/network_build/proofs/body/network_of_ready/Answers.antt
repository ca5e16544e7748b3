use Rattle.std.proofs.Common.{map}
use Rattle.regex_ast.specs.Terms.{term}
use Rattle.name_resolution.specs.Plain.{lexicon_of}
use Rattle.network_build.proofs.Sounds.{expression_made, grammar_made, lexicons_made}
use Rattle.network_build.proofs.body.network_of_ready.Goals as goal

pub network_of-requires-clause-built : goal.network_of-requires-clause-built
network_of-requires-clause-built c = (rw c.in-Xfst.is at c.requires.ready).0

pub network_of-requires-clause-fits : goal.network_of-requires-clause-fits
network_of-requires-clause-fits c = (rw c.in-Xfst.is at c.requires.ready).1

pub returns-in-Xfst : goal.returns-in-Xfst
returns-in-Xfst c = rw c.in-Xfst.is (expression_made c.args.parts.now c.args.symbols.now (term c.in-Xfst.expr) c.network_of.result c.network_of.ensures.letters c.network_of.ensures.meaning)

pub network_of_lexicons-requires-clause-built : goal.network_of_lexicons-requires-clause-built
network_of_lexicons-requires-clause-built c = rw c.deref.ensures.value (rw c.in-Lexc.is at c.requires.ready).0

pub network_of_lexicons-requires-clause-distinct : goal.network_of_lexicons-requires-clause-distinct
network_of_lexicons-requires-clause-distinct c = rw c.deref.ensures.value (rw c.in-Lexc.is at c.requires.ready).1.distinct

pub network_of_lexicons-requires-clause-root : goal.network_of_lexicons-requires-clause-root
network_of_lexicons-requires-clause-root c = rw c.deref.ensures.value (rw c.in-Lexc.is at c.requires.ready).1.root

pub returns-in-Lexc : goal.returns-in-Lexc
returns-in-Lexc c =
    rw (c.in-Lexc.is, ← c.deref.ensures.value)
    (lexicons_made c.args.parts.now c.args.symbols.now (map lexicon_of c.deref.result.now) c.network_of_lexicons.result c.network_of_lexicons.ensures.letters c.network_of_lexicons.ensures.kind c.network_of_lexicons.ensures.meaning)

pub network_of_grammar-requires : goal.network_of_grammar-requires
network_of_grammar-requires c = (rw c.in-Twolc.is at c.requires.ready).1

pub returns-in-Twolc : goal.returns-in-Twolc
returns-in-Twolc c =
    rw c.in-Twolc.is
    (grammar_made c.args.parts.now c.args.symbols.now c.in-Twolc.grammar c.network_of_grammar.result (rw c.in-Twolc.is at c.requires.ready).0 c.network_of_grammar.ensures.letters c.network_of_grammar.ensures.kind
    c.network_of_grammar.ensures.meaning)
