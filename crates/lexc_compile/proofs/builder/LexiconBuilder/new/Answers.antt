use Rattle.lexc_compile.proofs.Given.{given_none}
use Rattle.lexc_compile.proofs.builder.LexiconBuilder.new.Goals as goal

pub returns-clause-given : goal.returns-clause-given
returns-clause-given c =
    given_none c.args.count c.args.root c.requires.root c.in_ok-automaton.automaton c.add_epsilon.new.m c.new.result c.new.ensures c.in_ok-automaton.ensures c.in_ok-add_epsilon.ensures
