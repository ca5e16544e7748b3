use Rattle.twolc_grammar.specs.Sections.{tokens_of}
use Rattle.twolc_reader.proofs.Verdicts.{no_list, no_set, no_definition, no_rule}
use Rattle.twolc_reader.proofs.statement.statement_in.Goals as goal

pub returns-in-None-clause-says : goal.returns-in-None-clause-says
returns-in-None-clause-says c = no_list c.args.names.now (tokens_of c.args.tokens.now) c.args.section c.in-Alphabet.is c.in_ok-pairs-in-Alphabet.field-0 c.in-None.is c.in_ok-pairs-in-Alphabet.ensures

pub returns-in-None-2-clause-says : goal.returns-in-None-2-clause-says
returns-in-None-2-clause-says c = no_set c.args.names.now (tokens_of c.args.tokens.now) c.args.section c.in-Sets.is c.in_ok-set-in-Sets.field-0 c.in-None-2.is c.in_ok-set-in-Sets.ensures

pub returns-in-None-3-clause-says : goal.returns-in-None-3-clause-says
returns-in-None-3-clause-says c =
    no_definition c.args.names.now (tokens_of c.args.tokens.now) c.args.section c.in-Definitions.is c.in_ok-definition-in-Definitions.field-0 c.in-None-3.is c.in_ok-definition-in-Definitions.ensures

pub returns-in-None-4-clause-says : goal.returns-in-None-4-clause-says
returns-in-None-4-clause-says c = no_rule c.args.names.now (tokens_of c.args.tokens.now) c.args.section c.in-Rules.is c.in_ok-rule-in-Rules.field-0 c.in-None-4.is c.in_ok-rule-in-Rules.ensures.says
