use Rattle.std.proofs.Common.{◌∙◌}
use Rattle.twolc_grammar.specs.Sections.{tokens_of}
use Rattle.twolc_reader.proofs.Heads.{no_name, no_centre, no_arrow, strange_centre, strange_contexts, no_contexts, made, none_left, some_left}
use Rattle.twolc_reader.proofs.rule.rule_in.Goals as goal

pub returns-in_default-clause-says : goal.returns-in_default-clause-says
returns-in_default-clause-says c = no_name c.args.names.now (tokens_of c.args.tokens.now) c.in_default.ensures

pub returns-in_default-split_atom-clause-says : goal.returns-in_default-split_atom-clause-says
returns-in_default-split_atom-clause-says c =
    no_centre c.args.names.now (tokens_of c.args.tokens.now) c.in-Some.name.now (tokens_of c.in-Some.behind_name.now) c.in-Some.ensures c.in_default-split_atom.ensures

pub returns-in_default-split_arrow-clause-says : goal.returns-in_default-split_arrow-clause-says
returns-in_default-split_arrow-clause-says c =
    no_arrow c.args.names.now (tokens_of c.args.tokens.now) c.in-Some.name.now (tokens_of c.in-Some.behind_name.now) c.in-Some.ensures c.in-Some-split_atom.centre.now (tokens_of c.in-Some-split_atom.behind_centre.now) c.in-Some-split_atom.ensures c.in_default-split_arrow.ensures

pub returns-in_default-2-clause-says : goal.returns-in_default-2-clause-says
returns-in_default-2-clause-says c =
    strange_centre c.args.names.now (tokens_of c.args.tokens.now) c.in-Some.name.now (tokens_of c.in-Some.behind_name.now) c.in-Some.ensures c.in-Some-split_atom.centre.now (tokens_of c.in-Some-split_atom.behind_centre.now) c.in-Some-split_atom.ensures c.in-Some-split_arrow.kind (tokens_of c.in-Some-split_arrow.rest.now) c.in-Some-split_arrow.ensures
    c.in_ok-pair.field-0 c.in_default-2.is (rw c.as_str.ensures at c.in_ok-pair.ensures)

pub returns-then-is_empty-clause-says : goal.returns-then-is_empty-clause-says
returns-then-is_empty-clause-says c =
    no_contexts c.args.names.now (tokens_of c.args.tokens.now) c.in-Some.name.now (tokens_of c.in-Some.behind_name.now) c.in-Some.ensures c.in-Some-split_atom.centre.now (tokens_of c.in-Some-split_atom.behind_centre.now) c.in-Some-split_atom.ensures c.in-Some-split_arrow.kind (tokens_of c.in-Some-split_arrow.rest.now) c.in-Some-split_arrow.ensures
    (none_left c.in-Some-split_arrow.rest.now c.if-is_empty.ensures)

pub returns-in_default-3-clause-says : goal.returns-in_default-3-clause-says
returns-in_default-3-clause-says c =
    strange_contexts c.args.names.now (tokens_of c.args.tokens.now) c.in-Some.name.now (tokens_of c.in-Some.behind_name.now) c.in-Some.ensures c.in-Some-split_atom.centre.now (tokens_of c.in-Some-split_atom.behind_centre.now) c.in-Some-split_atom.ensures c.in-Some-split_arrow.kind (tokens_of c.in-Some-split_arrow.rest.now) c.in-Some-split_arrow.ensures
    c.in_ok-contexts.field-0 c.in_default-3.is c.in_ok-contexts.ensures

pub returns-clause-says : goal.returns-clause-says
returns-clause-says c =
    made c.args.names.now (tokens_of c.args.tokens.now) c.in-Some.name.now (tokens_of c.in-Some.behind_name.now) c.in-Some.ensures c.in-Some-split_atom.centre.now (tokens_of c.in-Some-split_atom.behind_centre.now) c.in-Some-split_atom.ensures c.in-Some-split_arrow.kind (tokens_of c.in-Some-split_arrow.rest.now) c.in-Some-split_arrow.ensures
    c.in_ok-name.name c.in_ok-pair.field-0 c.in-Some-2.pair c.in_ok-contexts.field-0 c.in-Some-3.contexts (c.in_ok-name.ensures ∙ c.as_str-2.ensures) c.in-Some-2.is (rw c.as_str.ensures at c.in_ok-pair.ensures) (some_left c.in-Some-split_arrow.rest.now c.if-is_empty.ensures)
    c.in-Some-3.is c.in_ok-contexts.ensures
