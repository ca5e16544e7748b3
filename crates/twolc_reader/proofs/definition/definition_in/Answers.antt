use Rattle.std.proofs.Common.{◌∙◌}
use Rattle.twolc_grammar.specs.Sections.{tokens_of}
use Rattle.twolc_reader.proofs.Parts.{unnamed, unended, edged, strange, made}
use Rattle.twolc_reader.proofs.definition.definition_in.Goals as goal

pub returns-in_default : goal.returns-in_default
returns-in_default c = unnamed c.args.names.now (tokens_of c.args.tokens.now) c.in_default.ensures

pub returns-in_default-split_end : goal.returns-in_default-split_end
returns-in_default-split_end c = unended c.args.names.now (tokens_of c.args.tokens.now) c.in-Some.name.now (tokens_of c.in-Some.behind.now) c.in-Some.ensures c.in_default-split_end.ensures

pub returns-then-has_edge : goal.returns-then-has_edge
returns-then-has_edge c =
    edged c.args.names.now (tokens_of c.args.tokens.now) c.in-Some.name.now (tokens_of c.in-Some.behind.now) c.in-Some.ensures (tokens_of c.in-Some-split_end.front.now) c.in-Some-split_end.ensures c.if-has_edge.ensures

pub returns-in_default-2 : goal.returns-in_default-2
returns-in_default-2 c =
    strange c.args.names.now (tokens_of c.args.tokens.now) c.in-Some.name.now (tokens_of c.in-Some.behind.now) c.in-Some.ensures (tokens_of c.in-Some-split_end.front.now) c.in-Some-split_end.ensures c.in_ok-expr.field-0 c.in_default-2.is c.in_ok-expr.ensures

pub returns : goal.returns
returns c =
    made c.args.names.now (tokens_of c.args.tokens.now) c.in-Some.name.now (tokens_of c.in-Some.behind.now) c.in-Some.ensures (tokens_of c.in-Some-split_end.front.now) c.in-Some-split_end.ensures c.in_ok-expr.field-0 c.in-Some-2.expr c.in_ok-name.name c.if-has_edge.ensures c.in-Some-2.is c.in_ok-expr.ensures
    (c.in_ok-name.ensures ∙ c.as_str.ensures)
