use Rattle.std.proofs.Common.{◌∙◌}
use Rattle.twolc_grammar.specs.Sections.{tokens_of}
use Rattle.twolc_reader.proofs.Parts.{set_unnamed, set_unended, set_empty, set_strange, set_made}
use Rattle.twolc_reader.proofs.list.set_in.Goals as goal

pub returns-in_default : goal.returns-in_default
returns-in_default c = set_unnamed (tokens_of c.args.tokens.now) c.in_default.ensures

pub returns-in_default-split_end : goal.returns-in_default-split_end
returns-in_default-split_end c = set_unended (tokens_of c.args.tokens.now) c.in-Some.name.now (tokens_of c.in-Some.list.now) c.in-Some.ensures c.in_default-split_end.ensures

pub returns-then-is_empty : goal.returns-then-is_empty
returns-then-is_empty c = set_empty (tokens_of c.args.tokens.now) c.in-Some.name.now (tokens_of c.in-Some.list.now) c.in-Some-split_end.atoms.now c.in-Some.ensures c.in-Some-split_end.ensures c.if-is_empty.ensures

pub returns-in_default-2 : goal.returns-in_default-2
returns-in_default-2 c =
    set_strange (tokens_of c.args.tokens.now) c.in-Some.name.now (tokens_of c.in-Some.list.now) (tokens_of c.in-Some-split_end.atoms.now) c.in_ok-symbols.field-0 c.in-Some.ensures c.in-Some-split_end.ensures c.in_default-2.is c.in_ok-symbols.ensures

pub returns : goal.returns
returns c =
    set_made (tokens_of c.args.tokens.now) c.in-Some.name.now (tokens_of c.in-Some.list.now) c.in-Some-split_end.atoms.now c.in_ok-symbols.field-0 c.in-Some-2.symbols c.in_ok-name.name c.in-Some.ensures c.in-Some-split_end.ensures c.if-is_empty.ensures c.in-Some-2.is c.in_ok-symbols.ensures
    (c.in_ok-name.ensures ∙ c.as_str.ensures)
