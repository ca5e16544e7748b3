use Rattle.std.proofs.Common.{◌≡◌, true, false}
use Rattle.regex_reader.specs.Files.{is_name}
use Rattle.twolc_grammar.specs.Sections.{tokens_of}
use Rattle.twolc_reader.proofs.Parts.{name_no_atom, name_no_equals, name_other, name_there}
use Rattle.twolc_reader.proofs.split.split_name.Goals as goal

pub returns-in_err-name : goal.returns-in_err-name
returns-in_err-name c = rw c.from_residual.ensures (name_no_atom (tokens_of c.args.tokens.now) c.in_err-name.ensures)

pub returns-in_err-behind : goal.returns-in_err-behind
returns-in_err-behind c = rw c.from_residual-in_err-behind.ensures (name_no_equals (tokens_of c.args.tokens.now) c.in_ok-name.name.now (tokens_of c.in_ok-name.rest.now) c.in_ok-name.ensures c.in_err-behind.ensures)

pub returns-then-not-is_name : goal.returns-then-not-is_name
returns-then-not-is_name c =
    let no_name : is_name c.in_ok-name.name.now ≡ false = cc in
    name_other (tokens_of c.args.tokens.now) c.in_ok-name.name.now (tokens_of c.in_ok-name.rest.now) c.in_ok-name.ensures no_name

pub returns : goal.returns
returns c =
    let fine : is_name c.in_ok-name.name.now ≡ true = cc in
    name_there (tokens_of c.args.tokens.now) c.in_ok-name.name.now (tokens_of c.in_ok-name.rest.now) c.in_ok-name.ensures (tokens_of c.in_ok-behind.behind.now) c.in_ok-behind.ensures fine
