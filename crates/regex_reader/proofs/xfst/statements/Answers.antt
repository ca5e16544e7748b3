use Rattle.std.proofs.Common.{◌≡◌, map, [], ◌∷◌, ◌++◌}
use Rattle.regex_reader.specs.Files.{Says, statement_of}
use Rattle.regex_reader.specs.Reads.{IsAnswer}
use Rattle.regex_reader.specs.Verdicts.{placed}
use Rattle.regex_reader.proofs.Errors.{passed_on}
use Rattle.regex_reader.proofs.Placed.{no_semicolon}
use Rattle.regex_reader.proofs.Stepping.{step, stopped}
use Rattle.regex_reader.proofs.xfst.statements.Goals as goal

pub returns-in_err-statement : goal.returns-in_err-statement
returns-in_err-statement c =
    passed_on (IsAnswer (Says (placed c.args.tokens.now c.args.places.now) c.args.ending)) c.from_residual.result c.in_err-statement.field-0.0 c.from_residual.ensures.1
    (stopped c.args.tokens.now c.args.places.now c.statements.rest.now c.statements.rest_places.now c.args.ending (map statement_of c.statements.defines.items) c.in-Some.last _ _ c.in_err-statement.field-0.0 c.split_at.ensures.front c.split_at-in-Some.ensures.front
    c.in-Some.ensures.first c.statements.invariant.0 c.statements.invariant.1 c.in_err-statement.ensures)

pub statements-preserved : goal.statements-preserved
statements-preserved c =
    let items : c.push.new.self.items ≡ c.statements.defines.items ++ c.in_ok-statement.field-0 ∷ [] = c.in_ok-push.ensures.items in
    step c.args.tokens.now c.args.places.now c.statements.rest.now c.statements.rest_places.now c.args.ending c.statements.defines.items c.in_ok-statement.field-0 c.in-Some.last _ _ _ _ c.push.new.self.items
    c.split_at.ensures.front c.split_at-in-Some.ensures.front c.split_at.ensures.back c.split_at-in-Some.ensures.back c.in-Some.ensures.first c.statements.invariant.0 c.statements.invariant.1 c.in_ok-statement.ensures items

pub ended-requires-clause-none : goal.ended-requires-clause-none
ended-requires-clause-none c = no_semicolon c.statements.rest.now c.in_default.ensures.first
