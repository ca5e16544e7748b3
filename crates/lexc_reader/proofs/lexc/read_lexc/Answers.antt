use Rattle.std.proofs.Common.{◌+◌, List, ℕ, drop, ap, ◌∙◌}
use Rattle.regex_tokens.specs.Cuts.{newlines}
use Rattle.lexc_reader.specs.Answers.{IsRead, known_of}
use Rattle.lexc_reader.proofs.Reading.{fault_read, goes_on_more, line_more, passed_on, room, within_more}
use Rattle.lexc_reader.proofs.lexc.read_lexc.Goals as goal

pub read_statement-requires : goal.read_statement-requires
read_statement-requires c =
    let back = c.split_at.ensures.back ∙ ap (drop c.statements.len) c.deref.ensures.value in
    room c.args.text.now c.in_ok-characters.characters.items c.in_ok-characters.ensures c.utf8.text c.requires c.statements.line c.split_at.result.1.now
    (ap (λ (z : List ℕ). c.statements.line + newlines z) back ∙ c.statements.invariant.line_is)

pub statements-preserved : goal.statements-preserved
statements-preserved c =
    let items = c.in_ok-characters.characters.items in
    let rest = c.split_at.result.1.now in
    let rest_is = c.split_at.ensures.back ∙ ap (drop c.statements.len) c.deref.ensures.value in
    let lines = c.statements.line + newlines rest in
    let whole = ap (λ (z : List ℕ). c.statements.line + newlines z) rest_is ∙ c.statements.invariant.line_is in
    let known = known_of c.statements.state in
    let new = known_of c.read_statement.new.state in
    let is = rw c.in-Some.is at c.in_ok-step.ensures in
    record {
      within = within_more items rest c.statements.len lines rest_is whole c.statements.stage known new c.in-Some.step is c.statements.invariant.within;
      line_is = line_more items rest c.statements.len lines rest_is whole c.statements.stage known new c.in-Some.step is;
      goes_on = goes_on_more items rest c.statements.len lines rest_is whole c.statements.stage known new c.in-Some.step is c.statements.invariant.goes_on;
    }

pub returns-in_err-step : goal.returns-in_err-step
returns-in_err-step c =
    let items = c.in_ok-characters.characters.items in
    let rest = c.split_at.result.1.now in
    let rest_is = c.split_at.ensures.back ∙ ap (drop c.statements.len) c.deref.ensures.value in
    let whole = ap (λ (z : List ℕ). c.statements.line + newlines z) rest_is ∙ c.statements.invariant.line_is in
    let error = c.in_err-step.field-0.0 in
    passed_on (IsRead c.args.text.now) c.from_residual-in_err-step.result error c.from_residual-in_err-step.ensures.1
    (fault_read c.args.text.now items rest c.statements.len (c.statements.line + newlines rest) c.statements.stage (known_of c.statements.state) (known_of c.read_statement.new.state) error c.in_ok-characters.ensures rest_is whole c.statements.invariant.goes_on c.in_err-step.ensures)
