use Rattle.std.proofs.Common.{map, arith}
use Rattle.project_manifest.specs.Sayings.{placed_of}
use Rattle.project_model.specs.Answers.{written_of}
use Rattle.project_model.proofs.Projecting.{from_names, planned_whole, symbols_held, why_large, why_unknown}
use Rattle.project_model.proofs.plan.plan_of.Goals as goal

pub returns-in-Err-clause-plan : goal.returns-in-Err-clause-plan
returns-in-Err-clause-plan c = from_names (map written_of c.args.written.items) (map placed_of c.args.lines.now) c.args.table.now c.args.table.now c.in-Err.error (rw c.deref.ensures.value at c.in-Err.ensures.error)

pub returns-then-len-gt-MOST_SYMBOLS-clause-plan : goal.returns-then-len-gt-MOST_SYMBOLS-clause-plan
returns-then-len-gt-MOST_SYMBOLS-clause-plan c =
    why_large (map written_of c.args.written.items) (map placed_of c.args.lines.now) c.in-Ok.names c.in_ok-alphabet.alphabet (rw c.deref.ensures.value at c.in-Ok.ensures.names) (rw c.deref-2.ensures.value at c.in_ok-alphabet.ensures) (rw c.deref.ensures.value at c.in-Ok.ensures.faultless) c.args.table.now c.args.table.now c.refused.result (omega arith) c.refused.ensures

pub returns-in-Some-clause-plan : goal.returns-in-Some-clause-plan
returns-in-Some-clause-plan c =
    why_unknown (map written_of c.args.written.items) (map placed_of c.args.lines.now) c.in-Ok.names c.in_ok-alphabet.alphabet (rw c.deref.ensures.value at c.in-Ok.ensures.names) (rw c.deref-2.ensures.value at c.in_ok-alphabet.ensures) (rw c.deref.ensures.value at c.in-Ok.ensures.faultless) c.args.table.now c.args.table.now (omega arith) c.in-Some.line.now.number
    c.refused-in-Some.result c.in-Some.ensures c.refused-in-Some.ensures

pub plan_over-requires-clause-symbols : goal.plan_over-requires-clause-symbols
plan_over-requires-clause-symbols c = symbols_held (map written_of c.args.written.items) (map placed_of c.args.lines.now) c.in-Ok.names c.in_ok-alphabet.alphabet (rw c.deref.ensures.value at c.in-Ok.ensures.names) (rw c.deref-2.ensures.value at c.in_ok-alphabet.ensures) (omega arith)

pub returns-clause-plan : goal.returns-clause-plan
returns-clause-plan c =
    planned_whole (map written_of c.args.written.items) (map placed_of c.args.lines.now) c.in-Ok.names c.in_ok-alphabet.alphabet (rw c.deref.ensures.value at c.in-Ok.ensures.names) (rw c.deref-2.ensures.value at c.in_ok-alphabet.ensures) (rw c.deref.ensures.value at c.in-Ok.ensures.faultless) c.args.table.now c.plan_over.new.table (omega arith) c.in_default.ensures
    c.plan_over.result c.plan_over.ensures.plan
