use Rattle.std.proofs.Common.{take, length, ◌∙◌}
use Rattle.project_model.proofs.Projecting.{texts_more, grown, begins_with}
use Rattle.project_model.proofs.plan.intern_all.Goals as goal

pub numbers-preserved : goal.numbers-preserved
numbers-preserved c = record {
  texts = texts_more c.args.table.now c.args.alphabet.now c.numbers.table c.intern.new.self c.in-Some.text.now c.numbers.number c.in-Some.ensures.text c.numbers.invariant.texts c.in_ok-intern.ensures.table;
  grown = grown c.numbers.table c.intern.new.self c.in-Some.text.now (length c.args.table.now) c.numbers.number c.numbers.invariant.grown c.in_ok-intern.ensures.table;
  few = c.numbers.invariant.few;
  all = c.numbers.invariant.all;
}

pub returns-in_err-intern-clause-front : goal.returns-in_err-intern-clause-front
returns-in_err-intern-clause-front c = begins_with c.args.table.now c.intern.new.self (take c.numbers.number c.args.alphabet.now) (c.in_err-intern.ensures.err ∙ c.numbers.invariant.texts)

pub returns-clause-front : goal.returns-clause-front
returns-clause-front c = begins_with c.args.table.now c.numbers.table (take c.numbers.number c.args.alphabet.now) c.numbers.invariant.texts
