use Rattle.project_model.proofs.Projecting.{numbers_more}
use Rattle.project_model.proofs.plan.numbers_of.Goals as goal

pub numbers-preserved : goal.numbers-preserved
numbers-preserved c = record {
  so_far = numbers_more c.args.table.now c.args.alphabet.now c.numbers.symbols.items c.push.new.self.items c.number_of.result c.in-Some.text.now c.numbers.number c.in-Some.ensures.text c.in_ok-push.ensures.items c.number_of.ensures c.numbers.invariant.so_far;
  few = c.numbers.invariant.few;
  all = c.numbers.invariant.all;
}
