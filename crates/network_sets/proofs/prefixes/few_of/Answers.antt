use Rattle.std.proofs.Common.{◌+◌, ◌-◌, ◌/◌, ◌%◌, arith}
use Rattle.network_sets.proofs.prefixes.few_of.Goals as goal

pub returns-then-count-gt2 : goal.returns-then-count-gt2
returns-then-count-gt2 c = record {
  at_most = omega arith;
  pairs = c.args.count / 2 + c.args.count % 2 - 1;
  left_out = omega (arith, c.if-count-gt2.true);
  some = λ is. omega (arith, is);
}
