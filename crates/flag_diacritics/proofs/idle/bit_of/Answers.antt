use Rattle.flag_diacritics.proofs.Rows.{one_bit, own_bit}
use Rattle.flag_diacritics.proofs.idle.bit_of.Goals as goal

pub returns-then-feature-lt-MASKED : goal.returns-then-feature-lt-MASKED
returns-then-feature-lt-MASKED c = record {
  alone = λ other idle. one_bit c.args.feature other c.if-feature-lt-MASKED.true idle;
  there = own_bit c.args.feature;
}
