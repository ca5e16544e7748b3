use Rattle.std.proofs.Common.{arith}
use Rattle.flag_diacritics.proofs.Rows.{none_of_either}
use Rattle.flag_diacritics.proofs.idle.with_settled.Goals as goal

pub returns-in-Has : goal.returns-in-Has
returns-in-Has c = record {
  kept = λ other none. (none_of_either c.args.bits c.bit_of.result other none).0;
  added = λ within none.
      let there = c.bit_of.ensures.there within in
      let none_there = (none_of_either c.args.bits c.bit_of.result c.args.feature none).1 in
      absurd (omega arith);
}
