use Rattle.std.proofs.Common.{arith}
use Rattle.flag_texts.proofs.Splits.{split_says}
use Rattle.flag_texts.proofs.reading.split_dot.Goals as goal

pub returns : goal.returns
returns c = split_says 46 (omega arith) c.args.text.now c.split_once.result c.split_once.ensures.cases
