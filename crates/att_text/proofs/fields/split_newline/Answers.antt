use Rattle.std.proofs.Common.{arith}
use Rattle.att_text.proofs.Pieces.{split_says}
use Rattle.att_text.proofs.fields.split_newline.Goals as goal

pub returns : goal.returns
returns c = split_says 10 (omega arith) c.args.text.now c.split_once.result c.split_once.ensures.cases
