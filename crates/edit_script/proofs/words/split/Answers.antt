use Rattle.edit_script.proofs.Splits.{split_says}
use Rattle.edit_script.proofs.words.split.Goals as goal

pub returns : goal.returns
returns c = split_says c.args.text.now c.split_once.result c.split_once.ensures.cases
