use Rattle.std.proofs.lemmas.Result.{IfOk-weaker}
use Rattle.two_level.proofs.MarkedStrings.{part_used, part_accepts}
use Rattle.two_level.proofs.marks.as_part.Goals as goal

pub returns-clause-letters : goal.returns-clause-letters
returns-clause-letters c = IfOk-weaker _ _ _ (part_used c.args.a.now) c.renamed.ensures.letters

pub returns-clause-words : goal.returns-clause-words
returns-clause-words c = IfOk-weaker _ _ _ (part_accepts c.args.a.now) c.renamed.ensures.language
