use Rattle.std.proofs.lemmas.Result.{IfOk-weaker}
use Rattle.replace_rules.proofs.Sets.{marked_words}
use Rattle.replace_rules.proofs.langs.in_marks.Goals as goal

pub returns : goal.returns
returns c = IfOk-weaker _ _ _ (marked_words c.args.written c.args.a.now) c.renamed.ensures.language
