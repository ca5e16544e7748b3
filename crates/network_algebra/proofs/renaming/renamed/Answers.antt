use Rattle.std.proofs.lemmas.Result.{IfOk-weaker}
use Rattle.network_algebra.proofs.RenamedWords.{renamed_language, renamed_letters}
use Rattle.network_algebra.proofs.renaming.renamed.Goals as goal

pub returns-clause-letters : goal.returns-clause-letters
returns-clause-letters g c = IfOk-weaker _ _ _ (λ m letters. renamed_letters (g.R.Renaming.name c.args.renaming.now) c.args.a.now m letters) c.substituted.ensures.letters

pub returns-clause-language : goal.returns-clause-language
returns-clause-language g c = IfOk-weaker _ _ _ (λ m same. renamed_language (g.R.Renaming.name c.args.renaming.now) c.args.a.now m same) c.substituted.ensures.language
