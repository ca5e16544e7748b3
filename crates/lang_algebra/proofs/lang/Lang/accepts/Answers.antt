use Rattle.std.proofs.Common.{sym, subst}
use Rattle.word_relations.specs.Words.{IsOver}
use Rattle.lang_algebra.proofs.lang.Lang.accepts.Goals as goal

pub accepts-requires : goal.accepts-requires
accepts-requires g c = subst (λ d. IsOver d.letters c.args.word.now) (sym c.self.view_is) c.requires
