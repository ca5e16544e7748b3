use Rattle.std.proofs.Common.{[], MatchResult, sym, subst, ◌∙◌, append-nil}
use Rattle.word_relations.specs.Words.{joined}
use Rattle.fsm_base.specs.Longest.{TakesLongest, StopsAt}
use Rattle.fsm_base.proofs.CutLemmas.{cut_takes, cut-from_whole, cut-from_stop, joined-takes}
use Rattle.fsm_base.proofs.laws.cut_takes_longest.Goals as goal

pub returns-clause-takes : goal.returns-clause-takes
returns-clause-takes c = λ symbols text are. cut_takes symbols are text

pub returns-clause-only_word : goal.returns-clause-only_word
returns-clause-only_word c = λ symbols text word are takes. cut-from_whole symbols are text word takes

pub returns-clause-only_place : goal.returns-clause-only_place
returns-clause-only_place c = λ symbols text place are stop. cut-from_stop symbols are text place stop

pub returns-clause-joins : goal.returns-clause-joins
returns-clause-joins c = λ symbols text word are e.
    let takes = subst (λ r. MatchResult r (λ word. TakesLongest symbols text word []) (StopsAt symbols text)) e (cut_takes symbols are text) in
    sym (joined-takes symbols word text [] takes ∙ append-nil (joined word))
