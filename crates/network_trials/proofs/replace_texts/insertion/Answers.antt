use Rattle.std.proofs.Common.{sym, subst, ◌∙◌}
use Rattle.std.proofs.lemmas.Result.{IfOk-weaker}
use Rattle.network_algebra.specs.Networks.{UsesSymbols}
use Rattle.network_trials.proofs.Lists.{over_itself}
use Rattle.network_trials.proofs.replace_texts.insertion.Goals as goal

pub insert-requires-clause-distinct : goal.insert-requires-clause-distinct
insert-requires-clause-distinct c = rw c.symbols.ensures.symbols c.symbols.ensures.formed.distinct

pub insert-requires-clause-over : goal.insert-requires-clause-over
insert-requires-clause-over c = over_itself c.in_ok-put.put.letters c.symbols.result.now (c.in_ok-put.ensures ∙ sym c.symbols.ensures.symbols)

pub returns : goal.returns
returns c = IfOk-weaker _ _ _ (λ m. subst (λ symbols. UsesSymbols symbols m) c.symbols.ensures.symbols) c.insert.ensures.symbols
