use Rattle.std.proofs.Common.{subst}
use Rattle.std.proofs.lemmas.Result.{IfOk-weaker}
use Rattle.network_algebra.specs.Networks.{UsesSymbols}
use Rattle.network_trials.proofs.replace_texts.rewriting.Goals as goal

pub replace-requires-clause-distinct : goal.replace-requires-clause-distinct
replace-requires-clause-distinct c = rw c.symbols.ensures.symbols c.symbols.ensures.formed.distinct

pub replace-requires-clause-over : goal.replace-requires-clause-over
replace-requires-clause-over c = rw (c.symbols.ensures.symbols, c.deref.ensures.value) c.in_ok-groups.ensures

pub returns : goal.returns
returns c = IfOk-weaker _ _ _ (λ m. subst (λ symbols. UsesSymbols symbols m) c.symbols.ensures.symbols) c.replace.ensures.symbols
