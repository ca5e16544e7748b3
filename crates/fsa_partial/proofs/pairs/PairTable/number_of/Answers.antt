use Rattle.std.proofs.Common.{List, subst}
use Rattle.std.proofs.lemmas.List.{map-id}
use Rattle.word_relations.specs.Words.{IsDistinct}
use Rattle.fsm_base.proofs.TableLemmas.{IsDistinct-map}
use Rattle.fsa_partial.specs.declared.pairs.ClassPair.{ClassPair}
use Rattle.fsa_partial.proofs.Splits.{pair_eq, same_pair}
use Rattle.fsa_partial.proofs.pairs.PairTable.number_of.Goals as goal

pub returns-clause-once : goal.returns-clause-once
returns-clause-once c =
    subst (λ (l : List ClassPair). IsDistinct l) (map-id c.insert_full.new.self.keys)
    (IsDistinct-map pair_eq (λ (x : ClassPair). x) same_pair c.insert_full.new.self.keys c.in_ok-number.ensures.unique)
