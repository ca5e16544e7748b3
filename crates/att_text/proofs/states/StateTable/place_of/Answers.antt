use Rattle.std.proofs.Common.{ℕ, List, eq-eqb, subst}
use Rattle.std.specs.Prelude.{nat_eq}
use Rattle.std.proofs.lemmas.List.{map-id}
use Rattle.word_relations.specs.Words.{IsDistinct}
use Rattle.fsm_base.proofs.TableLemmas.{IsDistinct-map}
use Rattle.att_text.proofs.states.StateTable.place_of.Goals as goal

pub returns-clause-once : goal.returns-clause-once
returns-clause-once c =
    subst (λ (l : List ℕ). IsDistinct l) (map-id c.insert_full.new.self.keys)
    (IsDistinct-map nat_eq (λ (x : ℕ). x) (λ a b e. eq-eqb a b e) c.insert_full.new.self.keys c.in_ok-place.ensures.unique)
