use Rattle.std.proofs.Common.{ℕ, List, eq-eqb, subst, ◌∙◌}
use Rattle.std.specs.Prelude.{nat_eq}
use Rattle.std.proofs.lemmas.List.{map-id, take_all}
use Rattle.word_relations.specs.Words.{IsDistinct}
use Rattle.fsm_base.proofs.TableLemmas.{IsDistinct-map}
use Rattle.fsa_partial.proofs.refining.are_distinct.Goals as goal

pub returns : goal.returns
returns c = λ _.
    let keys = c.loop-number.met.keys in
    subst (λ (l : List ℕ). IsDistinct l) (map-id keys ∙ c.loop-number.invariant.met ∙ take_all c.loop-number.number-index c.args.numbers.now c.loop-number-test.false)
    (IsDistinct-map nat_eq (λ (x : ℕ). x) (λ a b e. eq-eqb a b e) keys c.loop-number.invariant.once)
