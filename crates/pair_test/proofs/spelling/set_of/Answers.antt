use Rattle.std.proofs.Common.{[], ◌↔◌, List, subst}
use Rattle.std.specs.List.{Contains}
use Rattle.std.proofs.lemmas.List.{take_all}
use Rattle.fsm_base.specs.declared.letters.Pair.{Pair}
use Rattle.grammar_pairs.proofs.Growing.{from_nothing, nothing_more}
use Rattle.pair_test.proofs.Placed.{set_inserted}
use Rattle.pair_test.proofs.spelling.set_of.Goals as goal

pub pairs-init : goal.pairs-init
pairs-init c = from_nothing c.new-set.result.keys c.new-set.result.keys [] c.new-set.ensures.len (nothing_more c.new-set.result.keys)

pub pairs-preserved : goal.pairs-preserved
pairs-preserved c = set_inserted c.args.pairs.now c.pairs.pair-index _ c.pairs.set.keys c.insert.new.self.keys c.pairs-test.true c.in_ok-insert.ensures.keys c.pairs.invariant

pub returns : goal.returns
returns c =
    subst (λ (z : List Pair). (x : Pair) → Contains c.pairs.set.keys x ↔ Contains z x) (take_all c.pairs.pair-index c.args.pairs.now c.pairs-test.false) c.pairs.invariant
