use Rattle.std.proofs.Common.{IsPermutation, subst}
use Rattle.std.proofs.lemmas.Result.{IfOk-weaker}
use Rattle.fsa_subset.specs.Sets.{AreMoves}
use Rattle.fsa_subset.proofs.Settling.{moves_sorted}
use Rattle.fsa_subset.proofs.subsets.moves_of.Goals as goal

pub returns : goal.returns
returns c =
    let rows = c.args.rows.now in
    let set = c.args.set.now in
    let moves = c.in_ok-moves.moves.items in
    IfOk-weaker c.of.result (IsPermutation c.deref.result.now) (AreMoves rows set)
    (λ sorted same. moves_sorted rows set moves sorted (subst (λ ms. IsPermutation ms sorted) c.deref.ensures.value same) c.in_ok-moves.ensures) c.of.ensures
