use Rattle.std.proofs.Common.{IsPermutation, subst}
use Rattle.std.proofs.lemmas.Result.{IfOk-weaker}
use Rattle.fsa_subset.specs.Placed.{IsPlaced}
use Rattle.fsa_subset.proofs.Placing.{IsPlaced-permutation}
use Rattle.fsa_subset.proofs.places.placed_rows.Goals as goal

pub returns : goal.returns
returns g c =
    let letters = c.args.letters.now in
    let edges = c.args.edges.now in
    let placed = c.in_ok-placed.placed.items in
    IfOk-weaker c.of.result (IsPermutation c.deref.result.now) (IsPlaced letters edges)
    (λ rows same. IsPlaced-permutation letters edges placed rows (subst (λ es. IsPermutation es rows) c.deref.ensures.value same) c.in_ok-placed.ensures) c.of.ensures
