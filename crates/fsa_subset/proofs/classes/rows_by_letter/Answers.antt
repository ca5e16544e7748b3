use Rattle.std.proofs.Common.{IsPermutation, ap, subst, ◌∙◌}
use Rattle.std.specs.List.{flat_map}
use Rattle.std.proofs.lemmas.List.{take_all}
use Rattle.std.proofs.lemmas.Result.{IfOk-weaker}
use Rattle.fsa_subset.specs.Classes.{IsByLetter, by_letter}
use Rattle.fsa_subset.proofs.Classing.{by_letter_is}
use Rattle.fsa_subset.proofs.classes.rows_by_letter.Goals as goal

pub returns : goal.returns
returns c =
    let edges = c.args.edges.now in
    let turned = c.loop-edge.turned.items in
    let is = c.loop-edge.invariant ∙ ap (flat_map by_letter) (take_all c.loop-edge.edge-index edges c.loop-edge-test.false) in
    IfOk-weaker c.of.result (IsPermutation c.deref.result.now) (IsByLetter edges)
    (λ rows moved. by_letter_is edges turned rows is (subst (λ es. IsPermutation es rows) c.deref.ensures.value moved)) c.of.ensures
