use Rattle.std.proofs.Common.{◌++◌, ◌∷◌, [], append_assoc, decimal, sym, ◌∙◌}
use Rattle.std.proofs.lemmas.Result.{IfOk-weaker}
use Rattle.interlinear.proofs.cells.counted.Goals as goal

pub returns : goal.returns
returns c =
    IfOk-weaker c.from_string.result _ _
    (λ text same.
    same ∙ c.in_ok-analysis.ensures.ok
    ∙ sym (append_assoc (c.args.text.now ++ 40 ∷ []) (decimal c.args.count) (41 ∷ []) ∙ append_assoc c.args.text.now (40 ∷ []) (decimal c.args.count ++ 41 ∷ [])))
    c.from_string.ensures
