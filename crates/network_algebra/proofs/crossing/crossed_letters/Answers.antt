use Rattle.std.proofs.Common.{◌≡◌, ◌∙◌}
use Rattle.std.proofs.lemmas.Result.{IfOk-weaker}
use Rattle.network_algebra.specs.Crossing.{crossed_pairs}
use Rattle.network_algebra.proofs.CrossedLetters.{crossed_lower, crossed_relation, crossed_upper}
use Rattle.network_algebra.proofs.crossing.crossed_letters.Goals as goal

pub returns-clause-upper : goal.returns-clause-upper
returns-clause-upper c =
    let pairs = c.deref.result.now in
    let all : pairs ≡ crossed_pairs c.args.xs.now c.args.ys.now = c.deref.ensures.value ∙ c.in_ok-pairs.ensures in
    IfOk-weaker _ _ _ (λ m used. crossed_upper c.args.xs.now c.args.ys.now pairs m all used) c.one_letter.ensures.letters

pub returns-clause-lower : goal.returns-clause-lower
returns-clause-lower c =
    let pairs = c.deref.result.now in
    let all : pairs ≡ crossed_pairs c.args.xs.now c.args.ys.now = c.deref.ensures.value ∙ c.in_ok-pairs.ensures in
    IfOk-weaker _ _ _ (λ m used. crossed_lower c.args.xs.now c.args.ys.now pairs m all used) c.one_letter.ensures.letters

pub returns-clause-relation : goal.returns-clause-relation
returns-clause-relation c =
    let pairs = c.deref.result.now in
    let all : pairs ≡ crossed_pairs c.args.xs.now c.args.ys.now = c.deref.ensures.value ∙ c.in_ok-pairs.ensures in
    IfOk-weaker _ _ _ (λ m language. crossed_relation c.args.xs.now c.args.ys.now pairs m all language) c.one_letter.ensures.language
