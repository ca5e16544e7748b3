use Rattle.std.proofs.Common.{◌≡◌, None}
use Rattle.lookup.specs.Steps.{Ends}
use Rattle.lookup.proofs.Adding.{AddsSteps-same}
use Rattle.lookup.proofs.part.end.Goals as goal

pub returns-in_ok-add : goal.returns-in_ok-add
returns-in_ok-add c =
    let final = c.is_final.ensures.0 c.if-is_final.true in
    AddsSteps-same (λ l t. (l ≡ None) × (t ≡ None)) (Ends c.args.finals.now c.args.state) c.args.node c.args.explored.now c.add.new.self
    (λ l t (letter, target). (letter, target, final)) (λ l t (letter, target, is). (letter, target)) c.in_ok-add.ensures
