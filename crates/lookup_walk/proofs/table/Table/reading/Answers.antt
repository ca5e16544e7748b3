use Rattle.std.proofs.Common.{◌≡◌, ◌↔◌, List, Some, subst, ◌∙◌}
use Rattle.std.specs.List.{Contains}
use Rattle.lookup_walk.specs.declared.moves.Move.{Move}
use Rattle.lookup_walk.proofs.table.Table.reading.Goals as goal

pub returns : goal.returns
returns c = λ m.
    subst (λ (moves : List Move). Contains c.reading_in.result.now m ↔ (Contains moves m × (m.at ≡ record { state = c.args.state; read = Some c.args.symbol }))) (c.as_slice.ensures.value ∙ c.self.view_is) (c.reading_in.ensures m)
