use Rattle.std.proofs.Common.{◌≡◌, ◌↔◌, List, None, subst, sym}
use Rattle.std.specs.List.{Contains}
use Rattle.lookup_walk.specs.declared.moves.Move.{Move}
use Rattle.lookup_walk.proofs.table.epsilon_in.Goals as goal

pub returns-then-state-rows : goal.returns-then-state-rows
returns-then-state-rows c = λ m.
    subst (λ (part : List Move). Contains part m ↔ (Contains c.args.moves.now m × (m.at ≡ record { state = c.args.state; read = None }))) (sym c.part.ensures)
    ((c.requires.rows c.args.state _ c.if-state-rows.true).epsilon m)
