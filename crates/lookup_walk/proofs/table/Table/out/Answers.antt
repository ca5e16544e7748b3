use Rattle.std.proofs.Common.{◌≡◌, ◌↔◌, subst, sym}
use Rattle.std.specs.List.{Contains}
use Rattle.lookup_walk.specs.declared.moves.Spot.{Spot}
use Rattle.lookup_walk.proofs.table.Table.out.Goals as goal

pub returns-in-Some : goal.returns-in-Some
returns-in-Some c = λ m.
    subst (λ (at : Spot). Contains c.reading.result.now m ↔ (Contains c.args.self.now m × (m.at ≡ at))) (λ i. record { state = c.args.spot.state; read = sym c.in-Some.is i }) (c.reading.ensures m)

pub returns-in-None : goal.returns-in-None
returns-in-None c = λ m.
    subst (λ (at : Spot). Contains c.epsilon.result.now m ↔ (Contains c.args.self.now m × (m.at ≡ at))) (λ i. record { state = c.args.spot.state; read = sym c.in-None.is i }) (c.epsilon.ensures m)
