use Rattle.std.proofs.Common.{map}
use Rattle.body_equality.specs.Renumbered.{renumbered}
use Rattle.body_equality.specs.Rows.{token_by}
use Rattle.body_equality.specs.declared.token.Token.{Token}
use Rattle.body_equality.proofs.Same.{Goes}
use Rattle.body_equality.proofs.equality.same_row.Given as goal

-- whether the rows are the same turns on what is left of both
abbrev pub invariant-places : goal.invariant-places
invariant-places l = Goes (λ (t : Token). t) (token_by (renumbered l.numbers)) l.others l.row l.place
