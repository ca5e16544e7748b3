use Rattle.std.proofs.Common.{◌≡◌, map, refl, sym, ◌∙◌, arith}
use Rattle.body_equality.specs.Renumbered.{renumbered}
use Rattle.body_equality.specs.Rows.{token_by}
use Rattle.body_equality.specs.declared.token.Token.{Token}
use Rattle.body_equality.proofs.Same.{goes_to_end, map_itself}
use Rattle.body_equality.proofs.equality.same_row.Goals as goal

pub returns : goal.returns
returns c =
    let same = goes_to_end (λ (t : Token). t) (token_by (renumbered c.args.numbers.now)) c.args.others.now c.args.row.now c.places.place (omega arith) (omega arith) c.places.invariant in
    (λ yes. sym (map_itself c.args.others.now) ∙ same, λ is. refl)
