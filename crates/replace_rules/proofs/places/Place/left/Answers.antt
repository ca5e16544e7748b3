use Rattle.std.proofs.Common.{sym, ap, ◌∙◌}
use Rattle.std.specs.Prelude.{option_map}
use Rattle.replace_rules.proofs.places.Place.left.Goals as goal

pub returns-in-Some : goal.returns-in-Some
returns-in-Some c = rw (sym c.context.ensures ∙ ap (option_map (λ b. b.now)) c.in-Some.is, sym c.side.ensures) c.left_words.ensures
