use Rattle.std.proofs.Common.{◌↔◌, List, IfOk, sym, subst}
use Rattle.std.proofs.lemmas.Result.{IfOk-weaker}
use Rattle.fsa.specs.Language.{Accepts}
use Rattle.expr_meaning.specs.Operators.{IsRepetitionOf}
use Rattle.network_algebra.specs.Networks.{Counts}
use Rattle.network_algebra.proofs.Counted.{power_any, power_some}
use Rattle.network_algebra.proofs.Meanings.{joined_used}
use Rattle.network_algebra.proofs.repeating.repeat_automaton.Goals as goal

pub returns-in-Any-clause-language : goal.returns-in-Any-clause-language
returns-in-Any-clause-language g c =
    subst (λ t. IfOk c.star.result (λ p. (w : List g.row.L.Denot) → Accepts p w ↔ IsRepetitionOf (Counts t) (Accepts c.args.m.now) w)) (sym c.in-Any.is)
    (IfOk-weaker _ _ _ (λ p language. power_any p (Accepts c.args.m.now) language) c.star.ensures.language)

pub returns-in_ok-star-in-OneOrMore-clause-letters : goal.returns-in_ok-star-in-OneOrMore-clause-letters
returns-in_ok-star-in-OneOrMore-clause-letters g c =
    let m = c.args.m.now in
    IfOk-weaker _ _ _ (λ p. joined_used m m c.in_ok-star-in-OneOrMore.field-0 p (λ x h. h) c.in_ok-star-in-OneOrMore.ensures.letters) c.concat-in-OneOrMore.ensures.letters

pub returns-in_ok-star-in-OneOrMore-clause-language : goal.returns-in_ok-star-in-OneOrMore-clause-language
returns-in_ok-star-in-OneOrMore-clause-language g c =
    subst (λ t. IfOk c.concat-in-OneOrMore.result (λ p. (w : List g.row.L.Denot) → Accepts p w ↔ IsRepetitionOf (Counts t) (Accepts c.args.m.now) w)) (sym c.in-OneOrMore.is)
    (IfOk-weaker _ _ _ (λ p language. power_some p c.args.m.now c.in_ok-star-in-OneOrMore.field-0 language c.in_ok-star-in-OneOrMore.ensures.language) c.concat-in-OneOrMore.ensures.language)

pub returns-in-Exactly-clause-language : goal.returns-in-Exactly-clause-language
returns-in-Exactly-clause-language g c =
    subst (λ t. IfOk c.power.result (λ p. (w : List g.row.L.Denot) → Accepts p w ↔ IsRepetitionOf (Counts t) (Accepts c.args.m.now) w)) (sym c.in-Exactly.is) c.power.ensures.language
