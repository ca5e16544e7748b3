use Rattle.std.proofs.Common.{◌≡◌, ◌↔◌, ◌⊎◌, IfSome, List, [], subst}
use Rattle.std.proofs.lemmas.Result.{IfOk-weaker}
use Rattle.fsa.specs.Automaton.{Automaton, UsesLetter}
use Rattle.fsa.specs.Language.{Accepts}
use Rattle.network_algebra.proofs.Counted.{optional_power}
use Rattle.network_algebra.proofs.Smaller.{letters_used}
use Rattle.network_algebra.proofs.repeating.power.Goals as goal

pub returns-in-Some-clause-letters : goal.returns-in-Some-clause-letters
returns-in-Some-clause-letters g c =
    let m = c.args.m.now in
    let rest = c.in-Some.rest in
    let used = subst (λ found. IfSome found (λ (r : Automaton g.row.L.Denot). (x : g.row.L.Denot) → UsesLetter r x → UsesLetter m x)) c.in-Some.is c.in_ok-rest.ensures.letters in
    IfOk-weaker _ _ _ (λ p letters. letters_used p rest (UsesLetter m) letters used) c.at_most.ensures.letters

pub returns-in-Some-clause-language : goal.returns-in-Some-clause-language
returns-in-Some-clause-language g c =
    let m = c.args.m.now in
    let rest = c.in-Some.rest in
    let besides = subst (λ found. IfSome found (λ (r : Automaton g.row.L.Denot). (w : List g.row.L.Denot) → Accepts m w ↔ ((w ≡ []) ⊎ Accepts r w))) c.in-Some.is c.in_ok-rest.ensures.language in
    IfOk-weaker _ _ _ (λ p. optional_power p rest m c.args.count besides) c.at_most.ensures.language
