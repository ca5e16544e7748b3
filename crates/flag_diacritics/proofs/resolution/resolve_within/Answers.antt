use Rattle.std.proofs.Common.{◌≡◌, ℕ, List, Option, Some, IfSome, ap, subst}
use Rattle.fsa.specs.Automaton.{Automaton}
use Rattle.flag_diacritics.specs.declared.actions.Action.{Action}
use Rattle.flag_diacritics.specs.declared.idle.Idle.{Idle}
use Rattle.flag_diacritics.specs.declared.search.Explored.{Explored}
use Rattle.flag_diacritics.specs.declared.tape.Tape.{Tape}
use Rattle.flag_diacritics.specs.Idle.{live_behind}
use Rattle.flag_diacritics.specs.Search.{IsResolved, Names}
use Rattle.flag_diacritics.proofs.Passing.{all_neutral}
use Rattle.flag_diacritics.proofs.Resolved.{resolved_within, resolved_letters, resolved_language, resolved_relation}
use Rattle.flag_diacritics.proofs.resolution.resolve_within.Goals as goal

-- what was found within the steps
abbrev Found : List Action → Idle → Automaton Tape → ℕ → Explored → Type 0
Found actions idle net features built = (names : Names) × IsResolved (live_behind actions idle) net (all_neutral features) names built.edges.items built.finals.items

found : (actions : List Action) (idle : Idle) (net : Automaton Tape) (features : ℕ) (o : Option Explored) (built : Explored) → o ≡ Some built → IfSome o (Found actions idle net features) → Found actions idle net features built
found actions idle net features o built is h = subst (λ (z : Option Explored). IfSome z (Found actions idle net features)) is h

pub of-m-requires-clause-within : goal.of-m-requires-clause-within
of-m-requires-clause-within c =
    let here = found c.in_ok-actions.actions.list.items c.in_ok-idle.idle c.args.net.now c.in_ok-actions.actions.features _ c.in-Some.built c.in-Some.is c.in_ok-built.ensures.found in
    resolved_within (live_behind c.in_ok-actions.actions.list.items c.in_ok-idle.idle) c.args.net.now (all_neutral c.in_ok-actions.actions.features) here.0 c.in-Some.built.edges.items c.in-Some.built.finals.items here.1

pub returns-clause-pairs : goal.returns-clause-pairs
returns-clause-pairs c x uses =
    let here = found c.in_ok-actions.actions.list.items c.in_ok-idle.idle c.args.net.now c.in_ok-actions.actions.features _ c.in-Some.built c.in-Some.is c.in_ok-built.ensures.found in
    resolved_letters c.in_ok-actions.actions.list.items c.in_ok-idle.idle c.args.net.now c.in_ok-idle.ensures (all_neutral c.in_ok-actions.actions.features) here.0 c.of-m.result (rw c.of-m.ensures here.1) x (c.in_ok-trim.ensures.letters x uses)

pub returns-clause-language : goal.returns-clause-language
returns-clause-language c pairs =
    let here = found c.in_ok-actions.actions.list.items c.in_ok-idle.idle c.args.net.now c.in_ok-actions.actions.features _ c.in-Some.built c.in-Some.is c.in_ok-built.ensures.found in
    let are = c.in_ok-actions.ensures in
    let whole = resolved_language c.in_ok-actions.actions.list.items c.in_ok-idle.idle c.args.net.now c.in_ok-idle.ensures (all_neutral c.in_ok-actions.actions.features) here.0 c.of-m.result (rw c.of-m.ensures here.1) are.0 are.1 c.args.flags.now are.2 (ap all_neutral are.3) pairs in
    let same = c.in_ok-trim.ensures.language pairs in
    (λ h. whole.0 (same.0 h), λ h. same.1 (whole.1 h))

pub returns-clause-relation : goal.returns-clause-relation
returns-clause-relation c = resolved_relation c.args.net.now c.args.flags.now c.in_ok-trim.field-0 (returns-clause-language c)
