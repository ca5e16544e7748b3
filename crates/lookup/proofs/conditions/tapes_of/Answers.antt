use Rattle.std.proofs.Common.{◌≡◌, ◌↔◌, ℕ, subst, sym, ap, ◌∙◌}
use Rattle.fsa.specs.Automaton.{Automaton, IsFinal}
use Rattle.flag_diacritics.specs.declared.tape.Tape.{Tape}
use Rattle.lookup.proofs.Tapes.{tapes_letters, tapes_within, tapes_words}
use Rattle.lookup.proofs.conditions.tapes_of.Goals as goal

pub of-requires-clause-within : goal.of-requires-clause-within
of-requires-clause-within c =
    rw (c.in_ok-tapes.ensures, c.in_ok-finals.ensures.count) (tapes_within c.args.rules.now.conditions c.args.edges.now c.args.count c.requires.start c.requires.within)

pub returns-clause-letters : goal.returns-clause-letters
returns-clause-letters c =
    tapes_letters c.args.rules.now.conditions c.args.edges.now c.of.result (ap (λ (m : Automaton Tape). m.edges) c.of.ensures ∙ c.in_ok-tapes.ensures)
    (subst (λ (m : Automaton Tape). (q : ℕ) → IsFinal m q ↔ (q ≡ 1)) (sym c.of.ensures) c.in_ok-finals.ensures.finals)

pub returns-clause-language : goal.returns-clause-language
returns-clause-language c =
    tapes_words c.args.rules.now.conditions c.args.edges.now c.of.result (ap (λ (m : Automaton Tape). m.edges) c.of.ensures ∙ c.in_ok-tapes.ensures)
    (subst (λ (m : Automaton Tape). (q : ℕ) → IsFinal m q ↔ (q ≡ 1)) (sym c.of.ensures) c.in_ok-finals.ensures.finals)
