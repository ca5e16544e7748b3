use Rattle.std.proofs.Common.{refl, sym, subst}
use Rattle.word_relations.specs.Relations.{IsRepetitionOfPairs}
use Rattle.fst_algebra.specs.Relation.{IsRelated}
use Rattle.expr_kinds.specs.declared.form.Kind.TheVariants.{Relation}
use Rattle.expr_meaning.specs.Operators.{IsRepetitionOf}
use Rattle.network_algebra.specs.Networks.{Counts, IsFor, IsNetwork, WordsOf, PairsOf, kind_of_network}
use Rattle.network_algebra.specs.declared.network.Network.TheVariants.{Words, Pairs, Flagged}
use Rattle.network_algebra.proofs.Meanings.{pairs_for, repeated_words, repeated_pairs, symbols_of_one}
use Rattle.fst_flagged.specs.Flagged.{FlaggedRelates}
use Rattle.network_algebra.proofs.Conditions.{resolved_repeated, resolved_symbols}
use Rattle.network_algebra.proofs.repeating.repeat.Goals as goal

pub returns-in_ok-repeat_automaton-in-Words-clause-meaning : goal.returns-in_ok-repeat_automaton-in-Words-clause-meaning
returns-in_ok-repeat_automaton-in-Words-clause-meaning c =
    let new = c.in_ok-repeat_automaton-in-Words.field-0 in
    subst (λ n. IsFor (kind_of_network n) (IsRepetitionOf (Counts c.args.times) (WordsOf n)) (IsRepetitionOfPairs (Counts c.args.times) (PairsOf n)) (Words new)) (sym c.in-Words.is)
    (repeated_words (Counts c.args.times) c.in-Words.m new c.in_ok-repeat_automaton-in-Words.ensures.language)

pub returns-in_ok-repeat_automaton-in-Pairs-clause-letters : goal.returns-in_ok-repeat_automaton-in-Pairs-clause-letters
returns-in_ok-repeat_automaton-in-Pairs-clause-letters c symbols ok =
    symbols_of_one symbols c.in-Pairs.m c.in_ok-repeat_automaton-in-Pairs.field-0 c.in_ok-repeat_automaton-in-Pairs.ensures.letters (subst (IsNetwork symbols) c.in-Pairs.is ok)

pub returns-in_ok-repeat_automaton-in-Pairs-clause-meaning : goal.returns-in_ok-repeat_automaton-in-Pairs-clause-meaning
returns-in_ok-repeat_automaton-in-Pairs-clause-meaning c =
    let new = c.in_ok-repeat_automaton-in-Pairs.field-0 in
    let old = c.in-Pairs.m in
    subst (λ n. IsFor (kind_of_network n) (IsRepetitionOf (Counts c.args.times) (WordsOf n)) (IsRepetitionOfPairs (Counts c.args.times) (PairsOf n)) (Pairs new)) (sym c.in-Pairs.is)
    (pairs_for Relation new (IsRepetitionOf (Counts c.args.times) (WordsOf (Pairs old))) (IsRepetitionOfPairs (Counts c.args.times) (IsRelated old)) refl (repeated_pairs (Counts c.args.times) old new c.in_ok-repeat_automaton-in-Pairs.ensures.language))

pub returns-in_ok-repeat_automaton-in-Flagged-clause-letters : goal.returns-in_ok-repeat_automaton-in-Flagged-clause-letters
returns-in_ok-repeat_automaton-in-Flagged-clause-letters c symbols ok =
    symbols_of_one symbols c.in_ok-m-in-Flagged.m c.in_ok-repeat_automaton-in-Flagged.field-0 c.in_ok-repeat_automaton-in-Flagged.ensures.letters
    (resolved_symbols c.in-Flagged.f c.in_ok-m-in-Flagged.m c.in_ok-m-in-Flagged.ensures.upper c.in_ok-m-in-Flagged.ensures.lower symbols (subst (IsNetwork symbols) c.in-Flagged.is ok))

pub returns-in_ok-repeat_automaton-in-Flagged-clause-meaning : goal.returns-in_ok-repeat_automaton-in-Flagged-clause-meaning
returns-in_ok-repeat_automaton-in-Flagged-clause-meaning c =
    let new = c.in_ok-repeat_automaton-in-Flagged.field-0 in
    let old = c.in-Flagged.f in
    subst (λ n. IsFor (kind_of_network n) (IsRepetitionOf (Counts c.args.times) (WordsOf n)) (IsRepetitionOfPairs (Counts c.args.times) (PairsOf n)) (Pairs new)) (sym c.in-Flagged.is)
    (pairs_for Relation new (IsRepetitionOf (Counts c.args.times) (WordsOf (Flagged old))) (IsRepetitionOfPairs (Counts c.args.times) (FlaggedRelates old)) refl
    (resolved_repeated old c.in_ok-m-in-Flagged.m c.in_ok-m-in-Flagged.ensures.relation (Counts c.args.times) new c.in_ok-repeat_automaton-in-Flagged.ensures.language))
