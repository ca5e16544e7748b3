use Rattle.std.proofs.Common.{refl, sym, subst, reverse}
use Rattle.fst_algebra.specs.Relation.{IsRelated}
use Rattle.expr_kinds.specs.declared.form.Kind.TheVariants.{Relation}
use Rattle.network_algebra.specs.Networks.{IsFor, IsNetwork, WordsOf, PairsOf, kind_of_network}
use Rattle.network_algebra.specs.declared.network.Network.TheVariants.{Words, Pairs, Flagged}
use Rattle.network_algebra.proofs.Meanings.{pairs_for, reversed_words, reversed_pairs, symbols_of_one}
use Rattle.fst_flagged.specs.Flagged.{FlaggedRelates}
use Rattle.network_algebra.proofs.Conditions.{resolved_reversed, resolved_symbols}
use Rattle.network_algebra.proofs.sides.reverse.Goals as goal

pub returns-in_ok-reverse-in-Words-clause-meaning : goal.returns-in_ok-reverse-in-Words-clause-meaning
returns-in_ok-reverse-in-Words-clause-meaning c =
    let new = c.in_ok-reverse-in-Words.field-0 in
    subst (λ n. IsFor (kind_of_network n) (λ w. WordsOf n (reverse w)) (λ u w. PairsOf n (reverse u) (reverse w)) (Words new)) (sym c.in-Words.is)
    (reversed_words c.in-Words.m new c.in_ok-reverse-in-Words.ensures.language)

pub returns-in_ok-reverse-in-Pairs-clause-meaning : goal.returns-in_ok-reverse-in-Pairs-clause-meaning
returns-in_ok-reverse-in-Pairs-clause-meaning c =
    let new = c.in_ok-reverse-in-Pairs.field-0 in
    let old = c.in-Pairs.m in
    subst (λ n. IsFor (kind_of_network n) (λ w. WordsOf n (reverse w)) (λ u w. PairsOf n (reverse u) (reverse w)) (Pairs new)) (sym c.in-Pairs.is)
    (pairs_for Relation new (λ w. WordsOf (Pairs old) (reverse w)) (λ u w. IsRelated old (reverse u) (reverse w)) refl (reversed_pairs old new c.in_ok-reverse-in-Pairs.ensures.language))

pub returns-in_ok-reverse-in-Flagged-clause-letters : goal.returns-in_ok-reverse-in-Flagged-clause-letters
returns-in_ok-reverse-in-Flagged-clause-letters c symbols ok =
    symbols_of_one symbols c.in_ok-m-in-Flagged.m c.in_ok-reverse-in-Flagged.field-0 c.in_ok-reverse-in-Flagged.ensures.letters
    (resolved_symbols c.in-Flagged.f c.in_ok-m-in-Flagged.m c.in_ok-m-in-Flagged.ensures.upper c.in_ok-m-in-Flagged.ensures.lower symbols (subst (IsNetwork symbols) c.in-Flagged.is ok))

pub returns-in_ok-reverse-in-Flagged-clause-meaning : goal.returns-in_ok-reverse-in-Flagged-clause-meaning
returns-in_ok-reverse-in-Flagged-clause-meaning c =
    let new = c.in_ok-reverse-in-Flagged.field-0 in
    let old = c.in-Flagged.f in
    subst (λ n. IsFor (kind_of_network n) (λ w. WordsOf n (reverse w)) (λ u w. PairsOf n (reverse u) (reverse w)) (Pairs new)) (sym c.in-Flagged.is)
    (pairs_for Relation new (λ w. WordsOf (Flagged old) (reverse w)) (λ u w. FlaggedRelates old (reverse u) (reverse w)) refl (resolved_reversed old c.in_ok-m-in-Flagged.m c.in_ok-m-in-Flagged.ensures.relation new c.in_ok-reverse-in-Flagged.ensures.language))
