use Rattle.std.proofs.Common.{refl, sym, subst}
use Rattle.fst_flagged.specs.Flagged.{FlaggedRelates}
use Rattle.expr_kinds.specs.declared.form.Kind.TheVariants.{Relation}
use Rattle.network_algebra.specs.Networks.{IsFor, IsNetwork, WordsOf, PairsOf, kind_of_network}
use Rattle.network_algebra.specs.declared.network.Network.TheVariants.{Words, Pairs, Flagged}
use Rattle.network_algebra.proofs.Meanings.{reduced_words, reduced_pairs, symbols_of_one}
use Rattle.network_algebra.proofs.Conditions.{flagged_for}
use Rattle.network_algebra.proofs.joining.reduced.Goals as goal

pub returns-in_ok-reduced-in-Words-clause-meaning : goal.returns-in_ok-reduced-in-Words-clause-meaning
returns-in_ok-reduced-in-Words-clause-meaning c =
    let new = c.in_ok-reduced-in-Words.field-0 in
    subst (λ n. IsFor (kind_of_network n) (WordsOf n) (PairsOf n) (Words new)) (sym c.in-Words.is) (reduced_words c.in-Words.m new c.in_ok-reduced-in-Words.ensures.language)

pub returns-in_ok-reduced-in-Pairs-clause-letters : goal.returns-in_ok-reduced-in-Pairs-clause-letters
returns-in_ok-reduced-in-Pairs-clause-letters c symbols ok =
    symbols_of_one symbols c.in-Pairs.m c.in_ok-reduced-in-Pairs.field-0 c.in_ok-reduced-in-Pairs.ensures.letters (subst (IsNetwork symbols) c.in-Pairs.is ok)

pub returns-in_ok-reduced-in-Pairs-clause-meaning : goal.returns-in_ok-reduced-in-Pairs-clause-meaning
returns-in_ok-reduced-in-Pairs-clause-meaning c =
    let new = c.in_ok-reduced-in-Pairs.field-0 in
    subst (λ n. IsFor (kind_of_network n) (WordsOf n) (PairsOf n) (Pairs new)) (sym c.in-Pairs.is) (reduced_pairs c.in-Pairs.m new c.in_ok-reduced-in-Pairs.ensures.language)

pub returns-in_ok-reduced-in-Flagged-clause-letters : goal.returns-in_ok-reduced-in-Flagged-clause-letters
returns-in_ok-reduced-in-Flagged-clause-letters c symbols ok = c.in_ok-reduced-in-Flagged.ensures.letters symbols (subst (IsNetwork symbols) c.in-Flagged.is ok)

pub returns-in_ok-reduced-in-Flagged-clause-meaning : goal.returns-in_ok-reduced-in-Flagged-clause-meaning
returns-in_ok-reduced-in-Flagged-clause-meaning c =
    let new = c.in_ok-reduced-in-Flagged.field-0 in
    let old = c.in-Flagged.f in
    subst (λ n. IsFor (kind_of_network n) (WordsOf n) (PairsOf n) (Flagged new)) (sym c.in-Flagged.is)
    (flagged_for Relation (Flagged new) (WordsOf (Flagged old)) (FlaggedRelates old) refl (record { kind_is = refl; pairs = c.in_ok-reduced-in-Flagged.ensures.relation }))
