use Rattle.std.proofs.Common.{refl, sym, subst}
use Rattle.fst_algebra.specs.Relation.{IsRelated}
use Rattle.word_relations.specs.Relations.{IsInverse}
use Rattle.expr_kinds.specs.declared.form.Kind.TheVariants.{Relation}
use Rattle.network_algebra.specs.Networks.{IsFor, IsNetwork, UsesSymbols, WordsOf, PairsOf, kind_of_network}
use Rattle.network_algebra.specs.declared.network.Network.TheVariants.{Pairs, Flagged}
use Rattle.network_algebra.proofs.Meanings.{pairs_for}
use Rattle.fst_flagged.specs.Flagged.{FlaggedRelates}
use Rattle.network_algebra.proofs.Conditions.{flagged_for}
use Rattle.network_algebra.proofs.sides.inverse.Goals as goal

pub returns-in_ok-inverse-in-Pairs-clause-letters : goal.returns-in_ok-inverse-in-Pairs-clause-letters
returns-in_ok-inverse-in-Pairs-clause-letters c symbols ok =
    let uses : UsesSymbols symbols c.in-Pairs.m = subst (IsNetwork symbols) c.in-Pairs.is ok in
    record {
      upper = λ x used. uses.lower x (c.in_ok-inverse-in-Pairs.ensures.upper x used);
      lower = λ x used. uses.upper x (c.in_ok-inverse-in-Pairs.ensures.lower x used);
    }

pub returns-in_ok-inverse-in-Pairs-clause-meaning : goal.returns-in_ok-inverse-in-Pairs-clause-meaning
returns-in_ok-inverse-in-Pairs-clause-meaning c =
    let new = c.in_ok-inverse-in-Pairs.field-0 in
    let old = c.in-Pairs.m in
    subst (λ n. IsFor (kind_of_network n) (WordsOf n) (IsInverse (PairsOf n)) (Pairs new)) (sym c.in-Pairs.is)
    (pairs_for Relation new (WordsOf (Pairs old)) (IsInverse (IsRelated old)) refl c.in_ok-inverse-in-Pairs.ensures.relation)

pub returns-in_ok-inverse-in-Flagged-clause-letters : goal.returns-in_ok-inverse-in-Flagged-clause-letters
returns-in_ok-inverse-in-Flagged-clause-letters c symbols ok = c.in_ok-inverse-in-Flagged.ensures.letters symbols (subst (IsNetwork symbols) c.in-Flagged.is ok)

pub returns-in_ok-inverse-in-Flagged-clause-meaning : goal.returns-in_ok-inverse-in-Flagged-clause-meaning
returns-in_ok-inverse-in-Flagged-clause-meaning c =
    let new = c.in_ok-inverse-in-Flagged.field-0 in
    let old = c.in-Flagged.f in
    subst (λ n. IsFor (kind_of_network n) (WordsOf n) (IsInverse (PairsOf n)) (Flagged new)) (sym c.in-Flagged.is)
    (flagged_for Relation (Flagged new) (WordsOf (Flagged old)) (IsInverse (FlaggedRelates old)) refl (record { kind_is = refl; pairs = c.in_ok-inverse-in-Flagged.ensures.relation }))
