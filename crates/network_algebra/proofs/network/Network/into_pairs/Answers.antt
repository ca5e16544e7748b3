use Rattle.std.proofs.Common.{List, IfOk, sym, subst}
use Rattle.std.proofs.lemmas.Result.{IfOk-weaker}
use Rattle.fsm_base.specs.declared.letters.Sym.{Sym}
use Rattle.word_relations.specs.Relations.{AreSame}
use Rattle.fst_algebra.specs.Relation.{IsRelated}
use Rattle.network_algebra.specs.Networks.{IsNetwork, UsesSymbols, PairsOf}
use Rattle.network_algebra.proofs.Meanings.{itself_related, itself_symbols, IfOk-both}
use Rattle.network_algebra.proofs.Conditions.{resolved_symbols}
use Rattle.network_algebra.proofs.network.Network.into_pairs.Goals as goal

pub returns-in_ok-inside-in-Words-clause-symbols : goal.returns-in_ok-inside-in-Words-clause-symbols
returns-in_ok-inside-in-Words-clause-symbols c =
    let side = c.in_ok-inside-in-Words.field-0 in
    let words = c.in-Words.words in
    subst (λ n. IfOk c.identity-in-Words.result (λ m. (symbols : List Sym) → IsNetwork symbols n → UsesSymbols symbols m)) (sym c.in-Words.is)
    (IfOk-both c.identity-in-Words.result c.identity-in-Words.ensures.upper c.identity-in-Words.ensures.lower (λ m up low. itself_symbols m side words up low c.in_ok-inside-in-Words.ensures.letters))

pub returns-in_ok-inside-in-Words-clause-pairs : goal.returns-in_ok-inside-in-Words-clause-pairs
returns-in_ok-inside-in-Words-clause-pairs c =
    let side = c.in_ok-inside-in-Words.field-0 in
    let words = c.in-Words.words in
    subst (λ n. IfOk c.identity-in-Words.result (λ m. AreSame (IsRelated m) (PairsOf n))) (sym c.in-Words.is)
    (IfOk-weaker _ _ _ (λ m relation. itself_related m side words relation c.in_ok-inside-in-Words.ensures.words) c.identity-in-Words.ensures.relation)

pub returns-in-Flagged-clause-symbols : goal.returns-in-Flagged-clause-symbols
returns-in-Flagged-clause-symbols c =
    let f = c.in-Flagged.flagged in
    subst (λ n. IfOk c.resolve.result (λ m. (symbols : List Sym) → IsNetwork symbols n → UsesSymbols symbols m)) (sym c.in-Flagged.is)
    (IfOk-both c.resolve.result c.resolve.ensures.upper c.resolve.ensures.lower (λ m upper lower. resolved_symbols f m upper lower))

pub returns-in-Flagged-clause-pairs : goal.returns-in-Flagged-clause-pairs
returns-in-Flagged-clause-pairs c =
    subst (λ n. IfOk c.resolve.result (λ m. AreSame (IsRelated m) (PairsOf n))) (sym c.in-Flagged.is) c.resolve.ensures.relation
