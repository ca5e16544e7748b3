use Rattle.std.proofs.Common.{◌≡◌, ◌↔◌, List, subst, sym}
use Rattle.std.specs.List.{filter_map}
use Rattle.std.proofs.lemmas.Result.{IfOk-weaker}
use Rattle.fsm_base.specs.declared.letters.Bound.{Bound}
use Rattle.fsm_base.specs.declared.letters.Sym.{Sym}
use Rattle.word_relations.specs.Words.{IsOver}
use Rattle.fsa.specs.Complete.{Accepts}
use Rattle.fsa.specs.Language as language
use Rattle.fst_algebra.specs.Relation.{IsRelated}
use Rattle.network_algebra.specs.Networks.{UsesSymbols}
use Rattle.replace_words.specs.declared.marks.Mark.{Mark}
use Rattle.replace_words.specs.Marked.{upper_of, lower_of, symbol_of}
use Rattle.replace_rules.specs.Letters.{AreMarksOf}
use Rattle.replace_rules.proofs.Paired.{related_words}
use Rattle.replace_rules.proofs.network.network_of.Goals as goal

pub returns-clause-symbols : goal.returns-clause-symbols
returns-clause-symbols c =
    IfOk-weaker c.sides_of.result (λ m. (symbols : List Sym) → AreMarksOf symbols c.letters.result.now → UsesSymbols symbols m) (λ m. (symbols : List Sym) → AreMarksOf symbols c.args.words.now.letters → UsesSymbols symbols m)
    (λ m used symbols are. used symbols (subst (AreMarksOf symbols) (sym c.letters.ensures.letters) are)) c.sides_of.ensures.symbols

pub returns-clause-relation : goal.returns-clause-relation
returns-clause-relation c =
    let words = c.args.words.now in
    let marks = c.letters.result.now in
    let accepted = c.in_ok-accepted.accepted in
    IfOk-weaker c.sides_of.result
    (λ m. (u w : List Sym) → IsRelated m u w ↔ ((z : List (Bound Mark)) × (IsOver marks z × language.Accepts accepted z) × (filter_map (symbol_of upper_of) z ≡ u) × (filter_map (symbol_of lower_of) z ≡ w)))
    (λ m. (u w : List Sym) → IsRelated m u w ↔ ((z : List (Bound Mark)) × Accepts words z × (filter_map (symbol_of upper_of) z ≡ u) × (filter_map (symbol_of lower_of) z ≡ w)))
    (λ m is u w. related_words words marks c.letters.ensures.letters c.letters.ensures.complete accepted c.in_ok-accepted.ensures.language (λ z. filter_map (symbol_of upper_of) z ≡ u) (λ z. filter_map (symbol_of lower_of) z ≡ w) (IsRelated m u w) (is u w)) c.sides_of.ensures.relation
