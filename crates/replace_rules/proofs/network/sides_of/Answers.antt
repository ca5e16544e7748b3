use Rattle.std.proofs.Common.{◌≡◌, ◌↔◌, List, ◌∙◌}
use Rattle.std.specs.List.{filter_map}
use Rattle.std.proofs.lemmas.Result.{IfOk-weaker}
use Rattle.fsm_base.specs.declared.letters.Bound.{Bound}
use Rattle.fsm_base.specs.declared.letters.Pair.{Pair}
use Rattle.fsm_base.specs.declared.letters.Sym.{Sym}
use Rattle.word_relations.specs.Words.{IsOver}
use Rattle.fsa.specs.Automaton.{UsesLetter}
use Rattle.fsa.specs.Language as language
use Rattle.fst_algebra.specs.Relation.{IsRelated}
use Rattle.network_algebra.specs.Networks.{UsesSymbols}
use Rattle.replace_words.specs.declared.marks.Mark.{Mark}
use Rattle.replace_words.specs.Marked.{upper_of, lower_of, symbol_of}
use Rattle.replace_rules.specs.Letters.{AreMarksOf}
use Rattle.replace_rules.proofs.Paired.{related_sides, symbols_used}
use Rattle.replace_rules.proofs.network.sides_of.Goals as goal

pub returns-clause-symbols : goal.returns-clause-symbols
returns-clause-symbols c =
    let pairs = c.in_ok-pairs.pairs in
    let marks = c.args.marks.now in
    let rows = c.deref.ensures.value ∙ c.in_ok-rows.ensures in
    IfOk-weaker c.reduced.result (λ m. (y : Pair) → UsesLetter m y → UsesLetter pairs y) (λ m. (symbols : List Sym) → AreMarksOf symbols marks → UsesSymbols symbols m)
    (λ m used symbols are. symbols_used symbols marks pairs m are (rw rows at c.in_ok-pairs.ensures.letters) used) c.reduced.ensures.letters

pub returns-clause-relation : goal.returns-clause-relation
returns-clause-relation c =
    let words = c.args.words.now in
    let marks = c.args.marks.now in
    let pairs = c.in_ok-pairs.pairs in
    let rows = c.deref.ensures.value ∙ c.in_ok-rows.ensures in
    IfOk-weaker c.reduced.result (λ m. (p : List Pair) → language.Accepts m p ↔ language.Accepts pairs p)
    (λ m. (u w : List Sym) → IsRelated m u w ↔ ((z : List (Bound Mark)) × (IsOver marks z × language.Accepts words z) × (filter_map (symbol_of upper_of) z ≡ u) × (filter_map (symbol_of lower_of) z ≡ w)))
    (λ m is u w. related_sides marks words pairs m (rw rows at c.in_ok-pairs.ensures.language) is u w) c.reduced.ensures.language
