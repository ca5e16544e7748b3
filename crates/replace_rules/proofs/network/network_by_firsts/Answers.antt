use Rattle.std.proofs.Common.{◌≡◌, ◌↔◌, ◌∙◌, List, All, map, subst, sym}
use Rattle.std.specs.List.{Contains, filter_map}
use Rattle.std.proofs.lemmas.Result.{IfOk-weaker}
use Rattle.fsm_base.specs.declared.letters.Bound.{Bound}
use Rattle.fsm_base.specs.declared.letters.Sym.{Sym}
use Rattle.word_relations.specs.Words.{IsOver}
use Rattle.fsa.specs.Complete.{Accepts}
use Rattle.fsa.specs.Language as language
use Rattle.fst_algebra.specs.Relation.{IsRelated}
use Rattle.network_algebra.specs.Networks.{UsesSymbols}
use Rattle.replace_words.specs.declared.marks.Mark.{Mark}
use Rattle.replace_words.specs.Firsts.{first_mark}
use Rattle.replace_words.specs.Marked.{upper_of, lower_of, symbol_of}
use Rattle.replace_rules.specs.Letters.{AreMarksOf, IsMarkOf}
use Rattle.replace_rules.proofs.ByFirsts.{firsts_related}
use Rattle.replace_rules.proofs.network.network_by_firsts.Goals as goal

pub returns-clause-symbols : goal.returns-clause-symbols
returns-clause-symbols c =
    let syms = c.args.syms.now in
    let marks = c.deref-2.result.now in
    IfOk-weaker c.sides_of.result (λ m. (symbols : List Sym) → AreMarksOf symbols marks → UsesSymbols symbols m) (UsesSymbols syms)
    (λ m are. are syms (c.args.places, λ x among. (c.in_ok-marks.ensures.all x).0 (subst (λ ls. Contains ls x) c.deref-2.ensures.value among))) c.sides_of.ensures.symbols

pub returns-clause-relation : goal.returns-clause-relation
returns-clause-relation c =
    let syms = c.args.syms.now in
    let n = c.args.places in
    let words = c.args.words.now in
    let marks = c.deref-2.result.now in
    let rows = c.deref.result.now in
    let all = c.in_ok-all.all in
    let marks_are : (x : Bound Mark) → Contains marks x ↔ IsMarkOf syms n x = λ x. subst (λ ms. Contains ms x ↔ IsMarkOf syms n x) (sym c.deref-2.ensures.value) (c.in_ok-marks.ensures.all x) in
    IfOk-weaker c.sides_of.result
    (λ m. (u w : List Sym) → IsRelated m u w ↔ ((z : List (Bound Mark)) × (IsOver marks z × language.Accepts all z) × (filter_map (symbol_of upper_of) z ≡ u) × (filter_map (symbol_of lower_of) z ≡ w)))
    (λ m. (first : Sym → Sym) → c.args.firsts.now ≡ map first syms → (u w : List Sym) → IsRelated m u w ↔ ((z : List (Bound Mark)) × (All (IsMarkOf syms n) z × Accepts words (map (first_mark first) z)) × (filter_map (symbol_of upper_of) z ≡ u) × (filter_map (symbol_of lower_of) z ≡ w)))
    (λ m is first e. firsts_related syms n first marks words c.in_ok-accepted.accepted all m rows marks_are (c.deref.ensures.value ∙ c.in_ok-rows.ensures first e) c.in_ok-accepted.ensures.language c.in_ok-all.ensures.language is) c.sides_of.ensures.relation
