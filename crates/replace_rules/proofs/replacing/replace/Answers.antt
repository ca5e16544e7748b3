use Rattle.std.proofs.Common.{◌≡◌, ◌↔◌, ◌∙◌, List, All, length, map, arith, subst, sym, ap}
use Rattle.std.specs.List.{Contains, filter_map}
use Rattle.std.proofs.lemmas.Result.{IfOk-weaker}
use Rattle.fsm_base.specs.declared.letters.Bound.{Bound}
use Rattle.fsm_base.specs.declared.letters.Sym.{Sym}
use Rattle.fsa.specs.Complete.{Accepts}
use Rattle.fst_algebra.specs.Relation.{IsRelated}
use Rattle.word_relations.specs.Relations.{AreSame}
use Rattle.expr_meaning.specs.Replacement.{IsRewritten}
use Rattle.replace_words.specs.declared.marks.Mark.{Mark}
use Rattle.replace_words.specs.Firsts.{first_mark}
use Rattle.replace_words.specs.Marked.{upper_of, lower_of, symbol_of}
use Rattle.replace_rules.specs.Letters.{IsMarkOf}
use Rattle.replace_rules.specs.Rules.{AppliesBy, ReplacesBy}
use Rattle.replace_rules.proofs.ByFirsts.{chosen, rewritten_by_firsts}
use Rattle.replace_rules.proofs.replacing.replace.Goals as goal

pub marked_words-requires : goal.marked_words-requires
marked_words-requires c = rw c.deref-2.ensures.value c.in_ok-once.ensures.distinct

pub network_by_firsts-requires : goal.network_by_firsts-requires
network_by_firsts-requires c = ap length c.deref-4.ensures.value ∙ c.in_ok-firsts.ensures.count

pub returns-clause-relation : goal.returns-clause-relation
returns-clause-relation c =
    let syms = c.args.syms.now in
    let groups = c.args.groups.now in
    let firsts = c.in_ok-firsts.firsts.items in
    let once = c.deref-2.result.now in
    let places = c.deref-3.result.now in
    let n = c.len.result in
    let words = c.in_ok-words.words in
    let once_is : (s : Sym) → Contains once s ↔ Contains firsts s =
    λ s. subst (λ xs. Contains xs s ↔ Contains firsts s) (sym c.deref-2.ensures.value) (subst (λ ys. Contains c.in_ok-once.once.items s ↔ Contains ys s) c.deref.ensures.value (c.in_ok-once.ensures.same s)) in
    let first = chosen syms firsts c.in_ok-firsts.ensures.count c.requires.distinct in
    let count : length places ≡ n = ap length c.deref-3.ensures.value ∙ omega (arith, c.in_ok-places.places.ok.0, c.len.ensures) in
    IfOk-weaker c.network_by_firsts.result
    (λ m. (first : Sym → Sym) → c.deref-4.result.now ≡ map first syms → (u w : List Sym) → IsRelated m u w ↔ ((z : List (Bound Mark)) × (All (IsMarkOf syms n) z × Accepts words (map (first_mark first) z)) × (filter_map (symbol_of upper_of) z ≡ u) × (filter_map (symbol_of lower_of) z ≡ w)))
    (λ m. AreSame (IsRelated m) (IsRewritten syms (ReplacesBy groups) (AppliesBy groups) c.args.optional))
    (λ m is u w.
    let a = is first.0 (c.deref-4.ensures.value ∙ first.1) u w in
    let b = rewritten_by_firsts syms groups c.requires.over firsts once c.in_ok-firsts.ensures once_is first.0 first.1 places (c.deref-3.ensures.value ∙ c.in_ok-places.ensures) n count c.args.optional words c.in_ok-words.ensures u w in
    (λ h. b.0 (a.0 h), λ h. a.1 (b.1 h))) c.network_by_firsts.ensures.relation
