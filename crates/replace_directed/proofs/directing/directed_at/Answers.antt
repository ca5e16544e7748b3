use Rattle.std.proofs.Common.{◌≡◌, ◌↔◌, ◌∙◌, List, All, length, map, subst, sym, ap}
use Rattle.std.specs.List.{Contains, filter_map}
use Rattle.std.proofs.lemmas.Result.{IfOk-weaker}
use Rattle.fsm_base.specs.declared.letters.Bound.{Bound}
use Rattle.fsm_base.specs.declared.letters.Sym.{Sym}
use Rattle.fsa.specs.Complete.{Accepts}
use Rattle.fst_algebra.specs.Relation.{IsRelated}
use Rattle.word_relations.specs.Relations.{AreSame}
use Rattle.replace_words.specs.declared.marks.Mark.{Mark}
use Rattle.replace_words.specs.Firsts.{first_mark}
use Rattle.replace_words.specs.Marked.{upper_of, lower_of, symbol_of}
use Rattle.replace_words.specs.Places.{ReplacesAt}
use Rattle.replace_rules.specs.Letters.{IsMarkOf}
use Rattle.replace_rules.proofs.ByFirsts.{chosen}
use Rattle.expr_meaning.specs.Directed.{IsDirectedBy}
use Rattle.directed_words.specs.Laws.{MatchesAt, from_left}
use Rattle.replace_directed.specs.Marked.{directing}
use Rattle.replace_directed.proofs.ByFirsts.{directed_by}
use Rattle.replace_directed.proofs.directing.directed_at.Goals as goal

pub marked_words-requires : goal.marked_words-requires
marked_words-requires c = rw c.deref-2.ensures.value c.in_ok-once.ensures.distinct

pub network_by_firsts-requires : goal.network_by_firsts-requires
network_by_firsts-requires c = ap length c.deref-3.ensures.value ∙ c.in_ok-firsts.ensures.count

pub returns-clause-relation : goal.returns-clause-relation
returns-clause-relation c =
    let syms = c.args.syms.now in
    let maps = c.args.maps.now in
    let contexts = c.args.contexts.now in
    let firsts = c.in_ok-firsts.firsts.items in
    let once = c.deref-2.result.now in
    let n = length contexts in
    let words = c.in_ok-words.words in
    let once_is : (s : Sym) → Contains once s ↔ Contains firsts s =
    λ s. subst (λ xs. Contains xs s ↔ Contains firsts s) (sym c.deref-2.ensures.value) (subst (λ ys. Contains c.in_ok-once.once.items s ↔ Contains ys s) c.deref.ensures.value (c.in_ok-once.ensures.same s)) in
    let first = chosen syms firsts c.in_ok-firsts.ensures.count c.requires.distinct in
    IfOk-weaker c.network_by_firsts.result
    (λ m. (first : Sym → Sym) → c.deref-3.result.now ≡ map first syms → (u w : List Sym) → IsRelated m u w ↔ ((z : List (Bound Mark)) × (All (IsMarkOf syms n) z × Accepts words (map (first_mark first) z)) × (filter_map (symbol_of upper_of) z ≡ u) × (filter_map (symbol_of lower_of) z ≡ w)))
    (λ m. AreSame (IsRelated m) (IsDirectedBy (MatchesAt (directing maps) contexts) syms (ReplacesAt (directing maps) contexts) (from_left c.args.size)))
    (λ m is u w.
    let a = is first.0 (c.deref-3.ensures.value ∙ first.1) u w in
    let b = directed_by syms maps contexts c.requires.over firsts once c.in_ok-firsts.ensures once_is first.0 first.1 c.args.size words c.in_ok-words.ensures u w in
    (λ h. b.0 (a.0 h), λ h. a.1 (b.1 h))) c.network_by_firsts.ensures.relation
