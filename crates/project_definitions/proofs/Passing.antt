-- Grammars of which each leaf is a symbol, part by part.
use Rattle.std.proofs.Common.{◌≡◌, ◌↔◌, ◌<◌, ℕ, Bool, true, false, cond, ◌&&◌, IsTrue, List, [], ◌∷◌, length, map, get_or, All, refl, sym, subst, ◌∙◌}
use Rattle.std.proofs.lemmas.List.Elements.{All-nil, All-cons, All-get_or, All-head, All-map, All-tail, All-weaker as weaker}
use Rattle.std.specs.List.{list_all}
use Rattle.regex_ast.specs.Terms.{Term}
use Rattle.regex_ast.specs.declared.expr.Atom.{Atom}
use Rattle.regex_ast.specs.declared.expr.Atom.TheVariants.{Sym, Name}
use Rattle.regex_ast.specs.declared.expr.Context.{Context}
use Rattle.regex_ast.specs.declared.twolc.Grammar.{Grammar as GrammarOf}
use Rattle.regex_ast.specs.declared.twolc.PairAtom.{PairAtom}
use Rattle.regex_ast.specs.declared.twolc.PairPart.{PairPart}
use Rattle.regex_ast.specs.declared.twolc.SetOf.{SetOf}
use Rattle.expr_kinds.specs.Atoms.{is_known_at, is_symbol}
use Rattle.expr_kinds.specs.Built.{ContextsAreBuilt, IsBuilt, IsBuiltBy}
use Rattle.expr_kinds.proofs.FitLaws.{both_true}
use Rattle.expr_leaves.specs.Mapped.{mapped}
use Rattle.grammar_pairs.specs.Laws.{HasLeaves, pair_passes, part_passes}
use Rattle.grammar_pairs.specs.Plain.{contexts_in, definition_of, grammar_of, pair_of, part_of, rule_of, set_of}
use Rattle.project_meaning.specs.Trees.{Pair, PairDefinition, Rule, Set}
use Rattle.project_definitions.specs.Passing.{IsBuiltContext, IsBuiltDefinition, IsBuiltRule, passing}
use Rattle.project_definitions.proofs.Mapped.{mapped_built}

-- what holds of all holds of the item at a place
pub one_here : {X : Type 0} (P : X → Type 0) (xs : List X) (i : ℕ) (x : X) → i < length xs → x ≡ get_or xs i x → All P xs → P x
one_here P xs i x below is all = subst P (sym is) (All-get_or P xs i x below all)

pub all_true : {X : Type 0} (test : X → Bool) (xs : List X) → IsTrue (list_all test xs) ↔ All (λ x. IsTrue (test x)) xs
all_true test [] = (λ h. All-nil (λ x. IsTrue (test x)), λ h. refl)
all_true test (x ∷ xs) = (
  λ h. let (first, rest) = (both_true (test x) (list_all test xs)).0 h in All-cons (λ x. IsTrue (test x)) x xs first ((all_true test xs).0 rest),
  λ h. (both_true (test x) (list_all test xs)).1 (All-head (λ x. IsTrue (test x)) x xs h, (all_true test xs).1 (All-tail (λ x. IsTrue (test x)) x xs h)),
)

-- what holds of mapped items holds of each once it is mapped
unmapped : {X Y : Type 0} (P : Y → Type 0) (f : X → Y) (xs : List X) → All P (map f xs) → All (λ x. P (f x)) xs
unmapped P f [] h = All-nil (λ x. P (f x))
unmapped P f (x ∷ xs) h = All-cons (λ x. P (f x)) x xs (All-head P (f x) (map f xs) h) (unmapped P f xs (All-tail P (f x) (map f xs) h))

-- the expression of what stands for the leaves is built where the expression is
known_where : (b : Bool) → is_known_at [] (cond b (Sym (record { 0 = 0 })) (Name 0)) ≡ b
unfolding is_known_at
known_where true = refl
known_where false = refl

symbol_where : (b : Bool) → is_symbol (cond b (Sym (record { 0 = 0 })) (Name 0)) ≡ b
symbol_where true = refl
symbol_where false = refl

pub built_as : (e : Term (PairPart Atom)) → IsBuiltBy (is_known_at []) is_symbol (mapped passing e) ≡ IsBuilt (part_passes is_symbol) (mapped part_of e)
built_as e =
    mapped_built (is_known_at []) is_symbol passing e
    ∙ (λ i. IsBuiltBy (λ p. known_where (part_passes is_symbol (part_of p)) i) (λ p. symbol_where (part_passes is_symbol (part_of p)) i) e)
    ∙ sym (mapped_built (part_passes is_symbol) (part_passes is_symbol) part_of e)

pub by_same : (b : Bool) (P Q : Type 0) → P ≡ Q → IsTrue b ↔ P → IsTrue b ↔ Q
by_same b P Q same both = subst (λ (T : Type 0). IsTrue b ↔ T) same both

contexts_built : (contexts : List (Context (PairPart Atom))) → All IsBuiltContext contexts → ContextsAreBuilt (part_passes is_symbol) (contexts_in contexts)
contexts_built [] all = tt
contexts_built (c ∷ contexts) all =
    let here = All-head IsBuiltContext c contexts all in
    (here.0, here.1, contexts_built contexts (All-tail IsBuiltContext c contexts all))

each_built : (contexts : List (Context (PairPart Atom))) → ContextsAreBuilt (part_passes is_symbol) (contexts_in contexts) → All IsBuiltContext contexts
each_built [] built = All-nil IsBuiltContext
each_built (c ∷ contexts) built = All-cons IsBuiltContext c contexts (built.0, built.1) (each_built contexts built.2)

abbrev MeantRule : Rule Atom → Type 0
MeantRule r = IsTrue (pair_passes is_symbol r.centre) × ContextsAreBuilt (part_passes is_symbol) r.contexts

abbrev SetPasses : Set Atom → Type 0
SetPasses s = All (λ leaf. IsTrue (is_symbol leaf)) s.symbols

module _ (g : GrammarOf Atom) where
  abbrev pairs_test : PairAtom Atom → Bool
  pairs_test p = pair_passes is_symbol (pair_of p)

  abbrev sets_test : SetOf Atom → Bool
  sets_test s = list_all is_symbol s.symbols.items

  gathered : IsTrue (list_all pairs_test g.pairs.items) → IsTrue (list_all sets_test g.sets.items) → All IsBuiltDefinition g.definitions.items → All IsBuiltRule g.rules.items → HasLeaves is_symbol (grammar_of g)
  gathered pairs sets definitions rules = record {
    pairs = All-map (λ (p : Pair Atom). IsTrue (pair_passes is_symbol p)) pair_of g.pairs.items ((all_true pairs_test g.pairs.items).0 pairs);
    sets = All-map SetPasses set_of g.sets.items (weaker (λ s. IsTrue (sets_test s)) (λ (s : SetOf Atom). SetPasses (set_of s)) (λ s own. (all_true is_symbol s.symbols.items).0 own) g.sets.items ((all_true sets_test g.sets.items).0 sets));
    definitions = All-map (λ (d : PairDefinition Atom). IsBuilt (part_passes is_symbol) d.term) definition_of g.definitions.items definitions;
    rules = All-map MeantRule rule_of g.rules.items (weaker IsBuiltRule (λ r. MeantRule (rule_of r)) (λ r own. (own.0, contexts_built r.contexts.items own.1)) g.rules.items rules);
  }

  parted : HasLeaves is_symbol (grammar_of g) → IsTrue (list_all pairs_test g.pairs.items) × IsTrue (list_all sets_test g.sets.items) × All IsBuiltDefinition g.definitions.items × All IsBuiltRule g.rules.items
  parted has = (
    (all_true pairs_test g.pairs.items).1 (unmapped (λ (p : Pair Atom). IsTrue (pair_passes is_symbol p)) pair_of g.pairs.items has.pairs),
    (all_true sets_test g.sets.items).1 (weaker (λ (s : SetOf Atom). SetPasses (set_of s)) (λ s. IsTrue (sets_test s)) (λ s own. (all_true is_symbol s.symbols.items).1 own) g.sets.items (unmapped SetPasses set_of g.sets.items has.sets)),
    unmapped (λ (d : PairDefinition Atom). IsBuilt (part_passes is_symbol) d.term) definition_of g.definitions.items has.definitions,
    weaker (λ r. MeantRule (rule_of r)) IsBuiltRule (λ r own. (own.0, each_built r.contexts.items own.1)) g.rules.items (unmapped MeantRule rule_of g.rules.items has.rules),
  )

  -- the whole grammar, by the tests of its parts
  pub has_leaves : (pairs sets definitions rules : Bool) → pairs ≡ list_all pairs_test g.pairs.items → sets ≡ list_all sets_test g.sets.items → IsTrue definitions ↔ All IsBuiltDefinition g.definitions.items → IsTrue rules ↔ All IsBuiltRule g.rules.items
      → IsTrue (pairs && sets && definitions && rules) ↔ HasLeaves is_symbol (grammar_of g)
  has_leaves pairs sets definitions rules pairs_is sets_is definitions_are rules_are = (
    λ h.
        let (three, last) = (both_true (pairs && sets && definitions) rules).0 h in
        let (two, third) = (both_true (pairs && sets) definitions).0 three in
        let (first, second) = (both_true pairs sets).0 two in
        gathered (subst IsTrue pairs_is first) (subst IsTrue sets_is second) (definitions_are.0 third) (rules_are.0 last),
    λ has.
        let all = parted has in
        (both_true (pairs && sets && definitions) rules).1 ((both_true (pairs && sets) definitions).1 ((both_true pairs sets).1 (subst IsTrue (sym pairs_is) all.0, subst IsTrue (sym sets_is) all.1), definitions_are.1 all.2), rules_are.1 all.3),
  )
