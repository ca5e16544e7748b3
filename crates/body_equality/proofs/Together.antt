-- Grammars that are compared part by part.
use Rattle.std.proofs.Common.{◌≡◌, ◌↔◌, Bool, true, false, IsTrue, List, [], ◌∷◌, map, refl, sym, ap, ◌∙◌}
use Rattle.std.proofs.lemmas.Simd.{map-map}
use Rattle.std.specs.Borrow.{Bor}
use Rattle.regex_ast.specs.Terms.{Term, term, between, no_context}
use Rattle.regex_ast.specs.declared.expr.Atom.{Atom}
use Rattle.regex_ast.specs.declared.expr.Atom.TheVariants.{Sym}
use Rattle.regex_ast.specs.declared.expr.Context.{Context}
use Rattle.regex_ast.specs.declared.expr.Expr.{Expr}
use Rattle.regex_ast.specs.declared.twolc.Grammar.{Grammar as GrammarOf}
use Rattle.regex_ast.specs.declared.twolc.PairDefine.{PairDefine}
use Rattle.regex_ast.specs.declared.twolc.PairPart.{PairPart}
use Rattle.regex_ast.specs.declared.twolc.SetOf.{SetOf}
use Rattle.regex_ast.specs.declared.twolc.TwoLevelRule.{TwoLevelRule}
use Rattle.body_equality.specs.Renumbered.{number_at, renumbered}
use Rattle.body_equality.specs.declared.renumbering.Renumbering.{Renumbering}
use Rattle.expr_leaves.specs.Leaves.{leaves_in, seen}
use Rattle.expr_leaves.specs.Mapped.{mapped}
use Rattle.name_resolution.proofs.Mapped.{mapped_twice}
use Rattle.project_meaning.specs.Trees.{Set, PairDefinition, Rule, Grammar}
use Rattle.grammar_pairs.specs.Mapped.{mapped_definition, mapped_grammar, mapped_pair, mapped_part, mapped_rule, mapped_set}
use Rattle.grammar_pairs.specs.Plain.{contexts_in, definition_of, grammar_of, pair_of, part_of, rule_of, set_of, term_of}
use Rattle.body_equality.specs.RenumberedGrammars.{IsSameHead, context_alone, part_behind, renumbered_alone, renumbered_behind, renumbered_contexts, renumbered_definition, renumbered_pair, renumbered_part, renumbered_rule, renumbered_set, renumbered_term}
use Rattle.body_equality.specs.Shapes.{no_leaf, shape_of}
use Rattle.body_equality.proofs.Shapes.{same_leaves, same_shapes}

-- what doesn't hold isn't told
pub never : {P : Type 0} → (P → ⊥) → IsTrue false ↔ P
never {P} fails = (λ yes. let clash : false ≡ true = yes in absurd (cc), λ holds. absurd (fails holds))

-- shapes that are compared as they are
pub shapes_told : {A : Type 0} (numbers : Renumbering) → numbers.symbols.items ≡ [] → (t u : Term A) (os es : Term Atom) → os ≡ shape_of t → es ≡ shape_of u
    → (r : Bool) → (IsTrue r ↔ (os ≡ mapped (renumbered numbers) es)) → IsTrue r ↔ (shape_of t ≡ shape_of u)
shapes_told {A} numbers none t u os es os_is es_is r told = (
  λ yes. sym os_is ∙ told.0 yes ∙ moved,
  λ same. told.1 (os_is ∙ same ∙ sym moved),
)
  where
    unchanged : renumbered numbers no_leaf ≡ no_leaf
    unchanged = ap (λ z. Sym (record { 0 = number_at z 0 })) none

    moved : mapped (renumbered numbers) es ≡ shape_of u
    moved = ap (mapped (renumbered numbers)) es_is ∙ mapped_twice (renumbered numbers) (λ (leaf : A). no_leaf) u ∙ ap (λ (a : Atom). mapped (λ (leaf : A). a) u) unchanged

module _ (numbers : Renumbering) where
  abbrev by : Atom → Atom
  by a = renumbered numbers a

  module _ (other e : Expr (PairPart Atom)) where
    moved_term : renumbered_term numbers e ≡ mapped (renumbered_part numbers) (term e)
    moved_term = mapped_twice (mapped_part by) part_of (term e)

    -- an expression of the same shape is compared by its leaves
    pub term_same : (os ps : List (Bor (PairPart Atom))) → seen os ≡ leaves_in (term other) → seen ps ≡ leaves_in (term e) → shape_of (term other) ≡ shape_of (term e)
        → (r : Bool) → (IsTrue r ↔ (map part_behind os ≡ map (renumbered_behind numbers) ps)) → IsTrue r ↔ (term_of other ≡ renumbered_term numbers e)
    term_same os ps os_are ps_are shapes r told =
        let law = same_leaves no_leaf part_of (renumbered_part numbers) (term other) (term e) shapes in
        let left : map part_behind os ≡ map part_of (leaves_in (term other)) = sym (map-map part_of (λ (p : Bor (PairPart Atom)). p.now) os) ∙ ap (map part_of) os_are in
        let right : map (renumbered_behind numbers) ps ≡ map (renumbered_part numbers) (leaves_in (term e)) =
        sym (map-map (renumbered_part numbers) (λ (p : Bor (PairPart Atom)). p.now) ps) ∙ ap (map (renumbered_part numbers)) ps_are in (
          λ yes. law.0 (sym left ∙ told.0 yes ∙ right) ∙ sym moved_term,
          λ same. told.1 (left ∙ law.1 (same ∙ moved_term) ∙ sym right),
        )

    -- one of another shape is another one
    pub term_differs : (shape_of (term other) ≡ shape_of (term e) → ⊥) → IsTrue false ↔ (term_of other ≡ renumbered_term numbers e)
    term_differs differ = never (λ same. differ (same_shapes no_leaf part_of (renumbered_part numbers) (term other) (term e) (same ∙ moved_term)))

  contexts_whole : (os cs : List (Context (PairPart Atom))) → map context_alone os ≡ map (renumbered_alone numbers) cs → contexts_in os ≡ renumbered_contexts numbers cs
  contexts_whole [] [] same = refl
  contexts_whole [] (c ∷ cs) same = let clash : [] ≡ renumbered_alone numbers c ∷ map (renumbered_alone numbers) cs = same in absurd (cc)
  contexts_whole (o ∷ os) [] same = let clash : context_alone o ∷ map context_alone os ≡ [] = same in absurd (cc)
  contexts_whole (o ∷ os) (c ∷ cs) same =
      let both : context_alone o ∷ map context_alone os ≡ renumbered_alone numbers c ∷ map (renumbered_alone numbers) cs = same in
      let first : between (term_of o.left) (term_of o.right) no_context ≡ between (renumbered_term numbers c.left) (renumbered_term numbers c.right) no_context = cc in
      let rest : map context_alone os ≡ map (renumbered_alone numbers) cs = cc in
      let left : term_of o.left ≡ renumbered_term numbers c.left = cc in
      let right : term_of o.right ≡ renumbered_term numbers c.right = cc in
      let all = contexts_whole os cs rest in
      λ i. between (left i) (right i) (all i)

  contexts_apart : (os cs : List (Context (PairPart Atom))) → contexts_in os ≡ renumbered_contexts numbers cs → map context_alone os ≡ map (renumbered_alone numbers) cs
  contexts_apart [] [] same = refl
  contexts_apart [] (c ∷ cs) same =
      let clash : no_context ≡ between (renumbered_term numbers c.left) (renumbered_term numbers c.right) (renumbered_contexts numbers cs) = same in absurd (cc)
  contexts_apart (o ∷ os) [] same = let clash : between (term_of o.left) (term_of o.right) (contexts_in os) ≡ no_context = same in absurd (cc)
  contexts_apart (o ∷ os) (c ∷ cs) same =
      let both : between (term_of o.left) (term_of o.right) (contexts_in os) ≡ between (renumbered_term numbers c.left) (renumbered_term numbers c.right) (renumbered_contexts numbers cs) = same in
      let left : term_of o.left ≡ renumbered_term numbers c.left = cc in
      let right : term_of o.right ≡ renumbered_term numbers c.right = cc in
      let rest : contexts_in os ≡ renumbered_contexts numbers cs = cc in
      let all = contexts_apart os cs rest in
      λ i. between (left i) (right i) no_context ∷ all i

  module _ (other set : SetOf Atom) where
    pub set_same : other.name ≡ set.name → (r : Bool) → (IsTrue r ↔ (other.symbols.items ≡ map by set.symbols.items)) → IsTrue r ↔ (set_of other ≡ renumbered_set numbers set)
    set_same name r told = (
      λ yes. let symbols = told.0 yes in λ i. record { name = name i; symbols = symbols i },
      λ same. told.1 (ap (λ (s : Set Atom). s.symbols) same),
    )

    pub set_differs : (r : Bool) → r ≡ false → (IsTrue r ↔ (other.name ≡ set.name)) → IsTrue r ↔ (set_of other ≡ renumbered_set numbers set)
    set_differs r fails told = (
      λ yes. let clash : r ≡ true = yes in cc,
      λ same. told.1 (ap (λ (s : Set Atom). s.name) same),
    )

  module _ (other definition : PairDefine Atom) where
    pub definition_same : other.name ≡ definition.name → (r : Bool) → (IsTrue r ↔ (term_of other.expr ≡ renumbered_term numbers definition.expr)) → IsTrue r ↔ (definition_of other ≡ renumbered_definition numbers definition)
    definition_same name r told = (
      λ yes. let expr = told.0 yes in λ i. record { name = name i; term = expr i },
      λ same. told.1 (ap (λ (d : PairDefinition Atom). d.term) same),
    )

    pub definition_differs : (other.name ≡ definition.name → ⊥) → IsTrue false ↔ (definition_of other ≡ renumbered_definition numbers definition)
    definition_differs differ = never (λ same. differ (ap (λ (d : PairDefinition Atom). d.name) same))

  module _ (other rule : TwoLevelRule Atom) where
    pub rule_same : IsSameHead numbers other rule → (r : Bool) → (IsTrue r ↔ (map context_alone other.contexts.items ≡ map (renumbered_alone numbers) rule.contexts.items))
        → IsTrue r ↔ (rule_of other ≡ renumbered_rule numbers rule)
    rule_same head r told = (
      λ yes.
          let name = head.name in
          let kind = head.kind in
          let pair = head.pair in
          let contexts = contexts_whole other.contexts.items rule.contexts.items (told.0 yes) in
          λ i. record { name = name i; centre = pair i; kind = kind i; contexts = contexts i },
      λ same. told.1 (contexts_apart other.contexts.items rule.contexts.items (ap (λ (x : Rule Atom). x.contexts) same)),
    )

    pub rule_differs : (IsSameHead numbers other rule → ⊥) → IsTrue false ↔ (rule_of other ≡ renumbered_rule numbers rule)
    rule_differs differ = never (λ same. differ (record {
      name = ap (λ (x : Rule Atom). x.name) same;
      kind = ap (λ (x : Rule Atom). x.kind) same;
      pair = ap (λ (x : Rule Atom). x.centre) same;
    }))

  module _ (other grammar : GrammarOf Atom) where
    abbrev SamePairs : Type 0
    SamePairs = map pair_of other.pairs.items ≡ map (renumbered_pair numbers) grammar.pairs.items

    abbrev SameSets : Type 0
    SameSets = map set_of other.sets.items ≡ map (renumbered_set numbers) grammar.sets.items

    abbrev SameDefinitions : Type 0
    SameDefinitions = map definition_of other.definitions.items ≡ map (renumbered_definition numbers) grammar.definitions.items

    abbrev SameRules : Type 0
    SameRules = map rule_of other.rules.items ≡ map (renumbered_rule numbers) grammar.rules.items

    abbrev SameGrammar : Type 0
    SameGrammar = grammar_of other ≡ mapped_grammar by (grammar_of grammar)

    pub pairs_in : SameGrammar → SamePairs
    pairs_in same = ap (λ (g : Grammar Atom). g.pairs) same ∙ map-map (mapped_pair by) pair_of grammar.pairs.items

    pub sets_in : SameGrammar → SameSets
    sets_in same = ap (λ (g : Grammar Atom). g.sets) same ∙ map-map (mapped_set by) set_of grammar.sets.items

    pub definitions_in : SameGrammar → SameDefinitions
    definitions_in same = ap (λ (g : Grammar Atom). g.definitions) same ∙ map-map (mapped_definition by) definition_of grammar.definitions.items

    rules_in : SameGrammar → SameRules
    rules_in same = ap (λ (g : Grammar Atom). g.rules) same ∙ map-map (mapped_rule by) rule_of grammar.rules.items

    -- what stands above the rules is the same
    pub grammar_same : SamePairs → SameSets → SameDefinitions → (r : Bool) → (IsTrue r ↔ SameRules) → IsTrue r ↔ SameGrammar
    grammar_same pairs_same sets_same definitions_same r told = (
      λ yes.
          let pairs = pairs_same ∙ sym (map-map (mapped_pair by) pair_of grammar.pairs.items) in
          let sets = sets_same ∙ sym (map-map (mapped_set by) set_of grammar.sets.items) in
          let definitions = definitions_same ∙ sym (map-map (mapped_definition by) definition_of grammar.definitions.items) in
          let all = told.0 yes ∙ sym (map-map (mapped_rule by) rule_of grammar.rules.items) in
          λ i. record { pairs = pairs i; sets = sets i; definitions = definitions i; rules = all i },
      λ same. told.1 (rules_in same),
    )
