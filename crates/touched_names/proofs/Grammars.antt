-- Grammars whose leaves are replaced: by two replacements one after the other, by two that agree on their leaves, and by one that leaves
-- each as it is.
use Rattle.std.proofs.Common.{◌≡◌, ◌&&◌, Bool, true, false, IsTrue, All, refl, sym, ap, subst, ◌∙◌}
use Rattle.std.proofs.lemmas.Simd.{map-map}
use Rattle.body_equality.proofs.Alike.{alike, same}
use Rattle.expr_kinds.specs.Built.{ContextsAreBuilt, IsBuilt}
use Rattle.expr_leaves.specs.Mapped.{mapped, mapped_contexts}
use Rattle.grammar_pairs.specs.Laws.{HasLeaves, pair_passes, part_passes, side_passes}
use Rattle.grammar_pairs.specs.Mapped.{mapped_definition, mapped_grammar, mapped_pair, mapped_part, mapped_rule, mapped_set, mapped_side}
use Rattle.name_resolution.proofs.Mapped.{contexts_twice, mapped_twice}
use Rattle.project_definitions.proofs.Mapped.{mapped_built}
use Rattle.project_meaning.specs.Trees.{Side, nothing, anything, one, member, Pair, Part, pair, called, Set, PairDefinition, Rule, Grammar}
use Rattle.regex_ast.specs.Terms.{Term, Contexts, empty, no_context, only}
use Rattle.touched_names.proofs.Each.{all_under, each, each_same, each_twice}

-- the contexts of a term, if it has some
abbrev behind : {A : Type 0} → Term A → Contexts A
behind (only e contexts) = contexts
behind _ = no_context

-- one after the other
module _ {A B C : Type 0} (g : B → C) (f : A → B) where
  abbrev joint : A → C
  joint a = g (f a)

  side_twice : (s : Side A) → mapped_side g (mapped_side f s) ≡ mapped_side joint s
  side_twice nothing = refl
  side_twice anything = refl
  side_twice (one leaf) = refl
  side_twice (member set) = refl

  pair_twice : (p : Pair A) → mapped_pair g (mapped_pair f p) ≡ mapped_pair joint p
  pair_twice p = let up = side_twice p.up in let low = side_twice p.low in λ i. record { up = up i; low = low i }

  part_twice : (p : Part A) → mapped_part g (mapped_part f p) ≡ mapped_part joint p
  part_twice (pair p) = ap pair (pair_twice p)
  part_twice (called name) = refl

  set_twice : (s : Set A) → mapped_set g (mapped_set f s) ≡ mapped_set joint s
  set_twice s = let symbols = map-map g f s.symbols in λ i. record { name = s.name; symbols = symbols i }

  definition_twice : (d : PairDefinition A) → mapped_definition g (mapped_definition f d) ≡ mapped_definition joint d
  definition_twice d =
      let own = mapped_twice (mapped_part g) (mapped_part f) d.term ∙ (λ i. mapped (λ p. part_twice p i) d.term) in
      λ i. record { name = d.name; term = own i }

  rule_twice : (r : Rule A) → mapped_rule g (mapped_rule f r) ≡ mapped_rule joint r
  rule_twice r =
      let centre = pair_twice r.centre in
      let own = contexts_twice (mapped_part g) (mapped_part f) r.contexts ∙ (λ i. mapped_contexts (λ p. part_twice p i) r.contexts) in
      λ i. record { name = r.name; centre = centre i; kind = r.kind; contexts = own i }

  pub grammar_twice : (x : Grammar A) → mapped_grammar g (mapped_grammar f x) ≡ mapped_grammar joint x
  grammar_twice x =
      let pairs = each_twice (mapped_pair g) (mapped_pair f) (mapped_pair joint) pair_twice x.pairs in
      let sets = each_twice (mapped_set g) (mapped_set f) (mapped_set joint) set_twice x.sets in
      let definitions = each_twice (mapped_definition g) (mapped_definition f) (mapped_definition joint) definition_twice x.definitions in
      let rules = each_twice (mapped_rule g) (mapped_rule f) (mapped_rule joint) rule_twice x.rules in
      λ i. record { pairs = pairs i; sets = sets i; definitions = definitions i; rules = rules i }

first_holds : (a b : Bool) → IsTrue (a && b) → IsTrue a
first_holds true b h = refl
first_holds false b h = h

second_holds : (a b : Bool) → IsTrue (a && b) → IsTrue b
second_holds true b h = h
second_holds false b h = let never : false ≡ true = h in cc

-- by two that agree
module _ {A B : Type 0} (passes : A → Bool) (f g : A → B) (agree : (a : A) → IsTrue (passes a) → f a ≡ g a) where
  side_alike : (s : Side A) → IsTrue (side_passes passes s) → mapped_side f s ≡ mapped_side g s
  side_alike nothing h = refl
  side_alike anything h = refl
  side_alike (one leaf) h = ap one (agree leaf h)
  side_alike (member set) h = refl

  pair_alike : (p : Pair A) → IsTrue (pair_passes passes p) → mapped_pair f p ≡ mapped_pair g p
  pair_alike p h =
      let up = side_alike p.up (first_holds (side_passes passes p.up) (side_passes passes p.low) h) in
      let low = side_alike p.low (second_holds (side_passes passes p.up) (side_passes passes p.low) h) in
      λ i. record { up = up i; low = low i }

  part_alike : (p : Part A) → IsTrue (part_passes passes p) → mapped_part f p ≡ mapped_part g p
  part_alike (pair p) h = ap pair (pair_alike p h)
  part_alike (called name) h = refl

  set_alike : (s : Set A) → All (λ leaf. IsTrue (passes leaf)) s.symbols → mapped_set f s ≡ mapped_set g s
  set_alike s h = let symbols = each f g (λ leaf. IsTrue (passes leaf)) agree s.symbols h in λ i. record { name = s.name; symbols = symbols i }

  term_alike : (t : Term (Part A)) → IsBuilt (part_passes passes) t → mapped (mapped_part f) t ≡ mapped (mapped_part g) t
  term_alike t h = alike (part_passes passes) (part_passes passes) (mapped_part f) (mapped_part g) part_alike part_alike t h

  contexts_alike : (cs : Contexts (Part A)) → ContextsAreBuilt (part_passes passes) cs → mapped_contexts (mapped_part f) cs ≡ mapped_contexts (mapped_part g) cs
  contexts_alike cs h = ap (λ (t : Term (Part B)). behind t) (term_alike (only empty cs) (tt, h))

  definition_alike : (d : PairDefinition A) → IsBuilt (part_passes passes) d.term → mapped_definition f d ≡ mapped_definition g d
  definition_alike d h = let own = term_alike d.term h in λ i. record { name = d.name; term = own i }

  rule_alike : (r : Rule A) → IsTrue (pair_passes passes r.centre) × ContextsAreBuilt (part_passes passes) r.contexts → mapped_rule f r ≡ mapped_rule g r
  rule_alike r h =
      let centre = pair_alike r.centre h.0 in
      let own = contexts_alike r.contexts h.1 in
      λ i. record { name = r.name; centre = centre i; kind = r.kind; contexts = own i }

  pub grammar_alike : (x : Grammar A) → HasLeaves passes x → mapped_grammar f x ≡ mapped_grammar g x
  grammar_alike x h =
      let pairs = each (mapped_pair f) (mapped_pair g) (λ p. IsTrue (pair_passes passes p)) pair_alike x.pairs h.pairs in
      let sets = each (mapped_set f) (mapped_set g) (λ s. All (λ leaf. IsTrue (passes leaf)) s.symbols) set_alike x.sets h.sets in
      let definitions = each (mapped_definition f) (mapped_definition g) (λ d. IsBuilt (part_passes passes) d.term) definition_alike x.definitions h.definitions in
      let rules = each (mapped_rule f) (mapped_rule g) (λ r. IsTrue (pair_passes passes r.centre) × ContextsAreBuilt (part_passes passes) r.contexts) rule_alike x.rules h.rules in
      λ i. record { pairs = pairs i; sets = sets i; definitions = definitions i; rules = rules i }

-- by one that leaves each as it is
module _ {A : Type 0} where
  abbrev id : A → A
  id a = a

  side_same : (s : Side A) → mapped_side id s ≡ s
  side_same nothing = refl
  side_same anything = refl
  side_same (one leaf) = refl
  side_same (member set) = refl

  pair_same : (p : Pair A) → mapped_pair id p ≡ p
  pair_same p = let up = side_same p.up in let low = side_same p.low in λ i. record { up = up i; low = low i }

  part_same : (p : Part A) → mapped_part id p ≡ p
  part_same (pair p) = ap pair (pair_same p)
  part_same (called name) = refl

  set_same : (s : Set A) → mapped_set id s ≡ s
  set_same s = let symbols = each_same id (λ a. refl) s.symbols in λ i. record { name = s.name; symbols = symbols i }

  term_same : (t : Term (Part A)) → mapped (mapped_part id) t ≡ t
  term_same t = (λ i. mapped (λ p. part_same p i) t) ∙ same t

  contexts_same : (cs : Contexts (Part A)) → mapped_contexts (mapped_part id) cs ≡ cs
  contexts_same cs = ap (λ (t : Term (Part A)). behind t) (term_same (only empty cs))

  definition_same : (d : PairDefinition A) → mapped_definition id d ≡ d
  definition_same d = let own = term_same d.term in λ i. record { name = d.name; term = own i }

  rule_same : (r : Rule A) → mapped_rule id r ≡ r
  rule_same r = let centre = pair_same r.centre in let own = contexts_same r.contexts in λ i. record { name = r.name; centre = centre i; kind = r.kind; contexts = own i }

  pub grammar_same : (x : Grammar A) → mapped_grammar id x ≡ x
  grammar_same x =
      let pairs = each_same (mapped_pair id) pair_same x.pairs in
      let sets = each_same (mapped_set id) set_same x.sets in
      let definitions = each_same (mapped_definition id) definition_same x.definitions in
      let rules = each_same (mapped_rule id) rule_same x.rules in
      λ i. record { pairs = pairs i; sets = sets i; definitions = definitions i; rules = rules i }

-- the leaves of a grammar are such as they become
module _ {A B : Type 0} (passes : B → Bool) (f : A → B) where
  abbrev before : A → Bool
  before a = passes (f a)

  side_under : (s : Side A) → side_passes passes (mapped_side f s) ≡ side_passes before s
  side_under nothing = refl
  side_under anything = refl
  side_under (one leaf) = refl
  side_under (member set) = refl

  pair_under : (p : Pair A) → pair_passes passes (mapped_pair f p) ≡ pair_passes before p
  pair_under p = let up = side_under p.up in let low = side_under p.low in λ i. up i && low i

  part_under : (p : Part A) → part_passes passes (mapped_part f p) ≡ part_passes before p
  part_under (pair p) = pair_under p
  part_under (called name) = refl

  term_under : (t : Term (Part A)) → IsBuilt (part_passes passes) (mapped (mapped_part f) t) ≡ IsBuilt (part_passes before) t
  term_under t = mapped_built (part_passes passes) (part_passes passes) (mapped_part f) t ∙ (λ i. IsBuilt (λ p. part_under p i) t)

  contexts_under : (cs : Contexts (Part A)) → ContextsAreBuilt (part_passes passes) (mapped_contexts (mapped_part f) cs) → ContextsAreBuilt (part_passes before) cs
  contexts_under cs h = (subst (λ (T : Type 0). T) (term_under (only empty cs)) (tt, h)).1

  pair_had : (p : Pair A) → IsTrue (pair_passes passes (mapped_pair f p)) → IsTrue (pair_passes before p)
  pair_had p h = sym (pair_under p) ∙ h

  pub grammar_under : (x : Grammar A) → HasLeaves passes (mapped_grammar f x) → HasLeaves before x
  grammar_under x h = record {
    pairs = all_under (mapped_pair f) (λ p. IsTrue (pair_passes passes p)) (λ p. IsTrue (pair_passes before p)) pair_had x.pairs h.pairs;
    sets = all_under (mapped_set f) (λ s. All (λ leaf. IsTrue (passes leaf)) s.symbols) (λ s. All (λ leaf. IsTrue (before leaf)) s.symbols)
        (λ s held. all_under f (λ leaf. IsTrue (passes leaf)) (λ leaf. IsTrue (before leaf)) (λ leaf held. held) s.symbols held) x.sets h.sets;
    definitions = all_under (mapped_definition f) (λ d. IsBuilt (part_passes passes) d.term) (λ d. IsBuilt (part_passes before) d.term)
        (λ d held. subst (λ (T : Type 0). T) (term_under d.term) held) x.definitions h.definitions;
    rules = all_under (mapped_rule f) (λ r. IsTrue (pair_passes passes r.centre) × ContextsAreBuilt (part_passes passes) r.contexts)
        (λ r. IsTrue (pair_passes before r.centre) × ContextsAreBuilt (part_passes before) r.contexts)
        (λ r held. (pair_had r.centre held.0, contexts_under r.contexts held.1)) x.rules h.rules;
  }
