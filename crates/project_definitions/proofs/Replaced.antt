-- Whether the leaves of a grammar pass a test, before and after they are replaced by others.
use Rattle.std.proofs.Common.{ℕ, Bool, IsTrue, List, ◌++◌, map, All, refl}
use Rattle.std.proofs.lemmas.List.Elements.{All-map, All-weaker}
use Rattle.std.specs.List.{flat_map}
use Rattle.regex_ast.specs.Terms.{Contexts, empty, only}
use Rattle.expr_kinds.specs.Built.{IsBuilt, ContextsAreBuilt}
use Rattle.expr_leaves.specs.Leaves.{listed, listed_contexts}
use Rattle.expr_leaves.specs.Mapped.{mapped_contexts}
use Rattle.grammar_pairs.specs.Laws.{HasLeaves, pair_passes, part_passes, side_passes}
use Rattle.grammar_pairs.specs.Mapped.{mapped_definition, mapped_grammar, mapped_pair, mapped_part, mapped_rule, mapped_set, mapped_side}
use Rattle.project_meaning.specs.Leaves.{Leaf, grammar_symbols, pair_symbols, part_symbols, side_symbols, symbol_in}
use Rattle.project_meaning.specs.Trees.{Grammar, Pair, PairDefinition, Part, Rule, Set, Side, nothing, anything, one, member, pair, called}
use Rattle.project_definitions.proofs.Bodies.{all_held}
use Rattle.project_definitions.proofs.Built.{All-back, All-front, both_hold, built_here, built_there, first_holds, second_holds}

-- what holds of each item holds of each that is mapped
each_on : {X Y : Type 0} (f : X → Y) (P : X → Type 0) (Q : Y → Type 0) → ((x : X) → P x → Q (f x)) → (xs : List X) → All P xs → All Q (map f xs)
each_on f P Q each xs h = All-map Q f xs (All-weaker P (λ x. Q (f x)) each xs h)

-- where each leaf that passes the one test passes the other once it is replaced
module _ {A B : Type 0} (f : A → B) (here : A → Bool) (there : B → Bool) (leaf : (a : A) → IsTrue (here a) → IsTrue (there (f a))) where
  side_there : (s : Side A) → IsTrue (side_passes here s) → IsTrue (side_passes there (mapped_side f s))
  side_there nothing h = refl
  side_there anything h = refl
  side_there (one a) h = leaf a h
  side_there (member set) h = refl

  pair_there : (p : Pair A) → IsTrue (pair_passes here p) → IsTrue (pair_passes there (mapped_pair f p))
  pair_there p h =
      both_hold (side_passes there (mapped_side f p.up)) (side_passes there (mapped_side f p.low)) (side_there p.up (first_holds (side_passes here p.up) (side_passes here p.low) h))
      (side_there p.low (second_holds (side_passes here p.up) (side_passes here p.low) h))

  part_there : (p : Part A) → IsTrue (part_passes here p) → IsTrue (part_passes there (mapped_part f p))
  part_there (pair p) h = pair_there p h
  part_there (called name) h = refl

  definition_there : (d : PairDefinition A) → IsBuilt (part_passes here) d.term → IsBuilt (part_passes there) (mapped_definition f d).term
  definition_there d h = built_there (mapped_part f) (part_passes here) (part_passes here) (part_passes there) (part_passes there) part_there part_there d.term h

  contexts_there : (contexts : Contexts (Part A)) → ContextsAreBuilt (part_passes here) contexts → ContextsAreBuilt (part_passes there) (mapped_contexts (mapped_part f) contexts)
  contexts_there contexts h = (built_there (mapped_part f) (part_passes here) (part_passes here) (part_passes there) (part_passes there) part_there part_there (only empty contexts) (tt, h)).1

  pub leaves_there : (g : Grammar A) → HasLeaves here g → HasLeaves there (mapped_grammar f g)
  leaves_there g h = record {
    pairs = each_on (mapped_pair f) (λ (p : Pair A). IsTrue (pair_passes here p)) (λ (p : Pair B). IsTrue (pair_passes there p)) pair_there g.pairs h.pairs;
    sets =
        each_on (mapped_set f) (λ (s : Set A). All (λ a. IsTrue (here a)) s.symbols) (λ (s : Set B). All (λ b. IsTrue (there b)) s.symbols)
        (λ s. each_on f (λ a. IsTrue (here a)) (λ b. IsTrue (there b)) leaf s.symbols) g.sets h.sets;
    definitions =
        each_on (mapped_definition f) (λ (d : PairDefinition A). IsBuilt (part_passes here) d.term) (λ (d : PairDefinition B). IsBuilt (part_passes there) d.term) definition_there g.definitions
        h.definitions;
    rules =
        each_on (mapped_rule f) (λ (r : Rule A). IsTrue (pair_passes here r.centre) × ContextsAreBuilt (part_passes here) r.contexts)
        (λ (r : Rule B). IsTrue (pair_passes there r.centre) × ContextsAreBuilt (part_passes there) r.contexts) (λ r own. (pair_there r.centre own.0, contexts_there r.contexts own.1)) g.rules h.rules;
  }

-- where each leaf whose symbol has a property passes the one test if it passes the other once it is replaced
module _ {B : Type 0} (f : Leaf → B) (here : Leaf → Bool) (there : B → Bool) (K : List ℕ → Type 0) (leaf : (a : Leaf) → All K (symbol_in a) → IsTrue (there (f a)) → IsTrue (here a)) where
  side_here : (s : Side Leaf) → All K (side_symbols s) → IsTrue (side_passes there (mapped_side f s)) → IsTrue (side_passes here s)
  side_here nothing held h = refl
  side_here anything held h = refl
  side_here (one a) held h = leaf a held h
  side_here (member set) held h = refl

  pair_here : (p : Pair Leaf) → All K (pair_symbols p) → IsTrue (pair_passes there (mapped_pair f p)) → IsTrue (pair_passes here p)
  pair_here p held h =
      both_hold (side_passes here p.up) (side_passes here p.low)
      (side_here p.up (All-front K (side_symbols p.up) (side_symbols p.low) held) (first_holds (side_passes there (mapped_side f p.up)) (side_passes there (mapped_side f p.low)) h))
      (side_here p.low (All-back K (side_symbols p.up) (side_symbols p.low) held) (second_holds (side_passes there (mapped_side f p.up)) (side_passes there (mapped_side f p.low)) h))

  part_here : (p : Part Leaf) → All K (part_symbols p) → IsTrue (part_passes there (mapped_part f p)) → IsTrue (part_passes here p)
  part_here (pair p) held h = pair_here p held h
  part_here (called name) held h = refl

  definition_here : (d : PairDefinition Leaf) → All K (listed part_symbols d.term) → IsBuilt (part_passes there) (mapped_definition f d).term → IsBuilt (part_passes here) d.term
  definition_here d held h =
      built_here (mapped_part f) (part_passes here) (part_passes here) (part_passes there) (part_passes there) part_symbols K part_here part_here d.term held h

  contexts_here : (contexts : Contexts (Part Leaf)) → All K (listed_contexts part_symbols contexts) → ContextsAreBuilt (part_passes there) (mapped_contexts (mapped_part f) contexts)
      → ContextsAreBuilt (part_passes here) contexts
  contexts_here contexts held h =
      (built_here (mapped_part f) (part_passes here) (part_passes here) (part_passes there) (part_passes there) part_symbols K part_here part_here (only empty contexts) held (tt, h)).1

  abbrev of_rule : Rule Leaf → List (List ℕ)
  of_rule r = pair_symbols r.centre ++ listed_contexts part_symbols r.contexts

  rule_here : (r : Rule Leaf) → All K (of_rule r) → IsTrue (pair_passes there (mapped_rule f r).centre) × ContextsAreBuilt (part_passes there) (mapped_rule f r).contexts
      → IsTrue (pair_passes here r.centre) × ContextsAreBuilt (part_passes here) r.contexts
  rule_here r held h = (
    pair_here r.centre (All-front K (pair_symbols r.centre) (listed_contexts part_symbols r.contexts) held) h.0,
    contexts_here r.contexts (All-back K (pair_symbols r.centre) (listed_contexts part_symbols r.contexts) held) h.1,
  )

  pub leaves_here : (g : Grammar Leaf) → All K (grammar_symbols g) → HasLeaves there (mapped_grammar f g) → HasLeaves here g
  leaves_here g held h =
      let pairs = flat_map pair_symbols g.pairs in
      let sets = flat_map (λ (s : Set Leaf). flat_map symbol_in s.symbols) g.sets in
      let definitions = flat_map (λ (d : PairDefinition Leaf). listed part_symbols d.term) g.definitions in
      let rules = flat_map of_rule g.rules in
      let before_rules = All-front K (pairs ++ sets ++ definitions) rules held in
      let first_two = All-front K (pairs ++ sets) definitions before_rules in
      record {
        pairs = all_held (mapped_pair f) pair_symbols K (λ (p : Pair Leaf). IsTrue (pair_passes here p)) (λ (p : Pair B). IsTrue (pair_passes there p)) pair_here g.pairs (All-front K pairs sets first_two) h.pairs;
        sets =
            all_held (mapped_set f) (λ (s : Set Leaf). flat_map symbol_in s.symbols) K (λ (s : Set Leaf). All (λ a. IsTrue (here a)) s.symbols) (λ (s : Set B). All (λ b. IsTrue (there b)) s.symbols)
            (λ s own. all_held f symbol_in K (λ a. IsTrue (here a)) (λ b. IsTrue (there b)) leaf s.symbols own) g.sets (All-back K pairs sets first_two) h.sets;
        definitions =
            all_held (mapped_definition f) (λ (d : PairDefinition Leaf). listed part_symbols d.term) K (λ (d : PairDefinition Leaf). IsBuilt (part_passes here) d.term)
            (λ (d : PairDefinition B). IsBuilt (part_passes there) d.term) definition_here g.definitions (All-back K (pairs ++ sets) definitions before_rules) h.definitions;
        rules =
            all_held (mapped_rule f) of_rule K (λ (r : Rule Leaf). IsTrue (pair_passes here r.centre) × ContextsAreBuilt (part_passes here) r.contexts)
            (λ (r : Rule B). IsTrue (pair_passes there r.centre) × ContextsAreBuilt (part_passes there) r.contexts) rule_here g.rules (All-back K (pairs ++ sets ++ definitions) rules held) h.rules;
      }
