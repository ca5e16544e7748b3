-- The weight of a grammar by the numbers of its symbols is that by their texts.
use Rattle.std.proofs.Common.{◌≡◌, ℕ, Bool, List, [], ◌∷◌, ◌++◌, length, map, All, Contains, refl, sym, ap, subst, ◌∙◌, eq-eqb}
use Rattle.std.proofs.lemmas.List.Elements.{All-nil, All-cons, All-head, All-tail, All-append}
use Rattle.std.proofs.lemmas.List.Folds.{flat_map-map}
use Rattle.std.specs.List.{flat_map}
use Rattle.std.specs.Str.{bytes_eq}
use Rattle.regex_ast.specs.declared.expr.Raw.{Raw}
use Rattle.regex_ast.specs.Terms.{Contexts, Term}
use Rattle.expr_leaves.specs.Leaves.{leaf_alone, listed, listed_contexts}
use Rattle.expr_leaves.specs.Mapped.{mapped, mapped_contexts}
use Rattle.grammar_pairs.specs.Mapped.{mapped_grammar}
use Rattle.grammar_pairs.proofs.Replaced.{resolved_mapped}
use Rattle.name_resolution.specs.Leaves.{leaves_in, leaves_in_pair, leaves_in_side, pairs_below, pairs_in_definition, pairs_in_part, pairs_in_rule}
use Rattle.grammar_weights.specs.Weights.{grammar_weight, is_same_symbol}
use Rattle.grammar_weights.proofs.Lawful.{alike_weighs, mapped_weighs, meant_weighs}
use Rattle.name_resolution.specs.Numbered.{numbered}
use Rattle.name_resolution.proofs.Listed.{contexts_is, listed_is}
use Rattle.name_resolution.proofs.Mapped.{contexts_listed, mapped_listed}
use Rattle.project_meaning.specs.Grammars.{grammar_weight as meant_weight}
use Rattle.project_meaning.specs.Leaves.{Leaf, symbol, grammar_symbols, pair_symbols, part_symbols, resolved_grammar, resolved_pair, resolved_pairs, resolved_part, resolved_rule, resolved_set, resolved_side, side_symbols, symbol_in, symbol_of, written}
use Rattle.project_meaning.specs.Lexicons.{text_in}
use Rattle.project_meaning.specs.Trees.{Side, nothing, anything, one, member, Pair, Part, pair, called, Set, PairDefinition, Rule, Grammar}
use Rattle.project_definitions.proofs.Built.{All-front, All-back}
use Rattle.project_definitions.proofs.Numbers.{texts_same}

-- what holds of all that changed items list holds of what stands in them
module _ {X Y U V : Type 0} (K : U → Type 0) (Q : V → Type 0) (change : X → Y) (of : Y → List U) (to : X → List V) (each : (x : X) → All K (of (change x)) → All Q (to x)) where
  rows_held : (xs : List X) → All K (flat_map of (map change xs)) → All Q (flat_map to xs)
  rows_held [] h = All-nil Q
  rows_held (x ∷ xs) h =
      let rest = flat_map of (map change xs) in
      All-append Q (to x) (flat_map to xs) (each x (All-front K (of (change x)) rest h)) (rows_held xs (All-back K (of (change x)) rest h))

  term_held : (t : Term X) → All K (listed of (mapped change t)) → All Q (listed to t)
  term_held t h =
      subst (All Q) (sym (listed_is to t))
      (rows_held (listed leaf_alone t) (subst (All K) (mapped_listed of change t ∙ listed_is (λ x. of (change x)) t ∙ sym (flat_map-map of change (listed leaf_alone t))) h))

  contexts_held : (cs : Contexts X) → All K (listed_contexts of (mapped_contexts change cs)) → All Q (listed_contexts to cs)
  contexts_held cs h =
      subst (All Q) (sym (contexts_is to cs))
      (rows_held (listed_contexts leaf_alone cs) (subst (All K) (contexts_listed of change cs ∙ contexts_is (λ x. of (change x)) cs ∙ sym (flat_map-map of change (listed_contexts leaf_alone cs))) h))

-- what holds of all that stand in each
joined : {X V : Type 0} (Q : V → Type 0) (to : X → List V) (xs : List X) → All (λ x. All Q (to x)) xs → All Q (flat_map to xs)
joined Q to [] h = All-nil Q
joined Q to (x ∷ xs) h = All-append Q (to x) (flat_map to xs) (All-head (λ x. All Q (to x)) x xs h) (joined Q to xs (All-tail (λ x. All Q (to x)) x xs h))

-- texts with a property that the symbols of a grammar have
module _ (K : List ℕ → Type 0) where
  abbrev pub HasText : Raw → Type 0
  HasText raw = All K (symbol_in (symbol_of raw))

  abbrev PairHas : Pair Raw → Type 0
  PairHas p = All HasText (leaves_in_pair p)

  side_has : (s : Side Raw) → All K (side_symbols (resolved_side s)) → All HasText (leaves_in_side s)
  side_has nothing h = All-nil HasText
  side_has anything h = All-nil HasText
  side_has (one raw) h = All-cons HasText raw [] h (All-nil HasText)
  side_has (member set) h = All-nil HasText

  pair_has : (p : Pair Raw) → All K (pair_symbols (resolved_pair p)) → PairHas p
  pair_has p h =
      All-append HasText (leaves_in_side p.up) (leaves_in_side p.low) (side_has p.up (All-front K (side_symbols (resolved_side p.up)) (side_symbols (resolved_side p.low)) h))
      (side_has p.low (All-back K (side_symbols (resolved_side p.up)) (side_symbols (resolved_side p.low)) h))

  part_has : (p : Part Raw) → All K (part_symbols (resolved_part p)) → All PairHas (pairs_in_part p)
  part_has (pair p) h = All-cons PairHas p [] (pair_has p h) (All-nil PairHas)
  part_has (called name) h = All-nil PairHas

  abbrev rule_symbols : Rule Leaf → List (List ℕ)
  rule_symbols r = pair_symbols r.centre ++ listed_contexts part_symbols r.contexts

  rule_has : (r : Rule Raw) → All K (rule_symbols (resolved_rule r)) → All PairHas (pairs_in_rule r)
  rule_has r h =
      let centre = pair_symbols (resolved_pair r.centre) in
      let contexts = listed_contexts part_symbols (resolved_rule r).contexts in
      All-cons PairHas r.centre (listed_contexts pairs_in_part r.contexts) (pair_has r.centre (All-front K centre contexts h))
      (contexts_held K PairHas resolved_part part_symbols pairs_in_part part_has r.contexts (All-back K centre contexts h))

  abbrev definition_symbols : PairDefinition Leaf → List (List ℕ)
  definition_symbols d = listed part_symbols d.term

  abbrev set_symbols : Set Leaf → List (List ℕ)
  set_symbols s = flat_map symbol_in s.symbols

  set_has : (s : Set Raw) → All K (set_symbols (resolved_set s)) → All HasText s.symbols
  set_has s h = symbols_have s.symbols h
    where
      symbols_have : (all : List Raw) → All K (flat_map symbol_in (map symbol_of all)) → All HasText all
      symbols_have [] h = All-nil HasText
      symbols_have (raw ∷ all) h =
          let rest = flat_map symbol_in (map symbol_of all) in
          All-cons HasText raw all (All-front K (symbol_in (symbol_of raw)) rest h) (symbols_have all (All-back K (symbol_in (symbol_of raw)) rest h))

  -- each leaf of the grammar has one
  pub leaves_have : (g : Grammar Raw) → All K (grammar_symbols (resolved_grammar g)) → All HasText (leaves_in g)
  leaves_have g h =
      let G = resolved_grammar g in
      let pairs = flat_map pair_symbols G.pairs in
      let sets = flat_map set_symbols G.sets in
      let definitions = flat_map definition_symbols G.definitions in
      let rules = flat_map rule_symbols G.rules in
      let before_rules = All-front K (pairs ++ sets ++ definitions) rules h in
      let first_two = All-front K (pairs ++ sets) definitions before_rules in
      let in_pairs = rows_held K HasText resolved_pair pair_symbols leaves_in_pair pair_has g.pairs (All-front K pairs sets first_two) in
      let in_sets = rows_held K HasText resolved_set set_symbols (λ (s : Set Raw). s.symbols) set_has g.sets (All-back K pairs sets first_two) in
      let in_definitions =
      rows_held K PairHas resolved_pairs definition_symbols pairs_in_definition (λ (d : PairDefinition Raw) own. term_held K PairHas resolved_part part_symbols pairs_in_part part_has d.term own) g.definitions
      (All-back K (pairs ++ sets) definitions before_rules) in
      let in_rules = rows_held K PairHas resolved_rule rule_symbols pairs_in_rule rule_has g.rules (All-back K (pairs ++ sets ++ definitions) rules h) in
      All-append HasText (flat_map leaves_in_pair g.pairs ++ flat_map (λ (s : Set Raw). s.symbols) g.sets) (flat_map leaves_in_pair (pairs_below g))
      (All-append HasText (flat_map leaves_in_pair g.pairs) (flat_map (λ (s : Set Raw). s.symbols) g.sets) in_pairs in_sets)
      (joined HasText leaves_in_pair (pairs_below g) (All-append PairHas (flat_map pairs_in_definition g.definitions) (flat_map pairs_in_rule g.rules) in_definitions in_rules))

module _ (names table : List (List ℕ)) where
  same_texts : (s t : List ℕ) → All (Contains table) (symbol_in (symbol s)) → All (Contains table) (symbol_in (symbol t)) → is_same_symbol (numbered names table (symbol s)) (numbered names table (symbol t)) ≡ bytes_eq s t
  same_texts [] [] p q = eq-eqb (length names) (length names) refl
  same_texts [] (c ∷ cs) p q = refl
  same_texts (b ∷ bs) [] p q = refl
  same_texts (b ∷ bs) (c ∷ cs) p q = texts_same table (b ∷ bs) (c ∷ cs) (All-head (Contains table) (b ∷ bs) [] p) (All-head (Contains table) (c ∷ cs) [] q)

  abbrev by_number : Leaf → Leaf → Bool
  by_number a b = is_same_symbol (numbered names table a) (numbered names table b)

  abbrev by_text : Leaf → Leaf → Bool
  by_text a b = bytes_eq (text_in a) (text_in b)

  pub weight_by_texts : (g : Grammar Raw) → All (Contains table) (grammar_symbols (resolved_grammar g))
      → grammar_weight is_same_symbol (mapped_grammar (numbered names table) (resolved_grammar g)) ≡ meant_weight (resolved_grammar g)
  weight_by_texts g held =
      mapped_weighs is_same_symbol (numbered names table) (resolved_grammar g) ∙ ap (grammar_weight by_number) (resolved_mapped g) ∙ mapped_weighs by_number symbol_of g
      ∙ alike_weighs (HasText (Contains table)) (λ (a b : Raw). by_number (symbol_of a) (symbol_of b)) (λ (a b : Raw). by_text (symbol_of a) (symbol_of b)) (λ a b. same_texts (written a) (written b)) g
      (leaves_have (Contains table) g held)
      ∙ sym (mapped_weighs by_text symbol_of g) ∙ sym (ap (grammar_weight by_text) (resolved_mapped g)) ∙ sym (meant_weighs (resolved_grammar g))
