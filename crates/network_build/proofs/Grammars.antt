-- Grammars by their leaves: which pass a test, and that the feasible pairs are over symbols that have those of the grammar.
use Rattle.std.proofs.Common.{◌≡◌, Bool, ◌++◌, Some, List, [], ◌∷◌, Option, None, All, Contains, IsTrue, map, refl, sym, subst, ◌∙◌}
use Rattle.std.proofs.lemmas.Bool.{and_parts}
use Rattle.std.proofs.lemmas.List.Elements.{All-nil, All-cons, All-append, All-map, All-contains, All-weaker}
use Rattle.std.proofs.lemmas.Option.{same_Some}
use Rattle.std.specs.Cmp.Derive.{both_true}
use Rattle.std.specs.List.{flat_map}
use Rattle.fsm_base.specs.declared.letters.Pair.{Pair as Letter}
use Rattle.fsm_base.specs.declared.letters.Sym.{Sym as Symbol}
use Rattle.word_relations.proofs.Members.{Contains-head, Contains-map, Contains-tail}
use Rattle.regex_ast.specs.declared.expr.Atom.{Atom}
use Rattle.regex_ast.specs.declared.expr.Atom.TheVariants.{Sym, Name}
use Rattle.regex_ast.specs.declared.expr.Context.{Context}
use Rattle.regex_ast.specs.declared.expr.Expr.{Expr}
use Rattle.regex_ast.specs.declared.twolc.Grammar.{Grammar as GrammarOf}
use Rattle.regex_ast.specs.declared.twolc.PairPart.{PairPart}
use Rattle.regex_ast.specs.Terms.{Contexts, Term, term}
use Rattle.expr_kinds.specs.Atoms.{is_symbol_of}
use Rattle.expr_kinds.specs.Built.{ContextsAreBuilt, IsBuilt}
use Rattle.expr_leaves.specs.Leaves.{leaves_in as leaves_in_term, leaves_in_contexts, listed, listed_contexts}
use Rattle.name_resolution.proofs.Listed.{contexts_is, listed_is}
use Rattle.name_resolution.proofs.Mapped.{mapped_listed}
use Rattle.project_meaning.specs.Trees.{Side, nothing, anything, one, member, Pair, Part, pair, called, PairDefinition, Rule, Set, Grammar}
use Rattle.project_meaning.proofs.Places.{in_back, in_flat, in_front}
use Rattle.grammar_pairs.specs.Feasible.{named_side, of_atom, of_context, of_definition, of_expression, of_rule, written_pair, written_part}
use Rattle.grammar_pairs.specs.Laws.{HasLeaves, pair_passes, part_passes, side_passes}
use Rattle.grammar_pairs.specs.Plain.{contexts_in, definition_of, grammar_of, pair_of, part_of, rule_of, symbol_in, term_of}
use Rattle.grammar_pairs.specs.Texts.{IsPairOver}
use Rattle.name_resolution.specs.Leaves.{leaves_in, leaves_in_pair, leaves_in_side, pairs_below, pairs_in_definition, pairs_in_part, pairs_in_rule}
use Rattle.network_grammars.specs.Meaning.{IsOverSymbols}
use Rattle.network_build.proofs.Built.{built_by, contexts_by, contexts_pass, leaves_pass}
use Rattle.network_build.proofs.Lists.{all_flat, all_within}
use Rattle.network_build.proofs.Held.{never, symbol_held}

-- where the leaves of a grammar stand
module _ {A : Type 0} (g : Grammar A) where
  abbrev of_pairs : List A
  of_pairs = flat_map leaves_in_pair g.pairs

  abbrev of_sets : List A
  of_sets = flat_map (λ (s : Set A). s.symbols) g.sets

  abbrev of_below : List A
  of_below = flat_map leaves_in_pair (pairs_below g)

  in_pairs : (x : Pair A) → Contains g.pairs x → (a : A) → Contains (leaves_in_pair x) a → Contains (leaves_in g) a
  in_pairs x among a at = in_front (of_pairs ++ of_sets) of_below a (in_front of_pairs of_sets a (in_flat leaves_in_pair g.pairs x a among at))

  in_sets : (s : Set A) → Contains g.sets s → (a : A) → Contains s.symbols a → Contains (leaves_in g) a
  in_sets s among a at = in_front (of_pairs ++ of_sets) of_below a (in_back of_pairs of_sets a (in_flat (λ (z : Set A). z.symbols) g.sets s a among at))

  in_below : (x : Pair A) → Contains (pairs_below g) x → (a : A) → Contains (leaves_in_pair x) a → Contains (leaves_in g) a
  in_below x among a at = in_back (of_pairs ++ of_sets) of_below a (in_flat leaves_in_pair (pairs_below g) x a among at)

  in_definition : (d : PairDefinition A) → Contains g.definitions d → (x : Pair A) → Contains (pairs_in_definition d) x → Contains (pairs_below g) x
  in_definition d among x at =
      in_front (flat_map pairs_in_definition g.definitions) (flat_map pairs_in_rule g.rules) x (in_flat pairs_in_definition g.definitions d x among at)

  in_rule : (r : Rule A) → Contains g.rules r → (x : Pair A) → Contains (pairs_in_rule r) x → Contains (pairs_below g) x
  in_rule r among x at = in_back (flat_map pairs_in_definition g.definitions) (flat_map pairs_in_rule g.rules) x (in_flat pairs_in_rule g.rules r x among at)

-- where leaves that pass a test pass another one, the grammar has leaves that pass it
module _ {A : Type 0} (p q : A → Bool) where
  abbrev Go : List A → Type 0
  Go leaves = (a : A) → Contains leaves a → IsTrue (p a) → IsTrue (q a)

  abbrev GoEach : List (Pair A) → Type 0
  GoEach xs = (x : Pair A) → Contains xs x → Go (leaves_in_pair x)

  side_by : (s : Side A) → Go (leaves_in_side s) → IsTrue (side_passes p s) → IsTrue (side_passes q s)
  side_by nothing go h = refl
  side_by anything go h = refl
  side_by (one leaf) go h = go leaf (Contains-head leaf []) h
  side_by (member set) go h = refl

  pair_by : (x : Pair A) → Go (leaves_in_pair x) → IsTrue (pair_passes p x) → IsTrue (pair_passes q x)
  pair_by x go h =
      let both = and_parts (side_passes p x.up) (side_passes p x.low) h in
      let up = leaves_in_side x.up in
      let low = leaves_in_side x.low in
      both_true (side_by x.up (λ a at. go a (in_front up low a at)) both.0) (side_by x.low (λ a at. go a (in_back up low a at)) both.1)

  part_by : (part : Part A) → GoEach (pairs_in_part part) → IsTrue (part_passes p part) → IsTrue (part_passes q part)
  part_by (pair x) go h = pair_by x (go x (Contains-head x [])) h
  part_by (called name) go h = refl

  term_by : (t : Term (Part A)) → GoEach (listed pairs_in_part t) → IsBuilt (part_passes p) t → IsBuilt (part_passes q) t
  term_by t go h = built_by (part_passes p) (part_passes p) (part_passes q) (part_passes q) t h (follows, follows)
    where
      follows : (part : Part A) → Contains (leaves_in_term t) part → IsTrue (part_passes p part) → IsTrue (part_passes q part)
      follows part at =
          part_by part (λ x there. go x (subst (λ (xs : List (Pair A)). Contains xs x) (sym (listed_is pairs_in_part t)) (in_flat pairs_in_part (leaves_in_term t) part x at there)))

  between_by : (cs : Contexts (Part A)) → GoEach (listed_contexts pairs_in_part cs) → ContextsAreBuilt (part_passes p) cs → ContextsAreBuilt (part_passes q) cs
  between_by cs go h = contexts_by (part_passes p) (part_passes p) (part_passes q) (part_passes q) cs h (follows, follows)
    where
      follows : (part : Part A) → Contains (leaves_in_contexts cs) part → IsTrue (part_passes p part) → IsTrue (part_passes q part)
      follows part at =
          part_by part (λ x there. go x (subst (λ (xs : List (Pair A)). Contains xs x) (sym (contexts_is pairs_in_part cs)) (in_flat pairs_in_part (leaves_in_contexts cs) part x at there)))

  pub grammar_by : (g : Grammar A) → Go (leaves_in g) → HasLeaves p g → HasLeaves q g
  grammar_by g go has = record {
    pairs =
        all_within (λ (x : Pair A). IsTrue (pair_passes p x)) (λ (x : Pair A). IsTrue (pair_passes q x)) g.pairs (λ x among h. pair_by x (λ a at. go a (in_pairs g x among a at)) h) has.pairs;
    sets =
        all_within (λ (s : Set A). All (λ leaf. IsTrue (p leaf)) s.symbols) (λ (s : Set A). All (λ leaf. IsTrue (q leaf)) s.symbols) g.sets
        (λ s among h. all_within (λ (leaf : A). IsTrue (p leaf)) (λ (leaf : A). IsTrue (q leaf)) s.symbols (λ a at pass. go a (in_sets g s among a at) pass) h) has.sets;
    definitions =
        all_within (λ (d : PairDefinition A). IsBuilt (part_passes p) d.term) (λ (d : PairDefinition A). IsBuilt (part_passes q) d.term) g.definitions
        (λ d among h. term_by d.term (λ x at a there. go a (in_below g x (in_definition g d among x at) a there)) h) has.definitions;
    rules =
        all_within (λ (r : Rule A). IsTrue (pair_passes p r.centre) × ContextsAreBuilt (part_passes p) r.contexts)
        (λ (r : Rule A). IsTrue (pair_passes q r.centre) × ContextsAreBuilt (part_passes q) r.contexts) g.rules
        (λ r among h. (
          pair_by r.centre (λ a at. go a (in_below g r.centre (in_rule g r among r.centre (Contains-head r.centre (listed_contexts pairs_in_part r.contexts))) a at)) h.0,
          between_by r.contexts (λ x at a there. go a (in_below g x (in_rule g r among x (Contains-tail r.centre (listed_contexts pairs_in_part r.contexts) x at)) a there)) h.1,
        )) has.rules;
  }

-- each leaf of a grammar passes
module _ {A : Type 0} (p : A → Bool) where
  abbrev Passes : A → Type 0
  Passes a = IsTrue (p a)

  abbrev PairPasses : Pair A → Type 0
  PairPasses x = IsTrue (pair_passes p x)

  side_leaves : (s : Side A) → IsTrue (side_passes p s) → All Passes (leaves_in_side s)
  side_leaves nothing h = All-nil Passes
  side_leaves anything h = All-nil Passes
  side_leaves (one leaf) h = All-cons Passes leaf [] h (All-nil Passes)
  side_leaves (member set) h = All-nil Passes

  pair_leaves : (x : Pair A) → PairPasses x → All Passes (leaves_in_pair x)
  pair_leaves x h =
      let both = and_parts (side_passes p x.up) (side_passes p x.low) h in
      All-append Passes (leaves_in_side x.up) (leaves_in_side x.low) (side_leaves x.up both.0) (side_leaves x.low both.1)

  part_pairs : (part : Part A) → IsTrue (part_passes p part) → All PairPasses (pairs_in_part part)
  part_pairs (pair x) h = All-cons PairPasses x [] h (All-nil PairPasses)
  part_pairs (called name) h = All-nil PairPasses

  parts_pairs : (parts : List (Part A)) → All (λ part. IsTrue (part_passes p part)) parts → All PairPasses (flat_map pairs_in_part parts)
  parts_pairs parts h = all_flat pairs_in_part PairPasses parts (λ part at. part_pairs part (All-contains (λ (x : Part A). IsTrue (part_passes p x)) parts part h at))

  definition_pairs : (d : PairDefinition A) → IsBuilt (part_passes p) d.term → All PairPasses (pairs_in_definition d)
  definition_pairs d h = subst (All PairPasses) (sym (listed_is pairs_in_part d.term)) (parts_pairs (leaves_in_term d.term) (leaves_pass (part_passes p) d.term h))

  rule_pairs : (r : Rule A) → IsTrue (pair_passes p r.centre) × ContextsAreBuilt (part_passes p) r.contexts → All PairPasses (pairs_in_rule r)
  rule_pairs r h =
      All-cons PairPasses r.centre (listed_contexts pairs_in_part r.contexts) h.0
      (subst (All PairPasses) (sym (contexts_is pairs_in_part r.contexts)) (parts_pairs (leaves_in_contexts r.contexts) (contexts_pass (part_passes p) r.contexts h.1)))

  pairs_leaves : (xs : List (Pair A)) → All PairPasses xs → All Passes (flat_map leaves_in_pair xs)
  pairs_leaves xs h = all_flat leaves_in_pair Passes xs (λ x at. pair_leaves x (All-contains PairPasses xs x h at))

  pub grammar_passes : (g : Grammar A) → HasLeaves p g → All Passes (leaves_in g)
  grammar_passes g has =
      All-append Passes (of_pairs g ++ of_sets g) (of_below g) (All-append Passes (of_pairs g) (of_sets g) (pairs_leaves g.pairs has.pairs) sets) (pairs_leaves (pairs_below g) below)
    where
      sets : All Passes (of_sets g)
      sets = all_flat (λ (s : Set A). s.symbols) Passes g.sets (λ s at. All-contains (λ (z : Set A). All (λ leaf. IsTrue (p leaf)) z.symbols) g.sets s has.sets at)

      below : All PairPasses (pairs_below g)
      below =
          All-append PairPasses (flat_map pairs_in_definition g.definitions) (flat_map pairs_in_rule g.rules)
          (all_flat pairs_in_definition PairPasses g.definitions (λ d at. definition_pairs d (All-contains (λ (z : PairDefinition A). IsBuilt (part_passes p) z.term) g.definitions d has.definitions at)))
          (all_flat pairs_in_rule PairPasses g.rules
          (λ r at. rule_pairs r (All-contains (λ (z : Rule A). IsTrue (pair_passes p z.centre) × ContextsAreBuilt (part_passes p) z.contexts) g.rules r has.rules at)))

-- symbols that have those of a grammar have those of its feasible pairs
module _ (symbols : List Symbol) where
  abbrev is_here : Atom → Bool
  is_here = is_symbol_of symbols

  abbrev IsOver : Letter → Type 0
  IsOver = IsPairOver symbols

  -- the symbol of a side, if it has one, is of them
  abbrev IsHeld : Option Symbol → Type 0
  IsHeld side = (s : Symbol) → side ≡ Some s → Contains symbols s

  leaf_held : (leaf : Atom) → IsTrue (is_here leaf) → Contains symbols (symbol_in leaf)
  leaf_held (Sym s) h = symbol_held symbols s h
  leaf_held (Name name) h = absurd (never h)

  none_held : IsHeld None
  none_held s e = cc

  side_over : (side : Side Atom) → IsTrue (side_passes is_here side) → All IsHeld (named_side side)
  side_over nothing h = All-cons IsHeld None [] none_held (All-nil IsHeld)
  side_over anything h = All-nil IsHeld
  side_over (one leaf) h =
      All-cons IsHeld (Some (symbol_in leaf)) [] (λ s e. subst (Contains symbols) (same_Some (symbol_in leaf) s e) (leaf_held leaf h)) (All-nil IsHeld)
  side_over (member set) h = All-nil IsHeld

  pair_over : (x : Pair Atom) → IsTrue (pair_passes is_here x) → All IsOver (written_pair x)
  pair_over x h =
      let both = and_parts (side_passes is_here x.up) (side_passes is_here x.low) h in
      let ups = named_side x.up in
      let lows = named_side x.low in
      let row : Option Symbol → List Letter = λ up. map (λ low. record { up = up; low = low }) lows in
      all_flat row IsOver ups
      (λ up at.
      All-map IsOver (λ low. record { up = up; low = low }) lows
      (All-weaker IsHeld (λ low. IsOver (record { up = up; low = low })) (λ low held. record { up = All-contains IsHeld ups up (side_over x.up both.0) at; low = held }) lows (side_over x.low both.1)))

  part_over : (part : Part Atom) → IsTrue (part_passes is_here part) → All IsOver (written_part part)
  part_over (pair x) h = pair_over x h
  part_over (called name) h = All-nil IsOver

  expression_over : (e : Expr (PairPart Atom)) → IsBuilt (part_passes is_here) (term_of e) → All IsOver (of_expression e)
  expression_over e h =
      let parts = leaves_in_term (term_of e) in
      let same = sym (listed_is written_part (term_of e)) ∙ mapped_listed written_part part_of (term e) ∙ listed_is (λ (x : PairPart Atom). written_part (part_of x)) (term e) in
      subst (All IsOver) same
      (all_flat written_part IsOver parts (λ part at. part_over part (All-contains (λ (x : Part Atom). IsTrue (part_passes is_here x)) parts part (leaves_pass (part_passes is_here) (term_of e) h) at)))

  contexts_over : (cs : List (Context (PairPart Atom))) → ContextsAreBuilt (part_passes is_here) (contexts_in cs) → All IsOver (flat_map of_context cs)
  contexts_over [] h = All-nil IsOver
  contexts_over (c ∷ cs) h =
      All-append IsOver (of_context c) (flat_map of_context cs) (All-append IsOver (of_expression c.left) (of_expression c.right) (expression_over c.left h.0) (expression_over c.right h.1))
      (contexts_over cs h.2)

  pub grammar_over : (g : GrammarOf Atom) → HasLeaves is_here (grammar_of g) → IsOverSymbols symbols g
  grammar_over g has =
      All-append IsOver (flat_map of_atom g.pairs.items ++ flat_map of_definition g.definitions.items) (flat_map of_rule g.rules.items)
      (All-append IsOver (flat_map of_atom g.pairs.items) (flat_map of_definition g.definitions.items) pairs definitions) rules
    where
      pairs : All IsOver (flat_map of_atom g.pairs.items)
      pairs =
          all_flat of_atom IsOver g.pairs.items
          (λ x at. pair_over (pair_of x) (All-contains (λ (z : Pair Atom). IsTrue (pair_passes is_here z)) (map pair_of g.pairs.items) (pair_of x) has.pairs (Contains-map pair_of g.pairs.items x at)))

      definitions : All IsOver (flat_map of_definition g.definitions.items)
      definitions =
          all_flat of_definition IsOver g.definitions.items
          (λ d at.
          expression_over d.expr
          (All-contains (λ (z : PairDefinition Atom). IsBuilt (part_passes is_here) z.term) (map definition_of g.definitions.items) (definition_of d) has.definitions (Contains-map definition_of g.definitions.items d at)))

      rules : All IsOver (flat_map of_rule g.rules.items)
      rules =
          all_flat of_rule IsOver g.rules.items
          (λ r at.
          let here = All-contains (λ (z : Rule Atom). IsTrue (pair_passes is_here z.centre) × ContextsAreBuilt (part_passes is_here) z.contexts) (map rule_of g.rules.items) (rule_of r) has.rules
          (Contains-map rule_of g.rules.items r at) in
          All-append IsOver (of_atom r.pair) (flat_map of_context r.contexts.items) (pair_over (pair_of r.pair) here.0) (contexts_over r.contexts.items here.1))
