-- Rules one by one: each is built, fits, and weighs no more than all.
use Rattle.std.proofs.Common.{◌≡◌, ◌<◌, ◌≤◌, ℕ, zero, suc, Bool, true, false, ◌||◌, IsTrue, List, [], ◌∷◌, length, take, get_or, arith, refl, sym, ap, subst}
use Rattle.fsm_base.specs.declared.letters.Sym.{Sym}
use Rattle.fsm_base.specs.declared.letters.Pair.{Pair}
use Rattle.word_relations.specs.Relations.{AreSame}
use Rattle.word_relations.proofs.Pairs.{same_trans}
use Rattle.fsa.specs.Automaton.{Automaton}
use Rattle.fst_algebra.specs.Relation.{IsRelated}
use Rattle.regex_ast.specs.declared.expr.Atom.{Atom}
use Rattle.regex_ast.specs.declared.expr.Context.{Context}
use Rattle.regex_ast.specs.declared.expr.Group.{Group}
use Rattle.regex_ast.specs.declared.expr.Mapping.{Mapping, Plain, Markup, Insert}
use Rattle.regex_ast.specs.declared.expr.Expr.TheViews.{out-Group, roll-Group, roll-out-Group}
use Rattle.regex_ast.specs.declared.expr.Way.{Way}
use Rattle.regex_ast.specs.Terms.{rules, directed, side_of, mappings_of, contexts_of, groups_of}
use Rattle.expr_kinds.specs.Built.{is_insertion}
use Rattle.expr_kinds.specs.Kinds.{MappingsFit, ContextsFit, GroupsFit}
use Rattle.expr_meaning.specs.Directed.{IsDirectedBy}
use Rattle.expr_meaning.specs.Meaning.{In, Relates}
use Rattle.expr_meaning.specs.Replacement.{IsRewritten}
use Rattle.network_algebra.specs.declared.network.Network.TheVariants.{Pairs}
use Rattle.network_algebra.proofs.Meanings.{pairs_for}
use Rattle.replace_rules.specs.declared.rules.LangGroup.{LangGroup}
use Rattle.replace_rules.specs.declared.rules.LangMap.{LangMap}
use Rattle.replace_rules.specs.declared.rules.LangContext.{LangContext}
use Rattle.replace_rules.specs.Rules.{ReplacesBy, AppliesBy}
use Rattle.replace_insertions.specs.Insertions.{InsertsBy, AsksBy}
use Rattle.replace_directed.specs.Directed.{IsMatch, ReplacesIn}
use Rattle.network_expr.specs.Rules.{AreMaps, AreContexts, AreGroups}
use Rattle.network_expr.proofs.RuleMeaning.{rules_mean, directed_means, insertion_means, insertion_rows}
use Rattle.network_expr.specs.Built.{IsMeant, MappingsAreBuiltOver, ContextsAreBuiltOver, GroupsAreBuiltOver}
use Rattle.network_expr.specs.Parts.{kinds, stands}
use Rattle.network_expr.specs.declared.parts.Part.{Part}
use Rattle.network_expr.proofs.Weights.{weight_mappings, weight_contexts, weight_groups}

-- the sides on which the contexts of a group are read
pub side_of_is : {A : Type 0} (g : Group A) → side_of g ≡ (out-Group A g).side
unfolding roll-Group denote.Hole.Carrier.roll
side_of_is {A} g = ap (λ (s : Group A). side_of s) (sym (roll-out-Group A g))

pub take_whole : {X : Type 0} (xs : List X) (n : ℕ) → length xs ≤ n → take n xs ≡ xs
take_whole [] zero all = refl
take_whole [] (suc n) all = refl
take_whole (x ∷ xs) zero all = absurd (omega arith)
take_whole (x ∷ xs) (suc n) all = ap (λ ys. x ∷ ys) (take_whole xs n (omega arith))

-- the second of two, where the first isn't so
pub else_second : (a b : Bool) → IsTrue (a || b) → a ≡ false → IsTrue b
else_second true b h is = let clash : true ≡ false = is in absurd (cc)
else_second false b h is = h

module _ (parts : List Part) (alphabet : List Sym) where
  -- what is asked of rules, where they weigh at most so much
  pub record MapsReady (maps : List (Mapping Atom)) (most : ℕ) : Type 0 where
    pub built : MappingsAreBuiltOver parts alphabet (mappings_of maps)
    pub fits : MappingsFit (kinds parts) (mappings_of maps)
    pub light : weight_mappings (mappings_of maps) ≤ most

  pub record ContextsReady (contexts : List (Context Atom)) (most : ℕ) : Type 0 where
    pub built : ContextsAreBuiltOver parts alphabet (contexts_of contexts)
    pub fits : ContextsFit (kinds parts) (contexts_of contexts)
    pub light : weight_contexts (contexts_of contexts) ≤ most

  pub record GroupsReady (groups : List (Group Atom)) (most : ℕ) : Type 0 where
    pub built : GroupsAreBuiltOver parts alphabet (groups_of groups)
    pub fits : GroupsFit (kinds parts) (groups_of groups)
    pub light : weight_groups (groups_of groups) ≤ most

  pub map_ready : (maps : List (Mapping Atom)) (most i : ℕ) (d : Mapping Atom) → i < length maps → MapsReady maps most → MapsReady (get_or maps i d ∷ []) most
  map_ready [] most i d within all = absurd (omega arith)
  map_ready (Plain c r ∷ maps) most zero d within all =
      let b = all.built in let f = all.fits in let light = all.light in
      record { built = (b.0, b.1, b.2, tt); fits = (f.0, f.1, f.2, f.3, tt); light = omega (arith, light) }
  map_ready (Markup c r a ∷ maps) most zero d within all =
      let b = all.built in let f = all.fits in let light = all.light in
      record { built = (b.0, b.1, b.2, b.3, tt); fits = (f.0, f.1, f.2, f.3, f.4, f.5, tt); light = omega (arith, light) }
  map_ready (Insert r ∷ maps) most zero d within all =
      let b = all.built in let f = all.fits in let light = all.light in
      record { built = (b.0, tt); fits = (f.0, f.1, tt); light = omega (arith, light) }
  map_ready (Insert r ∷ maps) most (suc i) d within all = let light = all.light in map_ready maps most i d (omega arith) (record { built = all.built.1; fits = all.fits.2; light = omega (arith, light) })
  map_ready (Plain c r ∷ maps) most (suc i) d within all = let light = all.light in map_ready maps most i d (omega arith) (record { built = all.built.3; fits = all.fits.4; light = omega (arith, light) })
  map_ready (Markup c r a ∷ maps) most (suc i) d within all = let light = all.light in map_ready maps most i d (omega arith) (record { built = all.built.4; fits = all.fits.6; light = omega (arith, light) })

  pub context_ready : (contexts : List (Context Atom)) (most i : ℕ) (d : Context Atom) → i < length contexts → ContextsReady contexts most → ContextsReady (get_or contexts i d ∷ []) most
  context_ready [] most i d within all = absurd (omega arith)
  context_ready (c ∷ contexts) most zero d within all =
      let b = all.built in let f = all.fits in let light = all.light in
      record { built = (b.0, b.1, tt); fits = (f.0, f.1, f.2, f.3, tt); light = omega (arith, light) }
  context_ready (c ∷ contexts) most (suc i) d within all = let light = all.light in context_ready contexts most i d (omega arith) (record { built = all.built.2; fits = all.fits.4; light = omega (arith, light) })

  pub group_ready : (groups : List (Group Atom)) (most i : ℕ) (d : Group Atom) → i < length groups → GroupsReady groups most → GroupsReady (get_or groups i d ∷ []) most
  group_ready [] most i d within all = absurd (omega arith)
  group_ready (g ∷ groups) most zero d within all =
      let b = all.built in let f = all.fits in let light = all.light in
      record { built = (b.0, b.1, tt); fits = (f.0, f.1, tt); light = omega (arith, light) }
  group_ready (g ∷ groups) most (suc i) d within all = let light = all.light in group_ready groups most i d (omega arith) (record { built = all.built.2; fits = all.fits.2; light = omega (arith, light) })

  -- the network of rules
  pub rules_meant : (optional : Bool) (groups : List (Group Atom)) (langs : List LangGroup) (m : Automaton Pair) → AreGroups (stands parts) alphabet (groups_of groups) langs
      → AreSame (IsRelated m) (IsRewritten alphabet (ReplacesBy langs) (AppliesBy langs) optional) → IsMeant parts alphabet (rules optional (groups_of groups)) (Pairs m)
  rules_meant optional groups langs m are related =
      let e = rules optional (groups_of groups) in
      pairs_for _ m (In (stands parts) alphabet e) (Relates (stands parts) alphabet e) refl
      (same_trans (IsRelated m) (IsRewritten alphabet (ReplacesBy langs) (AppliesBy langs) optional) (Relates (stands parts) alphabet e) related (rules_mean (stands parts) alphabet optional (groups_of groups) langs are))

  -- the network of a directed rule
  pub directed_meant : (way : Way) (maps : List (Mapping Atom)) (contexts : List (Context Atom)) (langs : List LangMap) (around : List LangContext) (m : Automaton Pair) → AreMaps (stands parts) alphabet (mappings_of maps) langs → AreContexts (stands parts) alphabet (contexts_of contexts) around
      → AreSame (IsRelated m) (IsDirectedBy (IsMatch langs around) alphabet (ReplacesIn langs around) way) → IsMeant parts alphabet (directed way (mappings_of maps) (contexts_of contexts)) (Pairs m)
  directed_meant way maps contexts langs around m are beside related =
      let e = directed way (mappings_of maps) (contexts_of contexts) in
      pairs_for _ m (In (stands parts) alphabet e) (Relates (stands parts) alphabet e) refl
      (same_trans (IsRelated m) (IsDirectedBy (IsMatch langs around) alphabet (ReplacesIn langs around) way) (Relates (stands parts) alphabet e) related
      (directed_means (stands parts) alphabet way (mappings_of maps) (contexts_of contexts) langs around are beside))

  -- the network of an insertion
  pub insertion_meant : (optional : Bool) (groups : List (Group Atom)) (langs : List LangGroup) (n : Automaton Pair) → IsTrue (is_insertion (groups_of groups)) → AreGroups (stands parts) alphabet (groups_of groups) langs
      → ((g : LangGroup) (m : LangMap) → langs ≡ g ∷ [] → g.maps.items ≡ m ∷ [] → AreSame (IsRelated n) (IsRewritten alphabet (InsertsBy m.result g.side g.contexts.items) (AsksBy g.side g.contexts.items) optional)) → IsMeant parts alphabet (rules optional (groups_of groups)) (Pairs n)
  insertion_meant optional groups langs n alone are related =
      let e = rules optional (groups_of groups) in
      let (g, m, one, mapping, letters) = insertion_rows (stands parts) alphabet (groups_of groups) langs alone are in
      pairs_for _ n (In (stands parts) alphabet e) (Relates (stands parts) alphabet e) refl
      (same_trans (IsRelated n) (IsRewritten alphabet (InsertsBy m.result g.side g.contexts.items) (AsksBy g.side g.contexts.items) optional) (Relates (stands parts) alphabet e) (related g m one mapping)
      (insertion_means (stands parts) alphabet optional (groups_of groups) g m alone (subst (λ (z : List LangGroup). AreGroups (stands parts) alphabet (groups_of groups) z) one are) mapping))
