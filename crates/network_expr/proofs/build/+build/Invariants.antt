use Rattle.std.proofs.Common.{◌+◌, [], ◌∷◌, map, take}
use Rattle.fsa.specs.Language.{Accepts}
use Rattle.regex_ast.specs.Terms.{term, terms_of, links_of, contexts_of, steps_by, mappings_of, groups_of}
use Rattle.expr_meaning.specs.Meaning.{InIgnoring}
use Rattle.network_sets.proofs.Alike.{SameWords}
use Rattle.network_algebra.specs.Networks.{UsesOnly, all_letters, kind_of_network, WordsOf, PairsOf}
use Rattle.network_expr.specs.Parts.{stands}
use Rattle.network_expr.specs.Cascades.{IsCascade}
use Rattle.network_expr.proofs.Cascades.{IsCascaded}
use Rattle.network_expr.proofs.Weights.{weight, weight_each, weight_links, weight_contexts, weight_steps, weight_mappings, weight_groups, link_weight, step_weight}
use Rattle.network_expr.specs.Rules.{AreMaps, AreContexts, AreGroups}
use Rattle.network_expr.proofs.build.+build.Given as goal

abbrev pub decreases-network_of : goal.decreases-network_of
decreases-network_of l = weight (term l.expr.now)

abbrev pub decreases-words_of : goal.decreases-words_of
decreases-words_of l = weight (term l.expr.now) + 1

abbrev pub decreases-perhaps : goal.decreases-perhaps
decreases-perhaps l = weight (term l.inner.now) + 2

abbrev pub decreases-no_such_letter : goal.decreases-no_such_letter
decreases-no_such_letter l = weight (term l.inner.now) + 2

abbrev pub decreases-crossed : goal.decreases-crossed
decreases-crossed l = weight (term l.upper.now) + weight (term l.lower.now) + 2

abbrev pub decreases-ignored : goal.decreases-ignored
decreases-ignored l = weight_each (terms_of (map term l.operands.now)) + 2

abbrev pub decreases-in_ignoring : goal.decreases-in_ignoring
decreases-in_ignoring l = weight_each (terms_of (map term l.operands.now))

-- the operands so far are put in
abbrev pub invariant-in_ignoring-operands : goal.invariant-in_ignoring-operands
invariant-in_ignoring-operands l = record {
  letters : UsesOnly (all_letters l.alphabet) l.around;
  words : SameWords (Accepts l.around) (InIgnoring (stands l.parts) l.alphabet (Accepts l.fn.before) (terms_of (map term (take l.operand-index l.operands))));
}

abbrev pub decreases-concat_operands : goal.decreases-concat_operands
decreases-concat_operands l = weight_each (terms_of (map term l.operands.now))

abbrev pub decreases-in_chain : goal.decreases-in_chain
decreases-in_chain l = weight_links (links_of l.links.now) + 1

abbrev pub decreases-union_operands : goal.decreases-union_operands
decreases-union_operands l = weight_links (links_of l.links.now)

abbrev pub decreases-chosen : goal.decreases-chosen
decreases-chosen l = link_weight l.link.now

abbrev pub decreases-narrowed : goal.decreases-narrowed
decreases-narrowed l = weight_links (links_of l.links.now)

abbrev pub decreases-narrowed_by : goal.decreases-narrowed_by
decreases-narrowed_by l = link_weight l.link.now

abbrev pub decreases-in_steps : goal.decreases-in_steps
decreases-in_steps l = weight_steps (steps_by l.steps.now)

-- the row of the steps so far
abbrev pub invariant-in_steps-steps : goal.invariant-in_steps-steps
invariant-in_steps-steps l = record {
  letters : IsCascade l.alphabet l.cascade;
  meaning : IsCascaded l.parts l.alphabet (kind_of_network l.fn.before) (WordsOf l.fn.before) (PairsOf l.fn.before) (take l.step-index l.steps) l.cascade;
}

abbrev pub decreases-in_step : goal.decreases-in_step
decreases-in_step l = step_weight l.step.now

abbrev pub decreases-only_in : goal.decreases-only_in
decreases-only_in l = weight (term l.centre.now) + weight_contexts (contexts_of l.contexts.now) + 2

abbrev pub decreases-in_contexts : goal.decreases-in_contexts
decreases-in_contexts l = weight_contexts (contexts_of l.contexts.now)

abbrev pub decreases-replaced : goal.decreases-replaced
decreases-replaced l = weight_groups (groups_of l.groups.now) + 3

abbrev pub decreases-directed_rule : goal.decreases-directed_rule
decreases-directed_rule l = weight_mappings (mappings_of l.maps.now) + weight_contexts (contexts_of l.contexts.now) + 3

abbrev pub decreases-lang_maps : goal.decreases-lang_maps
decreases-lang_maps l = weight_mappings (mappings_of l.maps.now) + 2

abbrev pub decreases-lang_map : goal.decreases-lang_map
decreases-lang_map l = weight_mappings (mappings_of (l.map.now ∷ [])) + 1

abbrev pub decreases-part_language : goal.decreases-part_language
decreases-part_language l = weight (term l.expr.now) + 2

abbrev pub decreases-lang_contexts : goal.decreases-lang_contexts
decreases-lang_contexts l = weight_contexts (contexts_of l.contexts.now) + 2

-- the languages of the rules so far
abbrev pub invariant-replaced-groups : goal.invariant-replaced-groups
invariant-replaced-groups l = AreGroups (stands l.parts) l.alphabet (groups_of (take l.group-index l.groups)) l.langs.items

abbrev pub invariant-lang_maps-maps : goal.invariant-lang_maps-maps
invariant-lang_maps-maps l = AreMaps (stands l.parts) l.alphabet (mappings_of (take l.map-index l.maps)) l.langs.items

abbrev pub invariant-lang_contexts-contexts : goal.invariant-lang_contexts-contexts
invariant-lang_contexts-contexts l = AreContexts (stands l.parts) l.alphabet (contexts_of (take l.context-index l.contexts)) l.langs.items
