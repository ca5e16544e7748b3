use Rattle.std.proofs.Common.{◌≡◌, map, drop}
use Rattle.regex_ast.specs.Terms.{term, terms_of, links_of, contexts_of, steps_by, mappings_of, groups_of}
use Rattle.expr_leaves.specs.Mapped.{mapped_each, mapped_links, mapped_contexts, mapped_steps, mapped_mappings, mapped_groups}
use Rattle.expr_leaves.proofs.Replaced.{link_before, step_before, context_before, mapping_before, group_before}
use Rattle.expr_leaves.proofs.Rowed.{onto, expr_before}
use Rattle.expr_leaves.proofs.mapping.Walk.+walk.Given as goal

-- what was made, and what is left to make

abbrev pub invariant-each-operands : goal.invariant-each-operands
invariant-each-operands g l = onto expr_before l.found.items (mapped_each (g.M.LeafMap.image l.self.images.now) (terms_of (map term (drop l.operand-index l.operands)))) ≡ mapped_each (g.M.LeafMap.image l.self.images.now) (terms_of (map term l.operands))

abbrev pub invariant-links-links : goal.invariant-links-links
invariant-links-links g l = onto link_before l.found.items (mapped_links (g.M.LeafMap.image l.self.images.now) (links_of (drop l.link-index l.links))) ≡ mapped_links (g.M.LeafMap.image l.self.images.now) (links_of l.links)

abbrev pub invariant-steps-steps : goal.invariant-steps-steps
invariant-steps-steps g l = onto step_before l.found.items (mapped_steps (g.M.LeafMap.image l.self.images.now) (steps_by (drop l.step-index l.steps))) ≡ mapped_steps (g.M.LeafMap.image l.self.images.now) (steps_by l.steps)

abbrev pub invariant-contexts-contexts : goal.invariant-contexts-contexts
invariant-contexts-contexts g l = onto context_before l.found.items (mapped_contexts (g.M.LeafMap.image l.self.images.now) (contexts_of (drop l.context-index l.contexts))) ≡ mapped_contexts (g.M.LeafMap.image l.self.images.now) (contexts_of l.contexts)

abbrev pub invariant-groups-groups : goal.invariant-groups-groups
invariant-groups-groups g l = onto group_before l.found.items (mapped_groups (g.M.LeafMap.image l.self.images.now) (groups_of (drop l.group-index l.groups))) ≡ mapped_groups (g.M.LeafMap.image l.self.images.now) (groups_of l.groups)

abbrev pub invariant-mappings-mappings : goal.invariant-mappings-mappings
invariant-mappings-mappings g l = onto mapping_before l.found.items (mapped_mappings (g.M.LeafMap.image l.self.images.now) (mappings_of (drop l.mapping-index l.mappings))) ≡ mapped_mappings (g.M.LeafMap.image l.self.images.now) (mappings_of l.mappings)
