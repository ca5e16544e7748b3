use Rattle.std.proofs.Common.{◌≡◌, ◌++◌, map, drop}
use Rattle.regex_ast.specs.Terms.{term, terms_of, links_of, contexts_of, steps_by, mappings_of, groups_of}
use Rattle.expr_leaves.specs.Leaves.{seen, leaves_in_each, leaves_in_links, leaves_in_contexts, leaves_in_steps, leaves_in_mappings, leaves_in_groups}
use Rattle.expr_leaves.proofs.listing.+walk.Given as goal

-- what was found, and what is in the other items

abbrev pub invariant-add_contexts-contexts : goal.invariant-add_contexts-contexts
invariant-add_contexts-contexts g l = seen l.found.items ++ leaves_in_contexts (contexts_of (drop l.context-index l.contexts)) ≡ seen l.fn.found.items ++ leaves_in_contexts (contexts_of l.contexts)

abbrev pub invariant-add_each-operands : goal.invariant-add_each-operands
invariant-add_each-operands g l = seen l.found.items ++ leaves_in_each (terms_of (map term (drop l.operand-index l.operands))) ≡ seen l.fn.found.items ++ leaves_in_each (terms_of (map term l.operands))

abbrev pub invariant-add_groups-groups : goal.invariant-add_groups-groups
invariant-add_groups-groups g l = seen l.found.items ++ leaves_in_groups (groups_of (drop l.group-index l.groups)) ≡ seen l.fn.found.items ++ leaves_in_groups (groups_of l.groups)

abbrev pub invariant-add_links-links : goal.invariant-add_links-links
invariant-add_links-links g l = seen l.found.items ++ leaves_in_links (links_of (drop l.link-index l.links)) ≡ seen l.fn.found.items ++ leaves_in_links (links_of l.links)

abbrev pub invariant-add_mappings-maps : goal.invariant-add_mappings-maps
invariant-add_mappings-maps g l = seen l.found.items ++ leaves_in_mappings (mappings_of (drop l.map-index l.maps)) ≡ seen l.fn.found.items ++ leaves_in_mappings (mappings_of l.maps)

abbrev pub invariant-add_steps-steps : goal.invariant-add_steps-steps
invariant-add_steps-steps g l = seen l.found.items ++ leaves_in_steps (steps_by (drop l.step-index l.steps)) ≡ seen l.fn.found.items ++ leaves_in_steps (steps_by l.steps)
