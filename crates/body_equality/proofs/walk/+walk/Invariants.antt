use Rattle.std.proofs.Common.{◌≡◌, ◌++◌, map, drop}
use Rattle.regex_ast.specs.Terms.{term, terms_of, links_of, contexts_of, steps_by, mappings_of, groups_of}
use Rattle.body_equality.specs.Rows.{operand_row, link_row, context_row, step_row, mapping_row, group_row}
use Rattle.body_equality.proofs.walk.+walk.Given as goal

-- what was added, and what is left to add

abbrev pub invariant-add_operands-operands : goal.invariant-add_operands-operands
invariant-add_operands-operands l = l.row.items ++ operand_row (terms_of (map term (drop l.operand-index l.operands))) ≡ l.fn.row.items ++ operand_row (terms_of (map term l.operands))

abbrev pub invariant-add_links-links : goal.invariant-add_links-links
invariant-add_links-links l = l.row.items ++ link_row (links_of (drop l.link-index l.links)) ≡ l.fn.row.items ++ link_row (links_of l.links)

abbrev pub invariant-add_contexts-contexts : goal.invariant-add_contexts-contexts
invariant-add_contexts-contexts l = l.row.items ++ context_row (contexts_of (drop l.context-index l.contexts)) ≡ l.fn.row.items ++ context_row (contexts_of l.contexts)

abbrev pub invariant-add_steps-steps : goal.invariant-add_steps-steps
invariant-add_steps-steps l = l.row.items ++ step_row (steps_by (drop l.step-index l.steps)) ≡ l.fn.row.items ++ step_row (steps_by l.steps)

abbrev pub invariant-add_mappings-maps : goal.invariant-add_mappings-maps
invariant-add_mappings-maps l = l.row.items ++ mapping_row (mappings_of (drop l.map-index l.maps)) ≡ l.fn.row.items ++ mapping_row (mappings_of l.maps)

abbrev pub invariant-add_groups-groups : goal.invariant-add_groups-groups
invariant-add_groups-groups l = l.row.items ++ group_row (groups_of (drop l.group-index l.groups)) ≡ l.fn.row.items ++ group_row (groups_of l.groups)
