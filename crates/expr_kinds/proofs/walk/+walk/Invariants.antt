use Rattle.std.proofs.Common.{◌≡◌, map, drop}
use Rattle.regex_ast.specs.Terms.{term, terms_of, links_of, contexts_of, steps_by, mappings_of, groups_of}
use Rattle.expr_kinds.specs.Atoms.{is_known_at, is_symbol, leaves_at, weights_at}
use Rattle.expr_kinds.specs.Forms.{form_in_contexts, form_in_each, form_in_groups, form_in_links, form_in_mappings, form_in_steps, nothing}
use Rattle.expr_kinds.proofs.walk.+walk.Given as goal

-- the other items are left

abbrev pub invariant-in_contexts-contexts : goal.invariant-in_contexts-contexts
invariant-in_contexts-contexts l = form_in_contexts (leaves_at l.names) (weights_at l.names) (is_known_at l.names) is_symbol l.form (contexts_of (drop l.context-index l.contexts)) ≡ form_in_contexts (leaves_at l.names) (weights_at l.names) (is_known_at l.names) is_symbol l.fn.before (contexts_of l.contexts)

abbrev pub invariant-in_each-operands : goal.invariant-in_each-operands
invariant-in_each-operands l = form_in_each (leaves_at l.names) (weights_at l.names) (is_known_at l.names) is_symbol l.form (terms_of (map term (drop l.operand-index l.operands))) ≡ form_in_each (leaves_at l.names) (weights_at l.names) (is_known_at l.names) is_symbol nothing (terms_of (map term l.operands))

abbrev pub invariant-in_groups-groups : goal.invariant-in_groups-groups
invariant-in_groups-groups l = form_in_groups (leaves_at l.names) (weights_at l.names) (is_known_at l.names) is_symbol l.form (groups_of (drop l.group-index l.groups)) ≡ form_in_groups (leaves_at l.names) (weights_at l.names) (is_known_at l.names) is_symbol nothing (groups_of l.groups)

abbrev pub invariant-in_links-links : goal.invariant-in_links-links
invariant-in_links-links l = form_in_links (leaves_at l.names) (weights_at l.names) (is_known_at l.names) is_symbol l.form (links_of (drop l.link-index l.links)) ≡ form_in_links (leaves_at l.names) (weights_at l.names) (is_known_at l.names) is_symbol l.fn.before (links_of l.links)

abbrev pub invariant-in_mappings-mappings : goal.invariant-in_mappings-mappings
invariant-in_mappings-mappings l = form_in_mappings (leaves_at l.names) (weights_at l.names) (is_known_at l.names) is_symbol l.form (mappings_of (drop l.mapping-index l.mappings)) ≡ form_in_mappings (leaves_at l.names) (weights_at l.names) (is_known_at l.names) is_symbol l.fn.before (mappings_of l.mappings)

abbrev pub invariant-in_steps-steps : goal.invariant-in_steps-steps
invariant-in_steps-steps l = form_in_steps (leaves_at l.names) (weights_at l.names) (is_known_at l.names) is_symbol l.form (steps_by (drop l.step-index l.steps)) ≡ form_in_steps (leaves_at l.names) (weights_at l.names) (is_known_at l.names) is_symbol l.fn.before (steps_by l.steps)
