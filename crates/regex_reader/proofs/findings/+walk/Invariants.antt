use Rattle.std.proofs.Common.{◌≡◌, map, drop}
use Rattle.regex_ast.specs.Terms.{term, terms_of, links_of, contexts_of, steps_by, mappings_of, groups_of}
use Rattle.regex_reader.specs.Found.{found_in, either}
use Rattle.regex_reader.specs.Tests.{each_of, each_link, each_context, each_step, each_mapping, each_group}
use Rattle.regex_reader.proofs.findings.+walk.Given as goal

-- what was found with what is in the other items

abbrev pub invariant-find_in_contexts-contexts : goal.invariant-find_in_contexts-contexts
invariant-find_in_contexts-contexts l = either l.found (found_in (each_context (contexts_of (drop l.context-index l.contexts)))) ≡ found_in (each_context (contexts_of l.contexts))

abbrev pub invariant-find_in_each-operands : goal.invariant-find_in_each-operands
invariant-find_in_each-operands l = either l.found (found_in (each_of l.inside (terms_of (map term (drop l.operand-index l.operands))))) ≡ found_in (each_of l.inside (terms_of (map term l.operands)))

abbrev pub invariant-find_in_groups-groups : goal.invariant-find_in_groups-groups
invariant-find_in_groups-groups l = either l.found (found_in (each_group l.inside (groups_of (drop l.group-index l.groups)))) ≡ found_in (each_group l.inside (groups_of l.groups))

abbrev pub invariant-find_in_links-links : goal.invariant-find_in_links-links
invariant-find_in_links-links l = either l.found (found_in (each_link l.inside (links_of (drop l.link-index l.links)))) ≡ found_in (each_link l.inside (links_of l.links))

abbrev pub invariant-find_in_mappings-mappings : goal.invariant-find_in_mappings-mappings
invariant-find_in_mappings-mappings l = either l.found (found_in (each_mapping l.inside (mappings_of (drop l.mapping-index l.mappings)))) ≡ found_in (each_mapping l.inside (mappings_of l.mappings))

abbrev pub invariant-find_in_steps-steps : goal.invariant-find_in_steps-steps
invariant-find_in_steps-steps l = either l.found (found_in (each_step l.inside (steps_by (drop l.step-index l.steps)))) ≡ found_in (each_step l.inside (steps_by l.steps))
