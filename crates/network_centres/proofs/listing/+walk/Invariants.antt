use Rattle.std.proofs.Common.{◌≡◌, ◌++◌, map, drop}
use Rattle.regex_ast.specs.Terms.{term, terms_of, links_of, contexts_of, steps_by, mappings_of, groups_of}
use Rattle.project_meaning.specs.Centres.{centres_in_each, centres_in_links, centres_in_contexts, centres_in_steps, centres_in_mappings, centres_in_groups}
use Rattle.network_centres.specs.Centres.{terms_seen}
use Rattle.network_centres.proofs.listing.+walk.Given as goal

-- what was found, and what is in the other items

abbrev pub invariant-add_contexts-contexts : goal.invariant-add_contexts-contexts
invariant-add_contexts-contexts l = terms_seen l.found.items ++ centres_in_contexts (contexts_of (drop l.context-index l.contexts)) ≡ terms_seen l.fn.found.items ++ centres_in_contexts (contexts_of l.contexts)

abbrev pub invariant-add_each-operands : goal.invariant-add_each-operands
invariant-add_each-operands l = terms_seen l.found.items ++ centres_in_each (terms_of (map term (drop l.operand-index l.operands))) ≡ terms_seen l.fn.found.items ++ centres_in_each (terms_of (map term l.operands))

abbrev pub invariant-add_groups-groups : goal.invariant-add_groups-groups
invariant-add_groups-groups l = terms_seen l.found.items ++ centres_in_groups (groups_of (drop l.group-index l.groups)) ≡ terms_seen l.fn.found.items ++ centres_in_groups (groups_of l.groups)

abbrev pub invariant-add_links-links : goal.invariant-add_links-links
invariant-add_links-links l = terms_seen l.found.items ++ centres_in_links (links_of (drop l.link-index l.links)) ≡ terms_seen l.fn.found.items ++ centres_in_links (links_of l.links)

abbrev pub invariant-add_mappings-maps : goal.invariant-add_mappings-maps
invariant-add_mappings-maps l = terms_seen l.found.items ++ centres_in_mappings (mappings_of (drop l.map-index l.maps)) ≡ terms_seen l.fn.found.items ++ centres_in_mappings (mappings_of l.maps)

abbrev pub invariant-add_steps-steps : goal.invariant-add_steps-steps
invariant-add_steps-steps l = terms_seen l.found.items ++ centres_in_steps (steps_by (drop l.step-index l.steps)) ≡ terms_seen l.fn.found.items ++ centres_in_steps (steps_by l.steps)
