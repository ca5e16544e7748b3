use Rattle.std.proofs.Common.{◌≡◌, map, drop}
use Rattle.regex_ast.specs.Terms.{term, terms_of, links_of, steps_by}
use Rattle.expr_leaves.specs.Alphabet.{one_uses_alphabet, link_uses_alphabet, step_uses_alphabet}
use Rattle.expr_leaves.proofs.alphabet.+walk.Given as goal

-- none so far does, so it turns on the other items

abbrev pub invariant-link_uses-links : goal.invariant-link_uses-links
invariant-link_uses-links g l = link_uses_alphabet (links_of (drop l.link-index l.links)) ≡ link_uses_alphabet (links_of l.links)

abbrev pub invariant-one_uses-operands : goal.invariant-one_uses-operands
invariant-one_uses-operands g l = one_uses_alphabet (terms_of (map term (drop l.operand-index l.operands))) ≡ one_uses_alphabet (terms_of (map term l.operands))

abbrev pub invariant-step_uses-steps : goal.invariant-step_uses-steps
invariant-step_uses-steps g l = step_uses_alphabet (steps_by (drop l.step-index l.steps)) ≡ step_uses_alphabet (steps_by l.steps)
