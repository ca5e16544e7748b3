use Rattle.std.proofs.Common.{◌+◌, map, take}
use Rattle.fsa.specs.Language.{Accepts}
use Rattle.regex_ast.specs.Terms.{term, terms_of, links_of}
use Rattle.expr_meaning.specs.Meaning.{InIgnoring}
use Rattle.network_algebra.specs.Networks.{UsesOnly, all_letters}
use Rattle.grammar_pairs.specs.Plain.{terms_in}
use Rattle.network_grammars.specs.PairMeaning.{stands}
use Rattle.network_grammars.proofs.PairRows.{HasWords}
use Rattle.network_grammars.proofs.Weights.{weight, weight_each, weight_links, link_weight}
use Rattle.network_grammars.proofs.words.+build.Given as goal

abbrev pub decreases-words_of : goal.decreases-words_of
decreases-words_of l = weight (term l.expr.now)

abbrev pub decreases-ignored : goal.decreases-ignored
decreases-ignored l = weight_each (terms_of (map term l.operands.now)) + 2

abbrev pub decreases-in_ignoring : goal.decreases-in_ignoring
decreases-in_ignoring l = weight_each (terms_of (map term l.operands.now)) + 1

-- the operands so far are put in
abbrev pub invariant-in_ignoring-operands : goal.invariant-in_ignoring-operands
invariant-in_ignoring-operands l = record {
  letters : UsesOnly (all_letters l.scope.numbers.items) l.around;
  words : HasWords l.around (InIgnoring (stands l.scope) l.scope.numbers.items (Accepts l.fn.before) (terms_in (take l.operand-index l.operands)));
}

abbrev pub decreases-concat_operands : goal.decreases-concat_operands
decreases-concat_operands l = weight_each (terms_of (map term l.operands.now))

abbrev pub decreases-in_chain : goal.decreases-in_chain
decreases-in_chain l = weight_links (links_of l.links.now) + 1

abbrev pub decreases-linked : goal.decreases-linked
decreases-linked l = link_weight l.link.now

abbrev pub decreases-union_operands : goal.decreases-union_operands
decreases-union_operands l = weight_links (links_of l.links.now)
