use Rattle.std.proofs.Common.{map, ap, ◌∙◌}
use Rattle.regex_ast.specs.declared.expr.Atom.{Atom}
use Rattle.regex_ast.specs.declared.expr.Expr.TheViews.{out-RuleSet, out-Directed}
use Rattle.regex_ast.specs.Terms.{term, terms_of, links_of, contexts_of, steps_by, mappings_of, groups_of, ignore, concat, chain, only, rules, directed, steps}
use Rattle.regex_ast.proofs.Rows.{term-Concat, term-Chain, term-Ignore, term-Only, term-Steps}
use Rattle.expr_kinds.proofs.Sets.{term_rules, term_directed}
use Rattle.expr_leaves.proofs.Behind.{add_both_ok}
use Rattle.body_equality.specs.Rows.{row_of, link_row, context_row, step_row, mapping_row}
use Rattle.body_equality.proofs.Walking.{whole}
use Rattle.body_equality.proofs.walk.+walk.Goals as goal

pub add_expr-returns-in-Ignore : goal.add_expr-returns-in-Ignore
add_expr-returns-in-Ignore t c =
    let is = ap term c.in-Ignore.is ∙ term-Ignore c.in-Ignore.operands in
    let done = rw c.deref-in-Ignore.ensures.value at c.add_operands.ensures in
    whole c.args.row.now.items _ _ c.add_operands.result c.node_of.result (term c.args.expr.now) (ignore (terms_of (map term c.in-Ignore.operands.items))) c.in_ok-add_node.ensures c.node_of.ensures is done

pub add_expr-returns-in-Concat : goal.add_expr-returns-in-Concat
add_expr-returns-in-Concat t c =
    let is = ap term c.in-Concat.is ∙ term-Concat c.in-Concat.operands in
    let done = rw c.deref-in-Concat.ensures.value at c.add_operands-in-Concat.ensures in
    whole c.args.row.now.items _ _ c.add_operands-in-Concat.result c.node_of.result (term c.args.expr.now) (concat (terms_of (map term c.in-Concat.operands.items))) c.in_ok-add_node.ensures c.node_of.ensures is done

pub add_expr-returns-in_ok-add_expr-in-Chain : goal.add_expr-returns-in_ok-add_expr-in-Chain
add_expr-returns-in_ok-add_expr-in-Chain t c =
    let is = ap term c.in-Chain.is ∙ term-Chain c.in-Chain.first c.in-Chain.links in
    let first = rw c.deref-in-Chain.ensures at c.in_ok-add_expr-in-Chain.ensures in
    let more = rw c.deref-in-Chain-2.ensures.value at c.add_links.ensures in
    whole c.args.row.now.items _ _ c.add_links.result c.node_of.result (term c.args.expr.now) (chain (term c.in-Chain.first.value) (links_of c.in-Chain.links.items)) c.in_ok-add_node.ensures c.node_of.ensures is
    (add_both_ok _ _ _ c.add_links.result (row_of (term c.in-Chain.first.value)) (link_row (links_of c.in-Chain.links.items)) first more)

pub add_expr-returns-in_ok-add_expr-in-Only : goal.add_expr-returns-in_ok-add_expr-in-Only
add_expr-returns-in_ok-add_expr-in-Only t c =
    let is = ap term c.in-Only.is ∙ term-Only c.in-Only.centre c.in-Only.contexts in
    let first = rw c.deref-in-Only.ensures at c.in_ok-add_expr-in-Only.ensures in
    let more = rw c.deref-in-Only-2.ensures.value at c.add_contexts.ensures in
    whole c.args.row.now.items _ _ c.add_contexts.result c.node_of.result (term c.args.expr.now) (only (term c.in-Only.centre.value) (contexts_of c.in-Only.contexts.items)) c.in_ok-add_node.ensures c.node_of.ensures is
    (add_both_ok _ _ _ c.add_contexts.result (row_of (term c.in-Only.centre.value)) (context_row (contexts_of c.in-Only.contexts.items)) first more)

pub add_expr-returns-in-Rules : goal.add_expr-returns-in-Rules
add_expr-returns-in-Rules t c =
    let is = ap term c.in-Rules.is ∙ term_rules c.in-Rules.rules in
    let done = rw c.deref-in-Rules.ensures.value at c.add_groups.ensures in
    whole c.args.row.now.items _ _ c.add_groups.result c.node_of.result (term c.args.expr.now) (rules (out-RuleSet Atom c.in-Rules.rules).optional (groups_of (out-RuleSet Atom c.in-Rules.rules).groups.items)) c.in_ok-add_node.ensures c.node_of.ensures is done

pub add_expr-returns-in_ok-add_mappings-in-Directed : goal.add_expr-returns-in_ok-add_mappings-in-Directed
add_expr-returns-in_ok-add_mappings-in-Directed t c =
    let set = out-Directed Atom c.in-Directed.directed in
    let is = ap term c.in-Directed.is ∙ term_directed c.in-Directed.directed in
    let first = rw c.deref-in-Directed.ensures.value at c.in_ok-add_mappings-in-Directed.ensures in
    let more = rw c.deref-in-Directed-2.ensures.value at c.add_contexts-in-Directed.ensures in
    whole c.args.row.now.items _ _ c.add_contexts-in-Directed.result c.node_of.result (term c.args.expr.now) (directed set.way (mappings_of set.maps.items) (contexts_of set.contexts.items)) c.in_ok-add_node.ensures c.node_of.ensures is
    (add_both_ok _ _ _ c.add_contexts-in-Directed.result (mapping_row (mappings_of set.maps.items)) (context_row (contexts_of set.contexts.items)) first more)

pub add_expr-returns-in_ok-add_expr-in-Steps : goal.add_expr-returns-in_ok-add_expr-in-Steps
add_expr-returns-in_ok-add_expr-in-Steps t c =
    let is = ap term c.in-Steps.is ∙ term-Steps c.in-Steps.first c.in-Steps.steps in
    let first = rw c.deref-in-Steps.ensures at c.in_ok-add_expr-in-Steps.ensures in
    let more = rw c.deref-in-Steps-2.ensures.value at c.add_steps.ensures in
    whole c.args.row.now.items _ _ c.add_steps.result c.node_of.result (term c.args.expr.now) (steps (term c.in-Steps.first.value) (steps_by c.in-Steps.steps.items)) c.in_ok-add_node.ensures c.node_of.ensures is
    (add_both_ok _ _ _ c.add_steps.result (row_of (term c.in-Steps.first.value)) (step_row (steps_by c.in-Steps.steps.items)) first more)
