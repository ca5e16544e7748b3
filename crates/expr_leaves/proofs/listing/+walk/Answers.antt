use Rattle.std.proofs.Common.{◌≡◌, ◌++◌, OnOk, sym, ap, subst, ◌∙◌}
use Rattle.regex_ast.specs.Terms.{term, links_of, contexts_of, steps_by, mappings_of, maps_of, contexts_in}
use Rattle.regex_ast.specs.declared.expr.Expr.TheViews.{out-Directed}
use Rattle.regex_ast.proofs.Rows.{term-Concat, term-Chain, term-Ignore, term-Only, term-Steps}
use Rattle.expr_leaves.specs.Leaves.{leaves_in}
use Rattle.expr_leaves.specs.Leaves.{seen, leaves_in_links, leaves_in_contexts, leaves_in_steps, leaves_in_mappings}
use Rattle.expr_leaves.proofs.Behind.{add_both_ok, flat_map-alone}
use Rattle.expr_leaves.proofs.LeafLists.{group_alone}
use Rattle.expr_leaves.proofs.Sets.{term_rules, term_directed, maps_of_is, contexts_in_is}
use Rattle.expr_leaves.proofs.listing.+walk.Goals as goal

pub add_group-returns : goal.add_group-returns
add_group-returns g t c =
    let maps = rw (c.deref.ensures.value, ← maps_of_is c.args.group.now) at c.in_ok-add_mappings.ensures in
    let contexts = rw (c.deref-2.ensures.value, ← contexts_in_is c.args.group.now) at c.add_contexts.ensures in
    rw group_alone
    (add_both_ok _ _ _ c.add_contexts.result (leaves_in_mappings (mappings_of (maps_of c.args.group.now))) (leaves_in_contexts (contexts_of (contexts_in c.args.group.now))) maps contexts)

pub add_leaves-returns-in-Letters : goal.add_leaves-returns-in-Letters
add_leaves-returns-in-Letters g t c =
    let done = rw c.deref.ensures.value at c.add_all.ensures in
    subst (λ e. OnOk c.add_all.result (seen c.add_all.new.found.items ≡ seen c.args.found.now.items ++ leaves_in (term e))) (sym c.in-Letters.is) (rw (flat_map-alone c.in-Letters.leaves.items) done)

pub add_leaves-returns-in-Ignore : goal.add_leaves-returns-in-Ignore
add_leaves-returns-in-Ignore g t c =
    let is = ap term c.in-Ignore.is ∙ term-Ignore c.in-Ignore.operands in
    let done = rw c.deref-in-Ignore.ensures.value at c.add_each.ensures in
    subst (λ e. OnOk c.add_each.result (seen c.add_each.new.found.items ≡ seen c.args.found.now.items ++ leaves_in e)) (sym is) done

pub add_leaves-returns-in-Concat : goal.add_leaves-returns-in-Concat
add_leaves-returns-in-Concat g t c =
    let is = ap term c.in-Concat.is ∙ term-Concat c.in-Concat.operands in
    let done = rw c.deref-in-Concat.ensures.value at c.add_each-in-Concat.ensures in
    subst (λ e. OnOk c.add_each-in-Concat.result (seen c.add_each-in-Concat.new.found.items ≡ seen c.args.found.now.items ++ leaves_in e)) (sym is) done

pub add_leaves-returns-in_ok-add_leaves-in-Chain : goal.add_leaves-returns-in_ok-add_leaves-in-Chain
add_leaves-returns-in_ok-add_leaves-in-Chain g t c =
    let is = ap term c.in-Chain.is ∙ term-Chain c.in-Chain.first c.in-Chain.links in
    let first = rw c.deref-in-Chain.ensures at c.in_ok-add_leaves-in-Chain.ensures in
    let more = rw c.deref-in-Chain-2.ensures.value at c.add_links.ensures in
    subst (λ e. OnOk c.add_links.result (seen c.add_links.new.found.items ≡ seen c.args.found.now.items ++ leaves_in e)) (sym is)
    (add_both_ok _ _ _ c.add_links.result (leaves_in (term c.in-Chain.first.value)) (leaves_in_links (links_of c.in-Chain.links.items)) first more)

pub add_leaves-returns-in_ok-add_leaves-in-Only : goal.add_leaves-returns-in_ok-add_leaves-in-Only
add_leaves-returns-in_ok-add_leaves-in-Only g t c =
    let is = ap term c.in-Only.is ∙ term-Only c.in-Only.centre c.in-Only.contexts in
    let first = rw c.deref-in-Only.ensures at c.in_ok-add_leaves-in-Only.ensures in
    let more = rw c.deref-in-Only-2.ensures.value at c.add_contexts.ensures in
    subst (λ e. OnOk c.add_contexts.result (seen c.add_contexts.new.found.items ≡ seen c.args.found.now.items ++ leaves_in e)) (sym is)
    (add_both_ok _ _ _ c.add_contexts.result (leaves_in (term c.in-Only.centre.value)) (leaves_in_contexts (contexts_of c.in-Only.contexts.items)) first more)

pub add_leaves-returns-in-Rules : goal.add_leaves-returns-in-Rules
add_leaves-returns-in-Rules g t c =
    let is = ap term c.in-Rules.is ∙ term_rules c.in-Rules.rules in
    let done = rw c.deref-in-Rules.ensures.value at c.add_groups.ensures in
    subst (λ e. OnOk c.add_groups.result (seen c.add_groups.new.found.items ≡ seen c.args.found.now.items ++ leaves_in e)) (sym is) done

pub add_leaves-returns-in_ok-add_mappings-in-Directed : goal.add_leaves-returns-in_ok-add_mappings-in-Directed
add_leaves-returns-in_ok-add_mappings-in-Directed g t c =
    let rule = out-Directed _ c.in-Directed.rule in
    let is = ap term c.in-Directed.is ∙ term_directed c.in-Directed.rule in
    let maps = rw c.deref-in-Directed.ensures.value at c.in_ok-add_mappings-in-Directed.ensures in
    let contexts = rw c.deref-in-Directed-2.ensures.value at c.add_contexts-in-Directed.ensures in
    subst (λ e. OnOk c.add_contexts-in-Directed.result (seen c.add_contexts-in-Directed.new.found.items ≡ seen c.args.found.now.items ++ leaves_in e)) (sym is)
    (add_both_ok _ _ _ c.add_contexts-in-Directed.result (leaves_in_mappings (mappings_of rule.maps.items)) (leaves_in_contexts (contexts_of rule.contexts.items)) maps contexts)

pub add_leaves-returns-in_ok-add_leaves-in-Steps : goal.add_leaves-returns-in_ok-add_leaves-in-Steps
add_leaves-returns-in_ok-add_leaves-in-Steps g t c =
    let is = ap term c.in-Steps.is ∙ term-Steps c.in-Steps.first c.in-Steps.steps in
    let first = rw c.deref-in-Steps.ensures at c.in_ok-add_leaves-in-Steps.ensures in
    let more = rw c.deref-in-Steps-2.ensures.value at c.add_steps.ensures in
    subst (λ e. OnOk c.add_steps.result (seen c.add_steps.new.found.items ≡ seen c.args.found.now.items ++ leaves_in e)) (sym is)
    (add_both_ok _ _ _ c.add_steps.result (leaves_in (term c.in-Steps.first.value)) (leaves_in_steps (steps_by c.in-Steps.steps.items)) first more)
