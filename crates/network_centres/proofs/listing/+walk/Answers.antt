use Rattle.std.proofs.Common.{◌≡◌, ◌++◌, ◌∷◌, [], OnOk, append-nil, sym, ap, subst, ◌∙◌}
use Rattle.regex_ast.specs.declared.expr.Atom.{Atom}
use Rattle.regex_ast.specs.declared.expr.Expr.TheViews.{out-Directed}
use Rattle.regex_ast.specs.declared.expr.Group.{Group}
use Rattle.regex_ast.specs.Terms.{term, links_of, contexts_of, steps_by, mappings_of, groups_of, maps_of, contexts_in}
use Rattle.regex_ast.proofs.Rows.{term-Concat, term-Chain, term-Ignore, term-Only, term-Steps}
use Rattle.project_meaning.specs.Centres.{centres_in, centres_in_links, centres_in_contexts, centres_in_steps, centres_in_mappings, centres_in_groups}
use Rattle.network_centres.specs.Centres.{terms_seen}
use Rattle.expr_leaves.proofs.Behind.{add_both_ok}
use Rattle.expr_kinds.proofs.Sets.{term_rules, term_directed, maps_of_is, contexts_in_is}
use Rattle.network_centres.proofs.listing.+walk.Goals as goal

-- the centres of a group: those of its mappings, and those of its contexts
group_alone : (g : Group Atom) → centres_in_groups (groups_of (g ∷ [])) ≡ centres_in_mappings (mappings_of (maps_of g)) ++ centres_in_contexts (contexts_of (contexts_in g))
group_alone g = append-nil (centres_in_mappings (mappings_of (maps_of g)) ++ centres_in_contexts (contexts_of (contexts_in g)))

pub add_group-returns : goal.add_group-returns
add_group-returns t c =
    let maps = rw (c.deref.ensures.value, ← maps_of_is c.args.group.now) at c.in_ok-add_mappings.ensures in
    let contexts = rw (c.deref-2.ensures.value, ← contexts_in_is c.args.group.now) at c.add_contexts.ensures in
    rw group_alone
    (add_both_ok _ _ _ c.add_contexts.result (centres_in_mappings (mappings_of (maps_of c.args.group.now))) (centres_in_contexts (contexts_of (contexts_in c.args.group.now))) maps contexts)

pub add_centres-returns-in-Ignore : goal.add_centres-returns-in-Ignore
add_centres-returns-in-Ignore t c =
    let is = ap term c.in-Ignore.is ∙ term-Ignore c.in-Ignore.operands in
    let done = rw c.deref-in-Ignore.ensures.value at c.add_each.ensures in
    subst (λ e. OnOk c.add_each.result (terms_seen c.add_each.new.found.items ≡ terms_seen c.args.found.now.items ++ centres_in e)) (sym is) done

pub add_centres-returns-in-Concat : goal.add_centres-returns-in-Concat
add_centres-returns-in-Concat t c =
    let is = ap term c.in-Concat.is ∙ term-Concat c.in-Concat.operands in
    let done = rw c.deref-in-Concat.ensures.value at c.add_each-in-Concat.ensures in
    subst (λ e. OnOk c.add_each-in-Concat.result (terms_seen c.add_each-in-Concat.new.found.items ≡ terms_seen c.args.found.now.items ++ centres_in e)) (sym is) done

pub add_centres-returns-in_ok-add_centres-in-Chain : goal.add_centres-returns-in_ok-add_centres-in-Chain
add_centres-returns-in_ok-add_centres-in-Chain t c =
    let is = ap term c.in-Chain.is ∙ term-Chain c.in-Chain.first c.in-Chain.links in
    let first = rw c.deref-in-Chain.ensures at c.in_ok-add_centres-in-Chain.ensures in
    let more = rw c.deref-in-Chain-2.ensures.value at c.add_links.ensures in
    subst (λ e. OnOk c.add_links.result (terms_seen c.add_links.new.found.items ≡ terms_seen c.args.found.now.items ++ centres_in e)) (sym is)
    (add_both_ok _ _ _ c.add_links.result (centres_in (term c.in-Chain.first.value)) (centres_in_links (links_of c.in-Chain.links.items)) first more)

pub add_centres-returns-in_ok-add_centres-in-Only : goal.add_centres-returns-in_ok-add_centres-in-Only
add_centres-returns-in_ok-add_centres-in-Only t c =
    let is = ap term c.in-Only.is ∙ term-Only c.in-Only.centre c.in-Only.contexts in
    let first = rw c.deref-in-Only.ensures at c.in_ok-add_centres-in-Only.ensures in
    let more = rw c.deref-in-Only-2.ensures.value at c.add_contexts-in-Only.ensures in
    subst (λ e. OnOk c.add_contexts-in-Only.result (terms_seen c.add_contexts-in-Only.new.found.items ≡ terms_seen c.args.found.now.items ++ centres_in e)) (sym is)
    (add_both_ok _ _ _ c.add_contexts-in-Only.result (centres_in (term c.in-Only.centre.value)) (centres_in_contexts (contexts_of c.in-Only.contexts.items)) first more)

pub add_centres-returns-in-Rules : goal.add_centres-returns-in-Rules
add_centres-returns-in-Rules t c =
    let is = ap term c.in-Rules.is ∙ term_rules c.in-Rules.rules in
    let done = rw c.deref.ensures.value at c.add_groups.ensures in
    subst (λ e. OnOk c.add_groups.result (terms_seen c.add_groups.new.found.items ≡ terms_seen c.args.found.now.items ++ centres_in e)) (sym is) done

pub add_centres-returns-in_ok-add_mappings-in-Directed : goal.add_centres-returns-in_ok-add_mappings-in-Directed
add_centres-returns-in_ok-add_mappings-in-Directed t c =
    let rule = out-Directed Atom c.in-Directed.rule in
    let is = ap term c.in-Directed.is ∙ term_directed c.in-Directed.rule in
    let maps = rw c.deref-in-Directed.ensures.value at c.in_ok-add_mappings-in-Directed.ensures in
    let contexts = rw c.deref-in-Directed-2.ensures.value at c.add_contexts.ensures in
    subst (λ e. OnOk c.add_contexts.result (terms_seen c.add_contexts.new.found.items ≡ terms_seen c.args.found.now.items ++ centres_in e)) (sym is)
    (add_both_ok _ _ _ c.add_contexts.result (centres_in_mappings (mappings_of rule.maps.items)) (centres_in_contexts (contexts_of rule.contexts.items)) maps contexts)

pub add_centres-returns-in_ok-add_centres-in-Steps : goal.add_centres-returns-in_ok-add_centres-in-Steps
add_centres-returns-in_ok-add_centres-in-Steps t c =
    let is = ap term c.in-Steps.is ∙ term-Steps c.in-Steps.first c.in-Steps.steps in
    let first = rw c.deref-in-Steps.ensures at c.in_ok-add_centres-in-Steps.ensures in
    let more = rw c.deref-in-Steps-2.ensures.value at c.add_steps.ensures in
    subst (λ e. OnOk c.add_steps.result (terms_seen c.add_steps.new.found.items ≡ terms_seen c.args.found.now.items ++ centres_in e)) (sym is)
    (add_both_ok _ _ _ c.add_steps.result (centres_in (term c.in-Steps.first.value)) (centres_in_steps (steps_by c.in-Steps.steps.items)) first more)
