use Rattle.std.proofs.Common.{◌≡◌, ◌||◌, ◌++◌, refl, ap, sym, ◌∙◌, arith, inl, inr, map, drop, nat_lt, length}
use Rattle.std.proofs.lemmas.List.{drop_all}
use Rattle.regex_ast.specs.Terms.{term, terms_of, contexts_of, steps_by, links_of, groups_of, mappings_of, only, rules, directed}
use Rattle.regex_ast.specs.declared.expr.Raw.{Raw}
use Rattle.regex_ast.specs.declared.expr.Expr.TheViews.{out-RuleSet, out-Directed}
use Rattle.regex_ast.proofs.Rows.{term-Concat, term-Chain, term-Ignore, term-Only, term-Steps}
use Rattle.regex_reader.specs.Found.{found_in}
use Rattle.regex_reader.specs.Tests.{at, nodes, each_of, each_context, each_step, each_link, each_group, each_mapping, context_count}
use Rattle.regex_ast.proofs.Sets.{term_rules, term_directed, maps_of_is, contexts_in_is}
use Rattle.regex_reader.proofs.Found.{finish, both, in_front, context_count_is, mapping_count_is, operand_term, step_term, parts_go_on, links_go_on, steps_go_on, contexts_go_on, groups_go_on, mappings_go_on}
use Rattle.regex_reader.proofs.findings.+walk.Goals as goal

pub find_in_contexts-contexts-preserved : goal.find_in_contexts-contexts-preserved
find_in_contexts-contexts-preserved t c =
    contexts_go_on c.args.contexts.now c.contexts.context-index c.context-item.result c.contexts.found _ _ _ _ (omega arith) c.context-item.is c.or-found.ensures c.or-both.ensures c.find_in_expression.ensures c.find_in_expression-in-contexts.ensures c.contexts.invariant

pub find_in_contexts-returns : goal.find_in_contexts-returns
find_in_contexts-returns t c = finish _ _ (each_context (contexts_of (drop c.contexts.context-index c.args.contexts.now))) (ap (λ z. each_context (contexts_of z)) (drop_all c.contexts.context-index c.args.contexts.now (omega arith))) c.contexts.invariant

pub find_in_each-operands-preserved : goal.find_in_each-operands-preserved
find_in_each-operands-preserved t c =
    parts_go_on c.args.inside c.args.operands.now c.operands.operand-index c.operand-item.result c.operands.found _ _ (omega arith) c.operand-item.is c.or-found.ensures c.find_in_expression.ensures c.operands.invariant

pub find_in_each-returns : goal.find_in_each-returns
find_in_each-returns t c = finish _ _ (each_of c.args.inside (terms_of (map term (drop c.operands.operand-index c.args.operands.now)))) (ap (λ z. each_of c.args.inside (terms_of (map term z))) (drop_all c.operands.operand-index c.args.operands.now (omega arith))) c.operands.invariant

pub find_in_expression-returns-in-Ignore : goal.find_in_expression-returns-in-Ignore
find_in_expression-returns-in-Ignore t c =
    let is = ap term c.in-Ignore.is ∙ term-Ignore c.in-Ignore.operands in
    let done = rw c.deref-in-Ignore.ensures.value at c.find_in_each.ensures in
    done ∙ ap (λ e. found_in (nodes c.args.inside e)) (sym is)

pub find_in_expression-returns-in-Concat : goal.find_in_expression-returns-in-Concat
find_in_expression-returns-in-Concat t c =
    let is = ap term c.in-Concat.is ∙ term-Concat c.in-Concat.operands in
    let done = rw c.deref-in-Concat.ensures.value at c.find_in_each-in-Concat.ensures in
    done ∙ ap (λ e. found_in (nodes c.args.inside e)) (sym is)

pub find_in_expression-returns-in-Chain : goal.find_in_expression-returns-in-Chain
find_in_expression-returns-in-Chain t c =
    let is = ap term c.in-Chain.is ∙ term-Chain c.in-Chain.first c.in-Chain.links in
    let first = rw c.deref-in-Chain.ensures at c.find_in_expression-in-Chain.ensures in
    let more = rw c.deref-in-Chain-2.ensures.value at c.find_in_links.ensures in
    both _ _ _ (nodes c.args.inside (term c.in-Chain.first.value)) (each_link c.args.inside (links_of c.in-Chain.links.items)) c.or-in-Chain.ensures first more ∙ ap (λ e. found_in (nodes c.args.inside e)) (sym is)

pub find_in_expression-returns-in-Only : goal.find_in_expression-returns-in-Only
find_in_expression-returns-in-Only t c =
    let is = ap term c.in-Only.is ∙ term-Only c.in-Only.centre c.in-Only.contexts in
    let first = rw c.deref-in-Only.ensures at c.find_in_expression-in-Only.ensures in
    let more = rw c.deref-in-Only-2.ensures.value at c.find_in_contexts.ensures in
    let long : length c.in-Only.contexts.items ≡ c.len.result = omega (arith, c.in-Only.contexts.ok.0, c.len.ensures) in
    let count = ap (nat_lt 64) (context_count_is c.in-Only.contexts.items ∙ long) in
    let centre = nodes c.args.inside (term c.in-Only.centre.value) in
    let around = each_context (contexts_of c.in-Only.contexts.items) in
    in_front (at c.args.inside (only (term c.in-Only.centre.value) (contexts_of c.in-Only.contexts.items))) _ _ _ _ (centre ++ around) refl refl count c.or-in-Only-2.ensures c.of_size.ensures (both _ _ _ centre around c.or-in-Only.ensures first more)
    ∙ ap (λ e. found_in (nodes c.args.inside e)) (sym is)

pub find_in_expression-returns-in-Rules : goal.find_in_expression-returns-in-Rules
find_in_expression-returns-in-Rules t c =
    let is = ap term c.in-Rules.is ∙ term_rules c.in-Rules.rules in
    let large = rw c.deref-in-Rules.ensures.value at c.are_large.ensures in
    let more = rw c.deref-in-Rules-2.ensures.value at c.find_in_groups.ensures in
    in_front (at c.args.inside (rules (out-RuleSet Raw c.in-Rules.rules).optional (groups_of (out-RuleSet Raw c.in-Rules.rules).groups.items))) _ _ _ _ (each_group c.args.inside (groups_of (out-RuleSet Raw c.in-Rules.rules).groups.items)) refl refl (sym large) c.or-in-Rules.ensures c.of_size-in-Rules.ensures more ∙ ap (λ e. found_in (nodes c.args.inside e)) (sym is)

pub find_in_expression-returns-in-Directed : goal.find_in_expression-returns-in-Directed
find_in_expression-returns-in-Directed t c =
    let is = ap term c.in-Directed.is ∙ term_directed c.in-Directed.rule in
    let rule = out-Directed Raw c.in-Directed.rule in
    let maps = rw c.deref-in-Directed.ensures.value at c.find_in_mappings.ensures in
    let around = rw c.deref-in-Directed-2.ensures.value at c.find_in_contexts-in-Directed.ensures in
    let maps_long : length rule.maps.items ≡ c.len-in-Directed.result = omega (arith, rule.maps.ok.0, c.len-in-Directed.ensures) in
    let contexts_long : length rule.contexts.items ≡ c.len-in-Directed-2.result = omega (arith, rule.contexts.ok.0, c.len-in-Directed-2.ensures) in
    let large = ap (λ n. nat_lt 64 n || nat_lt 64 (context_count (contexts_of rule.contexts.items))) (mapping_count_is rule.maps.items ∙ maps_long) ∙ ap (λ n. nat_lt 64 c.len-in-Directed.result || nat_lt 64 n) (context_count_is rule.contexts.items ∙ contexts_long) in
    let maps_nodes = each_mapping c.args.inside (mappings_of rule.maps.items) in
    let context_nodes = each_context (contexts_of rule.contexts.items) in
    in_front (at c.args.inside (directed rule.way (mappings_of rule.maps.items) (contexts_of rule.contexts.items))) _ _ _ _ (maps_nodes ++ context_nodes) refl refl (large ∙ sym c.is_large.ensures) c.or-in-Directed-2.ensures c.of_size-in-Directed.ensures (both _ _ _ maps_nodes context_nodes c.or-in-Directed.ensures maps around)
    ∙ ap (λ e. found_in (nodes c.args.inside e)) (sym is)

pub find_in_expression-returns-in-Steps : goal.find_in_expression-returns-in-Steps
find_in_expression-returns-in-Steps t c =
    let is = ap term c.in-Steps.is ∙ term-Steps c.in-Steps.first c.in-Steps.steps in
    let first = rw c.deref-in-Steps.ensures at c.find_in_expression-in-Steps.ensures in
    let more = rw c.deref-in-Steps-2.ensures.value at c.find_in_steps.ensures in
    both _ _ _ (nodes c.args.inside (term c.in-Steps.first.value)) (each_step c.args.inside (steps_by c.in-Steps.steps.items)) c.or-in-Steps.ensures first more ∙ ap (λ e. found_in (nodes c.args.inside e)) (sym is)

pub find_in_groups-groups-preserved : goal.find_in_groups-groups-preserved
find_in_groups-groups-preserved t c =
    let maps = rw (c.deref.ensures.value, ← maps_of_is c.group-item.result) at c.find_in_mappings.ensures in
    let contexts = rw (c.deref-in-groups.ensures.value, ← contexts_in_is c.group-item.result) at c.find_in_contexts.ensures in
    groups_go_on c.args.inside c.args.groups.now c.groups.group-index c.group-item.result c.groups.found _ _ _ _ (omega arith) c.group-item.is c.or-found.ensures c.or.ensures maps contexts c.groups.invariant

pub find_in_groups-returns : goal.find_in_groups-returns
find_in_groups-returns t c = finish _ _ (each_group c.args.inside (groups_of (drop c.groups.group-index c.args.groups.now))) (ap (λ z. each_group c.args.inside (groups_of z)) (drop_all c.groups.group-index c.args.groups.now (omega arith))) c.groups.invariant

pub find_in_links-links-preserved : goal.find_in_links-links-preserved
find_in_links-links-preserved t c =
    let is : operand_term c.link-item.result ≡ term c.in-Or.operand = elim c.in-Or.is [ inl e ↦ ap operand_term e | inr f ↦ elim f [ inl e ↦ ap operand_term e | inr e ↦ ap operand_term e ] ] in
    links_go_on c.args.inside c.args.links.now c.links.link-index c.link-item.result (term c.in-Or.operand) c.links.found _ _ (omega arith) c.link-item.is is c.or-found.ensures c.find_in_expression.ensures c.links.invariant

pub find_in_links-returns : goal.find_in_links-returns
find_in_links-returns t c = finish _ _ (each_link c.args.inside (links_of (drop c.links.link-index c.args.links.now))) (ap (λ z. each_link c.args.inside (links_of z)) (drop_all c.links.link-index c.args.links.now (omega arith))) c.links.invariant

pub find_in_mappings-mappings-preserved : goal.find_in_mappings-mappings-preserved
find_in_mappings-mappings-preserved t c =
    mappings_go_on c.args.inside c.args.mappings.now c.mappings.mapping-index c.mapping-item.result c.mappings.found _ _ (omega arith) c.mapping-item.is c.or-found.ensures c.find_in_mapping.ensures c.mappings.invariant

pub find_in_mappings-returns : goal.find_in_mappings-returns
find_in_mappings-returns t c = finish _ _ (each_mapping c.args.inside (mappings_of (drop c.mappings.mapping-index c.args.mappings.now))) (ap (λ z. each_mapping c.args.inside (mappings_of z)) (drop_all c.mappings.mapping-index c.args.mappings.now (omega arith))) c.mappings.invariant

pub find_in_steps-steps-preserved : goal.find_in_steps-steps-preserved
find_in_steps-steps-preserved t c =
    let is : step_term c.step-item.result ≡ term c.in-CrossWith.operand = elim c.in-CrossWith.is [ inl e ↦ ap step_term e | inr e ↦ ap step_term e ] in
    steps_go_on c.args.inside c.args.steps.now c.steps.step-index c.step-item.result (term c.in-CrossWith.operand) c.steps.found _ _ (omega arith) c.step-item.is is c.or-found.ensures c.find_in_expression.ensures c.steps.invariant

pub find_in_steps-returns : goal.find_in_steps-returns
find_in_steps-returns t c = finish _ _ (each_step c.args.inside (steps_by (drop c.steps.step-index c.args.steps.now))) (ap (λ z. each_step c.args.inside (steps_by z)) (drop_all c.steps.step-index c.args.steps.now (omega arith))) c.steps.invariant
