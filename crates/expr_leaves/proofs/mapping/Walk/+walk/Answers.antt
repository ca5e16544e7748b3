use Rattle.std.proofs.Common.{sym, ap, ◌∙◌, arith}
use Rattle.regex_ast.specs.Terms.{term, links_of, contexts_of, mappings_of, steps_by, ignore, concat, chain, only, rules, directed, steps}
use Rattle.regex_ast.specs.declared.expr.Expr.TheViews.{out-RuleSet, out-Directed, size_is-Group}
use Rattle.regex_ast.proofs.Rows.{term-Ignore, term-Concat, term-Chain, term-Only, term-Steps}
use Rattle.expr_leaves.specs.Mapped.{mapped, mapped_mappings}
use Rattle.expr_leaves.proofs.Rowed.{each_more, each_ended, links_more, links_ended, steps_more, steps_ended, contexts_more, contexts_ended, mappings_more, mappings_ended, groups_more, groups_ended, is_or, is_and, is_less, is_cross_with, is_then, is_between, is_plain, is_markup, is_insert}
use Rattle.expr_leaves.proofs.MappedSets.{contexts_in_is, group_made, maps_of_is, side_of_is, size_in, contexts_smaller, term_rules, term_directed}
use Rattle.expr_leaves.proofs.mapping.Walk.+walk.Goals as goal
use Rattle.expr_leaves.proofs.mapping.Walk.+walk.Goals.{links-in-Or+in_ok-leaves-in-Or+in_ok-push-in-Or, links-in-And+in_ok-leaves-in-And+in_ok-push-in-And, links-in-Less+in_ok-leaves-in-Less+in_ok-push-in-Less, steps-in-CrossWith+in_ok-leaves-in-CrossWith+in_ok-push-in-CrossWith, steps-in-Then+in_ok-leaves-in-Then+in_ok-push-in-Then, mappings-in-Plain+in_ok-leaves-in-Plain+in_ok-leaves-in-Plain-2+in_ok-push-in-Plain, mappings-in-Markup+in_ok-leaves-in-Markup+in_ok-leaves-in-Markup-2+in_ok-leaves-in-Markup-3+in_ok-push-in-Markup, mappings-in-Insert+in_ok-leaves-in-Insert+in_ok-push-in-Insert}

pub each-operands-preserved : goal.each-operands-preserved
each-operands-preserved g t c = each_more (g.M.LeafMap.image c.args.self.now.images.now) c.args.operands.now c.operands.operand-index c.operand-item.result c.operands.found.items c.push.new.self.items c.in_ok-leaves.field-0 (omega arith) c.operand-item.is c.in_ok-push.ensures.items c.in_ok-leaves.ensures c.operands.invariant

pub each-returns : goal.each-returns
each-returns g t c = each_ended (g.M.LeafMap.image c.args.self.now.images.now) c.args.operands.now c.operands.operand-index c.operands.found.items (omega arith) c.operands.invariant

pub links-links-preserved : goal.links-links-preserved
links-links-preserved g t c =
    elim c.match-link.branch [
      | links-in-Or+in_ok-leaves-in-Or+in_ok-push-in-Or w ↦
          rw w.found-is (links_more (g.M.LeafMap.image c.args.self.now.images.now) c.args.links.now c.links.link-index c.link-item.result c.links.found.items w.push.new.self.items _ (omega arith) c.link-item.is w.in_ok-push-in-Or.ensures.items
          (is_or (g.M.LeafMap.image c.args.self.now.images.now) c.link-item.result w.in-Or.operand w.in_ok-leaves-in-Or.field-0 w.in-Or.is w.in_ok-leaves-in-Or.ensures) c.links.invariant)
      | links-in-And+in_ok-leaves-in-And+in_ok-push-in-And w ↦
          rw w.found-is (links_more (g.M.LeafMap.image c.args.self.now.images.now) c.args.links.now c.links.link-index c.link-item.result c.links.found.items w.push-in-And.new.self.items _ (omega arith) c.link-item.is w.in_ok-push-in-And.ensures.items
          (is_and (g.M.LeafMap.image c.args.self.now.images.now) c.link-item.result w.in-And.operand w.in_ok-leaves-in-And.field-0 w.in-And.is w.in_ok-leaves-in-And.ensures) c.links.invariant)
      | links-in-Less+in_ok-leaves-in-Less+in_ok-push-in-Less w ↦
          rw w.found-is (links_more (g.M.LeafMap.image c.args.self.now.images.now) c.args.links.now c.links.link-index c.link-item.result c.links.found.items w.push-in-Less.new.self.items _ (omega arith) c.link-item.is w.in_ok-push-in-Less.ensures.items
          (is_less (g.M.LeafMap.image c.args.self.now.images.now) c.link-item.result w.in-Less.operand w.in_ok-leaves-in-Less.field-0 w.in-Less.is w.in_ok-leaves-in-Less.ensures) c.links.invariant)
    ]

pub links-returns : goal.links-returns
links-returns g t c = links_ended (g.M.LeafMap.image c.args.self.now.images.now) c.args.links.now c.links.link-index c.links.found.items (omega arith) c.links.invariant

pub steps-steps-preserved : goal.steps-steps-preserved
steps-steps-preserved g t c =
    elim c.match-step.branch [
      | steps-in-CrossWith+in_ok-leaves-in-CrossWith+in_ok-push-in-CrossWith w ↦
          rw w.found-is (steps_more (g.M.LeafMap.image c.args.self.now.images.now) c.args.steps.now c.steps.step-index c.step-item.result c.steps.found.items w.push.new.self.items _ (omega arith) c.step-item.is w.in_ok-push-in-CrossWith.ensures.items
          (is_cross_with (g.M.LeafMap.image c.args.self.now.images.now) c.step-item.result w.in-CrossWith.operand w.in_ok-leaves-in-CrossWith.field-0 w.in-CrossWith.is w.in_ok-leaves-in-CrossWith.ensures) c.steps.invariant)
      | steps-in-Then+in_ok-leaves-in-Then+in_ok-push-in-Then w ↦
          rw w.found-is (steps_more (g.M.LeafMap.image c.args.self.now.images.now) c.args.steps.now c.steps.step-index c.step-item.result c.steps.found.items w.push-in-Then.new.self.items _ (omega arith) c.step-item.is w.in_ok-push-in-Then.ensures.items
          (is_then (g.M.LeafMap.image c.args.self.now.images.now) c.step-item.result w.in-Then.operand w.in_ok-leaves-in-Then.field-0 w.in-Then.is w.in_ok-leaves-in-Then.ensures) c.steps.invariant)
    ]

pub steps-returns : goal.steps-returns
steps-returns g t c = steps_ended (g.M.LeafMap.image c.args.self.now.images.now) c.args.steps.now c.steps.step-index c.steps.found.items (omega arith) c.steps.invariant

pub contexts-contexts-preserved : goal.contexts-contexts-preserved
contexts-contexts-preserved g t c = contexts_more (g.M.LeafMap.image c.args.self.now.images.now) c.args.contexts.now c.contexts.context-index c.context-item.result c.contexts.found.items c.push.new.self.items _ (omega arith) c.context-item.is c.in_ok-push.ensures.items
    (is_between (g.M.LeafMap.image c.args.self.now.images.now) c.context-item.result _ c.in_ok-left.ensures c.in_ok-right.ensures) c.contexts.invariant

pub contexts-returns : goal.contexts-returns
contexts-returns g t c = contexts_ended (g.M.LeafMap.image c.args.self.now.images.now) c.args.contexts.now c.contexts.context-index c.contexts.found.items (omega arith) c.contexts.invariant

pub groups-groups-preserved : goal.groups-groups-preserved
groups-groups-preserved g t c =
    let group = c.group-item.result in
    let maps = rw (c.deref.ensures.value, ← maps_of_is group) at c.in_ok-maps.ensures in
    let contexts = rw (c.deref-in-groups.ensures.value, ← contexts_in_is group) at c.in_ok-contexts.ensures in
    let made = group_made (g.M.LeafMap.image c.args.self.now.images.now) group c.with_parts.result (ap mappings_of c.with_parts.ensures.maps ∙ maps) (c.with_parts.ensures.side ∙ sym (side_of_is group)) (ap contexts_of c.with_parts.ensures.contexts ∙ contexts) in
    groups_more (g.M.LeafMap.image c.args.self.now.images.now) c.args.groups.now c.groups.group-index group c.groups.found.items c.push.new.self.items c.with_parts.result (omega arith) c.group-item.is c.in_ok-push.ensures.items made c.groups.invariant

pub groups-contexts-requires : goal.groups-contexts-requires
groups-contexts-requires g t c κs within = (rw c.deref-in-groups.ensures.value (omega (arith, size_is-Group, size_in c.args.groups.now c.groups.group-index c.group-item.result (omega arith) c.group-item.is)), within)

pub groups-returns : goal.groups-returns
groups-returns g t c = groups_ended (g.M.LeafMap.image c.args.self.now.images.now) c.args.groups.now c.groups.group-index c.groups.found.items (omega arith) c.groups.invariant

pub mappings-mappings-preserved : goal.mappings-mappings-preserved
mappings-mappings-preserved g t c =
    elim c.match-mapping.branch [
      | mappings-in-Plain+in_ok-leaves-in-Plain+in_ok-leaves-in-Plain-2+in_ok-push-in-Plain w ↦
          rw w.found-is (mappings_more (g.M.LeafMap.image c.args.self.now.images.now) c.args.mappings.now c.mappings.mapping-index c.mapping-item.result c.mappings.found.items w.push.new.self.items _ (omega arith) c.mapping-item.is w.in_ok-push-in-Plain.ensures.items
          (is_plain (g.M.LeafMap.image c.args.self.now.images.now) c.mapping-item.result w.in-Plain.centre w.in-Plain.by w.in_ok-leaves-in-Plain.field-0 w.in_ok-leaves-in-Plain-2.field-0 w.in-Plain.is w.in_ok-leaves-in-Plain.ensures w.in_ok-leaves-in-Plain-2.ensures) c.mappings.invariant)
      | mappings-in-Markup+in_ok-leaves-in-Markup+in_ok-leaves-in-Markup-2+in_ok-leaves-in-Markup-3+in_ok-push-in-Markup w ↦
          rw w.found-is (mappings_more (g.M.LeafMap.image c.args.self.now.images.now) c.args.mappings.now c.mappings.mapping-index c.mapping-item.result c.mappings.found.items w.push-in-Markup.new.self.items _ (omega arith) c.mapping-item.is w.in_ok-push-in-Markup.ensures.items
          (is_markup (g.M.LeafMap.image c.args.self.now.images.now) c.mapping-item.result w.in-Markup.centre w.in-Markup.before w.in-Markup.after w.in_ok-leaves-in-Markup.field-0 w.in_ok-leaves-in-Markup-2.field-0 w.in_ok-leaves-in-Markup-3.field-0 w.in-Markup.is w.in_ok-leaves-in-Markup.ensures w.in_ok-leaves-in-Markup-2.ensures w.in_ok-leaves-in-Markup-3.ensures) c.mappings.invariant)
      | mappings-in-Insert+in_ok-leaves-in-Insert+in_ok-push-in-Insert w ↦
          rw w.found-is (mappings_more (g.M.LeafMap.image c.args.self.now.images.now) c.args.mappings.now c.mappings.mapping-index c.mapping-item.result c.mappings.found.items w.push-in-Insert.new.self.items _ (omega arith) c.mapping-item.is w.in_ok-push-in-Insert.ensures.items
          (is_insert (g.M.LeafMap.image c.args.self.now.images.now) c.mapping-item.result w.in-Insert.by w.in_ok-leaves-in-Insert.field-0 w.in-Insert.is w.in_ok-leaves-in-Insert.ensures) c.mappings.invariant)
    ]

pub mappings-returns : goal.mappings-returns
mappings-returns g t c = mappings_ended (g.M.LeafMap.image c.args.self.now.images.now) c.args.mappings.now c.mappings.mapping-index c.mappings.found.items (omega arith) c.mappings.invariant

pub leaves-returns-in_ok-each-in-Ignore : goal.leaves-returns-in_ok-each-in-Ignore
leaves-returns-in_ok-each-in-Ignore g t c =
    let is = ap term c.in-Ignore.is ∙ term-Ignore c.in-Ignore.operands in
    let made = rw c.deref-in-Ignore.ensures.value at c.in_ok-each-in-Ignore.ensures in
    term-Ignore c.in_ok-each-in-Ignore.field-0 ∙ ap ignore made ∙ ap (mapped (g.M.LeafMap.image c.args.self.now.images.now)) (sym is)

pub leaves-returns-in_ok-each-in-Concat : goal.leaves-returns-in_ok-each-in-Concat
leaves-returns-in_ok-each-in-Concat g t c =
    let is = ap term c.in-Concat.is ∙ term-Concat c.in-Concat.operands in
    let made = rw c.deref-in-Concat.ensures.value at c.in_ok-each-in-Concat.ensures in
    term-Concat c.in_ok-each-in-Concat.field-0 ∙ ap concat made ∙ ap (mapped (g.M.LeafMap.image c.args.self.now.images.now)) (sym is)

pub leaves-returns-in_ok-links-in-Chain : goal.leaves-returns-in_ok-links-in-Chain
leaves-returns-in_ok-links-in-Chain g t c =
    let is = ap term c.in-Chain.is ∙ term-Chain c.in-Chain.first c.in-Chain.links in
    let front = ap term c.in_ok-first-in-Chain.ensures.ok ∙ (rw c.deref-in-Chain.ensures at c.in_ok-leaves-in-Chain.ensures) in
    let made = rw c.deref-in-Chain-2.ensures.value at c.in_ok-links-in-Chain.ensures in
    term-Chain c.in_ok-first-in-Chain.first c.in_ok-links-in-Chain.field-0 ∙ ap (λ t. chain t (links_of c.in_ok-links-in-Chain.field-0.items)) front
    ∙ ap (chain (mapped (g.M.LeafMap.image c.args.self.now.images.now) (term c.in-Chain.first.value))) made ∙ ap (mapped (g.M.LeafMap.image c.args.self.now.images.now)) (sym is)

pub leaves-returns-in_ok-contexts-in-Only : goal.leaves-returns-in_ok-contexts-in-Only
leaves-returns-in_ok-contexts-in-Only g t c =
    let is = ap term c.in-Only.is ∙ term-Only c.in-Only.centre c.in-Only.contexts in
    let front = ap term c.in_ok-centre-in-Only.ensures.ok ∙ (rw c.deref-in-Only.ensures at c.in_ok-leaves-in-Only.ensures) in
    let made = rw c.deref-in-Only-2.ensures.value at c.in_ok-contexts-in-Only.ensures in
    term-Only c.in_ok-centre-in-Only.centre c.in_ok-contexts-in-Only.field-0 ∙ ap (λ t. only t (contexts_of c.in_ok-contexts-in-Only.field-0.items)) front
    ∙ ap (only (mapped (g.M.LeafMap.image c.args.self.now.images.now) (term c.in-Only.centre.value))) made ∙ ap (mapped (g.M.LeafMap.image c.args.self.now.images.now)) (sym is)

pub leaves-returns-in_ok-steps-in-Steps : goal.leaves-returns-in_ok-steps-in-Steps
leaves-returns-in_ok-steps-in-Steps g t c =
    let is = ap term c.in-Steps.is ∙ term-Steps c.in-Steps.first c.in-Steps.steps in
    let front = ap term c.in_ok-first-in-Steps.ensures.ok ∙ (rw c.deref-in-Steps.ensures at c.in_ok-leaves-in-Steps.ensures) in
    let made = rw c.deref-in-Steps-2.ensures.value at c.in_ok-steps-in-Steps.ensures in
    term-Steps c.in_ok-first-in-Steps.first c.in_ok-steps-in-Steps.field-0 ∙ ap (λ t. steps t (steps_by c.in_ok-steps-in-Steps.field-0.items)) front
    ∙ ap (steps (mapped (g.M.LeafMap.image c.args.self.now.images.now) (term c.in-Steps.first.value))) made ∙ ap (mapped (g.M.LeafMap.image c.args.self.now.images.now)) (sym is)

pub leaves-returns-in_ok-groups-in-Rules : goal.leaves-returns-in_ok-groups-in-Rules
leaves-returns-in_ok-groups-in-Rules g t c =
    let is = ap term c.in-Rules.is ∙ term_rules c.in-Rules.rules in
    let made = rw c.deref-in-Rules.ensures.value at c.in_ok-groups-in-Rules.ensures in
    c.with_groups.ensures ∙ ap (rules (out-RuleSet _ c.in-Rules.rules).optional) made ∙ ap (mapped (g.M.LeafMap.image c.args.self.now.images.now)) (sym is)

pub leaves-returns-in_ok-contexts-in-Directed : goal.leaves-returns-in_ok-contexts-in-Directed
leaves-returns-in_ok-contexts-in-Directed g t c =
    let rule = out-Directed _ c.in-Directed.rule in
    let is = ap term c.in-Directed.is ∙ term_directed c.in-Directed.rule in
    let maps = rw c.deref-in-Directed.ensures.value at c.in_ok-maps-in-Directed.ensures in
    let contexts = rw c.deref-in-Directed-2.ensures.value at c.in_ok-contexts-in-Directed.ensures in
    c.with_way.ensures ∙ ap (λ m. directed rule.way m (contexts_of c.in_ok-contexts-in-Directed.contexts.items)) maps
    ∙ ap (directed rule.way (mapped_mappings (g.M.LeafMap.image c.args.self.now.images.now) (mappings_of rule.maps.items))) contexts ∙ ap (mapped (g.M.LeafMap.image c.args.self.now.images.now)) (sym is)

pub leaves-contexts-requires-in-Directed : goal.leaves-contexts-requires-in-Directed
leaves-contexts-requires-in-Directed g t c κs within = (rw c.deref-in-Directed-2.ensures.value (omega (arith, contexts_smaller c.args.expr.now c.in-Directed.rule c.in-Directed.is)), within)
