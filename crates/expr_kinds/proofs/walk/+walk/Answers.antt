use Rattle.std.proofs.Common.{◌≡◌, ◌-◌, map, not, sym, ap, ◌∙◌, arith}
use Rattle.regex_ast.specs.Terms.{term, terms_of, links_of, contexts_of, steps_by, mappings_of, groups_of}
use Rattle.regex_ast.specs.declared.expr.Atom.{Atom}
use Rattle.regex_ast.specs.declared.expr.Expr.TheViews.{out-RuleSet, out-Directed}
use Rattle.regex_ast.proofs.Rows.{term-Concat, term-Chain, term-Ignore, term-Only, term-Steps}
use Rattle.expr_kinds.specs.Atoms.{is_known_at, is_symbol, leaves_at, weights_at}
use Rattle.expr_kinds.specs.Built.{holds_insertion, inserts_alone}
use Rattle.expr_kinds.specs.Forms.{as_language, built_if, form_in, form_in_contexts, form_in_each, form_in_links, form_in_mappings, form_in_steps, heavier, nothing, with_kind}
use Rattle.expr_kinds.specs.Weights.{count_of}
use Rattle.expr_kinds.specs.declared.form.Kind.TheVariants.{Relation}
use Rattle.expr_kinds.proofs.Sets.{term_rules, term_directed}
use Rattle.expr_kinds.proofs.Passes.{count_is}
use Rattle.expr_kinds.proofs.walk.+walk.Goals as goal

pub in_expression-returns-in-Ignore : goal.in_expression-returns-in-Ignore
in_expression-returns-in-Ignore t c =
    let is = ap term c.in-Ignore.is ∙ term-Ignore c.in-Ignore.operands in
    let each = rw c.deref-in-Ignore.ensures.value at c.in_each.ensures in
    let operands = terms_of (map term c.in-Ignore.operands.items) in
    let more : c.saturating_sub.result ≡ count_of operands - 1 = omega (arith, count_is c.in-Ignore.operands.items, c.in-Ignore.operands.ok.0, c.len-in-Ignore.ensures, c.saturating_sub.ensures) in
    c.heavier-in-Ignore.ensures ∙ ap (λ f. heavier f c.saturating_sub.result) (c.as_language-in-Ignore.ensures ∙ ap as_language each)
    ∙ ap (heavier (as_language (form_in_each (leaves_at c.args.names.now) (weights_at c.args.names.now) (is_known_at c.args.names.now) is_symbol nothing operands))) more ∙ ap (form_in (leaves_at c.args.names.now) (weights_at c.args.names.now) (is_known_at c.args.names.now) is_symbol) (sym is)

pub in_expression-returns-in-Concat : goal.in_expression-returns-in-Concat
in_expression-returns-in-Concat t c =
    let is = ap term c.in-Concat.is ∙ term-Concat c.in-Concat.operands in
    let each = rw c.deref-in-Concat.ensures.value at c.in_each-in-Concat.ensures in
    let operands = terms_of (map term c.in-Concat.operands.items) in
    let more : c.saturating_sub-in-Concat.result ≡ count_of operands - 1 = omega (arith, count_is c.in-Concat.operands.items, c.in-Concat.operands.ok.0, c.len-in-Concat.ensures, c.saturating_sub-in-Concat.ensures) in
    c.heavier-in-Concat.ensures ∙ ap (λ f. heavier f c.saturating_sub-in-Concat.result) each
    ∙ ap (heavier (form_in_each (leaves_at c.args.names.now) (weights_at c.args.names.now) (is_known_at c.args.names.now) is_symbol nothing operands)) more ∙ ap (form_in (leaves_at c.args.names.now) (weights_at c.args.names.now) (is_known_at c.args.names.now) is_symbol) (sym is)

pub in_expression-returns-in-Chain : goal.in_expression-returns-in-Chain
in_expression-returns-in-Chain t c =
    let is = ap term c.in-Chain.is ∙ term-Chain c.in-Chain.first c.in-Chain.links in
    let first = rw c.deref-in-Chain.ensures at c.in_expression-in-Chain.ensures in
    let all = rw c.deref-in-Chain-2.ensures.value at c.in_links.ensures in
    all ∙ ap (λ f. form_in_links (leaves_at c.args.names.now) (weights_at c.args.names.now) (is_known_at c.args.names.now) is_symbol f (links_of c.in-Chain.links.items)) first ∙ ap (form_in (leaves_at c.args.names.now) (weights_at c.args.names.now) (is_known_at c.args.names.now) is_symbol) (sym is)

pub in_expression-returns-in-Only : goal.in_expression-returns-in-Only
in_expression-returns-in-Only t c =
    let is = ap term c.in-Only.is ∙ term-Only c.in-Only.centre c.in-Only.contexts in
    let first = rw c.deref-in-Only.ensures at c.in_expression-in-Only.ensures in
    let all = rw c.deref-in-Only-2.ensures.value at c.in_contexts.ensures in
    c.heavier-in-Only.ensures ∙ ap (λ f. heavier f 1) (c.as_language-in-Only.ensures ∙ ap as_language (all ∙ ap (λ f. form_in_contexts (leaves_at c.args.names.now) (weights_at c.args.names.now) (is_known_at c.args.names.now) is_symbol f (contexts_of c.in-Only.contexts.items)) first)) ∙ ap (form_in (leaves_at c.args.names.now) (weights_at c.args.names.now) (is_known_at c.args.names.now) is_symbol) (sym is)

pub in_expression-returns-in-Rules : goal.in_expression-returns-in-Rules
in_expression-returns-in-Rules t c =
    let is = ap term c.in-Rules.is ∙ term_rules c.in-Rules.rules in
    let all = rw c.deref-in-Rules.ensures.value at c.in_groups.ensures in
    let alone = rw c.deref-in-Rules-2.ensures.value at c.inserts_alone.ensures in
    c.built_if-in-Rules.ensures ∙ ap (λ b. built_if c.with_kind.result b) alone
    ∙ ap (λ f. built_if f (inserts_alone (groups_of (out-RuleSet Atom c.in-Rules.rules).groups.items))) (c.with_kind.ensures ∙ ap (λ f. with_kind f Relation) (c.heavier-in-Rules.ensures ∙ ap (λ f. heavier f 1) (c.as_language-in-Rules.ensures ∙ ap as_language all))) ∙ ap (form_in (leaves_at c.args.names.now) (weights_at c.args.names.now) (is_known_at c.args.names.now) is_symbol) (sym is)

pub in_expression-returns-in-Directed : goal.in_expression-returns-in-Directed
in_expression-returns-in-Directed t c =
    let rule = out-Directed Atom c.in-Directed.rule in
    let is = ap term c.in-Directed.is ∙ term_directed c.in-Directed.rule in
    let maps = rw c.deref-in-Directed.ensures.value at c.in_mappings.ensures in
    let first = maps ∙ ap (λ f. form_in_mappings (leaves_at c.args.names.now) (weights_at c.args.names.now) (is_known_at c.args.names.now) is_symbol f (mappings_of rule.maps.items)) c.leaf-in-Directed.ensures in
    let contexts = rw c.deref-in-Directed-2.ensures.value at c.in_contexts-in-Directed.ensures in
    let all = contexts ∙ ap (λ f. form_in_contexts (leaves_at c.args.names.now) (weights_at c.args.names.now) (is_known_at c.args.names.now) is_symbol f (contexts_of rule.contexts.items)) first in
    let inserts = rw c.deref-in-Directed-3.ensures.value at c.holds_insertion.ensures in
    c.built_if-in-Directed.ensures ∙ ap (λ b. built_if c.with_kind-in-Directed.result (not b)) inserts
    ∙ ap (λ f. built_if f (not (holds_insertion (mappings_of rule.maps.items)))) (c.with_kind-in-Directed.ensures ∙ ap (λ f. with_kind f Relation) (c.heavier-in-Directed.ensures ∙ ap (λ f. heavier f 1) (c.as_language-in-Directed.ensures ∙ ap as_language all)))
    ∙ ap (form_in (leaves_at c.args.names.now) (weights_at c.args.names.now) (is_known_at c.args.names.now) is_symbol) (sym is)

pub in_expression-returns-in-Steps : goal.in_expression-returns-in-Steps
in_expression-returns-in-Steps t c =
    let is = ap term c.in-Steps.is ∙ term-Steps c.in-Steps.first c.in-Steps.steps in
    let first = rw c.deref-in-Steps.ensures at c.in_expression-in-Steps.ensures in
    let all = rw c.deref-in-Steps-2.ensures.value at c.in_steps.ensures in
    all ∙ ap (λ f. form_in_steps (leaves_at c.args.names.now) (weights_at c.args.names.now) (is_known_at c.args.names.now) is_symbol f (steps_by c.in-Steps.steps.items)) first ∙ ap (form_in (leaves_at c.args.names.now) (weights_at c.args.names.now) (is_known_at c.args.names.now) is_symbol) (sym is)
