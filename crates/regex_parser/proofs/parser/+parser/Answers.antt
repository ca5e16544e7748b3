use Rattle.std.proofs.Common.{◌≡◌, true, Some, [], ◌∷◌, ◌++◌, map, ap, ◌∙◌, rules}
use Rattle.regex_ast.specs.Terms.{term}
use Rattle.regex_ast.specs.declared.expr.Raw.{Raw}
use Rattle.regex_ast.specs.declared.expr.Expr.{Expr}
use Rattle.regex_grammar.specs.Rows.{begins}
use Rattle.regex_grammar.specs.Grammar.{ContextTerm, MappingTerm}
use Rattle.regex_parser.specs.Levels.{is_operand, ignored_within}
use Rattle.regex_parser.specs.Values.{link_value, step_value, context_value, sided_value, mapping_value, group_value}
use Rattle.regex_parser.proofs.Loops.{item_pushed, row_begun, more_begin, more_pushed}
use Rattle.regex_parser.proofs.Levels.{expression_none, expression_steps, is_slash, slash_within, slash_read, slash_begins, slash_shorter, ignored_read, ignored_fails, ignored_none, ignored_shorter, concat_read, concat_fails, concat_none, is_link, link_within, link_read, link_here, link_shorter, chain_read, chain_fails, chain_none, is_step, step_within, step_read, step_here, step_shorter, steps_read, steps_fails, steps_none, negated_read, negated_none, crossed_none, crossed_alone, crossed_open, crossed_read, suffixed_read, suffixed_none, suffixed_fails, prefixed_read, prefixed_none, primary_square, primary_round, primary_leaf, square_blank, square_none, square_open, square_read, round_none, round_open, round_read}
use Rattle.regex_parser.proofs.Rules.{is_comma, is_group_comma, next_context_within, next_mapping_within, next_group_within, next_context_shorter, next_mapping_shorter, next_group_shorter, next_context_read, next_mapping_read, next_group_read, comma_begins, group_comma_begins, contexts_read, contexts_fail, contexts_none, mappings_read, mappings_fail, mappings_none, group_tail_found, group_tail_sides, group_tail_none, upper_blank, upper_is, directed_found, directed_unplaced, directed_none, replacement_read, replacement_fails, replacement_none, context_found, context_unbegun, context_unplaced, context_unended, marks_found, marks_none, insertion_read, insertion_none, insertion_fails, insertion_unsided, ruling_only, ruling_arrow, ruling_way, ruling_none, part_blank, part_is, sided_blank, sided_fails, sided_read, right_marks, right_none, right_marked, right_plain, mapping_none, mapping_unarrowed, mapping_is, group_none, group_unarrowed, group_is, restriction_read, restriction_none, nine_inserted, nine_none, nine_ruled}
use Rattle.regex_parser.proofs.parser.+parser.Goals as goal

pub expression-returns-then-depth-eq0 : goal.expression-returns-then-depth-eq0
expression-returns-then-depth-eq0 t c =
    expression_none c.args.depth c.args.tokens.now c.if-depth-eq0.true

pub expression-returns : goal.expression-returns
expression-returns t c =
    let e = expression_steps c.args.depth c.args.tokens.now c.if-depth-eq0.false in rw (← e) c.steps.ensures

pub ignored-operands-init : goal.ignored-operands-init
ignored-operands-init t c =
    row_begun is_slash (slash_within c.args.depth) (term {A = Raw}) c.in-Some.rest.now c.in-Some.first.expr c.new-more.result.items c.new-more.ensures.items

pub ignored-operands-smaller : goal.ignored-operands-smaller
ignored-operands-smaller t c =
    slash_shorter c.args.depth c.operands.rest.now (term c.in-Some-2.operand.expr, c.in-Some-2.behind.now) (slash_read c.args.depth c.operands.rest.now c.in-Some-after.next.now (term c.in-Some-2.operand.expr) c.in-Some-2.behind.now (search rules) (search rules))

pub ignored-operands-preserved : goal.ignored-operands-preserved
ignored-operands-preserved t c =
    let item : slash_within c.args.depth c.operands.rest.now ≡ Some (term c.in-Some-2.operand.expr, c.in-Some-2.behind.now) = slash_read c.args.depth c.operands.rest.now c.in-Some-after.next.now (term c.in-Some-2.operand.expr) c.in-Some-2.behind.now (search rules) (search rules) in
    let here : begins is_slash c.operands.rest.now ≡ true = slash_begins c.operands.rest.now c.in-Some-after.next.now (search rules) in
    record {
      kept = c.operands.invariant.kept;
      so_far = item_pushed is_slash (slash_within c.args.depth) (term {A = Raw}) (slash_shorter c.args.depth) c.in-Some.rest.now c.operands.more.items c.push.new.self.items c.operands.rest.now c.in-Some-2.operand.expr c.in-Some-2.behind.now c.operands.invariant.so_far here item (c.in_ok-push.ensures.items ∙ ap (λ (e : Expr Raw). c.operands.more.items ++ e ∷ []) c.into_expr.ensures);
    }

pub ignored-returns : goal.ignored-returns
ignored-returns t c =
    ignored_read c.args.depth c.args.tokens.now c.in-Some.first.expr c.in-Some.first.expr c.in-Some.rest.now c.operands.more.items c.operands.rest.now (term c.in_ok-ignore.field-0.expr) (search rules) c.operands.invariant (search rules) c.in_ok-ignore.ensures

pub ignored-returns-in_default-2 : goal.ignored-returns-in_default-2
ignored-returns-in_default-2 t c =
    ignored_fails c.args.depth c.args.tokens.now c.in-Some.first.expr c.in-Some.first.expr c.in-Some.rest.now c.operands.more.items c.operands.rest.now c.in-Some-after.next.now (search rules) c.operands.invariant (search rules) (search rules)

pub ignored-returns-in_default : goal.ignored-returns-in_default
ignored-returns-in_default t c =
    ignored_none c.args.depth c.args.tokens.now (search rules)

pub concatenation-operands-init : goal.concatenation-operands-init
concatenation-operands-init t c =
    row_begun is_operand (ignored_within c.args.depth) (term {A = Raw}) c.in-Some.rest.now c.in-Some.first.expr c.new-more.result.items c.new-more.ensures.items

pub concatenation-operands-smaller : goal.concatenation-operands-smaller
concatenation-operands-smaller t c =
    ignored_shorter c.args.depth c.operands.rest.now (term c.in-Some-2.operand.expr, c.in-Some-2.behind.now) ((search rules))

pub concatenation-operands-preserved : goal.concatenation-operands-preserved
concatenation-operands-preserved t c =
    let item : ignored_within c.args.depth c.operands.rest.now ≡ Some (term c.in-Some-2.operand.expr, c.in-Some-2.behind.now) = (search rules) in
    let here : begins is_operand c.operands.rest.now ≡ true = (search rules) in
    record {
      kept = c.operands.invariant.kept;
      so_far = item_pushed is_operand (ignored_within c.args.depth) (term {A = Raw}) (ignored_shorter c.args.depth) c.in-Some.rest.now c.operands.more.items c.push.new.self.items c.operands.rest.now c.in-Some-2.operand.expr c.in-Some-2.behind.now c.operands.invariant.so_far here item (c.in_ok-push.ensures.items ∙ ap (λ (e : Expr Raw). c.operands.more.items ++ e ∷ []) c.into_expr.ensures);
    }

pub concatenation-returns : goal.concatenation-returns
concatenation-returns t c =
    concat_read c.args.depth c.args.tokens.now c.in-Some.first.expr c.in-Some.first.expr c.in-Some.rest.now c.operands.more.items c.operands.rest.now (term c.in_ok-concatenate.field-0.expr) (search rules) c.operands.invariant (search rules) c.in_ok-concatenate.ensures

pub concatenation-returns-in_default-2 : goal.concatenation-returns-in_default-2
concatenation-returns-in_default-2 t c =
    concat_fails c.args.depth c.args.tokens.now c.in-Some.first.expr c.in-Some.first.expr c.in-Some.rest.now c.operands.more.items c.operands.rest.now (search rules) c.operands.invariant (search rules) (search rules)

pub concatenation-returns-in_default : goal.concatenation-returns-in_default
concatenation-returns-in_default t c =
    concat_none c.args.depth c.args.tokens.now (search rules)

pub chain-links-init : goal.chain-links-init
chain-links-init t c =
    row_begun is_link (link_within c.args.depth) (link_value {A = Raw}) c.in-Some.rest.now c.in-Some.first.expr c.new-links.result.items c.new-links.ensures.items

pub chain-links-smaller : goal.chain-links-smaller
chain-links-smaller t c =
    link_shorter c.args.depth c.links.rest.now (link_value c.link.result, c.in-Some-2.behind.now) (link_read c.args.depth c.links.rest.now c.in-Some-split_link.operator c.in-Some-split_link.next.now (term c.in-Some-2.operand.expr) c.in-Some-2.behind.now (link_value c.link.result) (search rules) (search rules) c.link.ensures)

pub chain-links-preserved : goal.chain-links-preserved
chain-links-preserved t c =
    let item : link_within c.args.depth c.links.rest.now ≡ Some (link_value c.link.result, c.in-Some-2.behind.now) = link_read c.args.depth c.links.rest.now c.in-Some-split_link.operator c.in-Some-split_link.next.now (term c.in-Some-2.operand.expr) c.in-Some-2.behind.now (link_value c.link.result) (search rules) (search rules) c.link.ensures in
    let here : begins is_link c.links.rest.now ≡ true = link_here c.links.rest.now c.in-Some-split_link.operator c.in-Some-split_link.next.now (search rules) in
    record {
      kept = c.links.invariant.kept;
      so_far = item_pushed is_link (link_within c.args.depth) (link_value {A = Raw}) (link_shorter c.args.depth) c.in-Some.rest.now c.links.links.items c.push.new.self.items c.links.rest.now c.link.result c.in-Some-2.behind.now c.links.invariant.so_far here item c.in_ok-push.ensures.items;
    }

pub chain-returns : goal.chain-returns
chain-returns t c =
    chain_read c.args.depth c.args.tokens.now c.in-Some.first.expr c.in-Some.first.expr c.in-Some.rest.now c.links.links.items c.links.rest.now (term c.in_ok-add_links.field-0.expr) (search rules) c.links.invariant (search rules) c.in_ok-add_links.ensures

pub chain-returns-in_default-2 : goal.chain-returns-in_default-2
chain-returns-in_default-2 t c =
    chain_fails c.args.depth c.args.tokens.now c.in-Some.first.expr c.in-Some.first.expr c.in-Some.rest.now c.links.links.items c.links.rest.now c.in-Some-split_link.operator c.in-Some-split_link.next.now (search rules) c.links.invariant (search rules) (search rules)

pub chain-returns-in_default : goal.chain-returns-in_default
chain-returns-in_default t c =
    chain_none c.args.depth c.args.tokens.now (search rules)

pub steps-steps-init : goal.steps-steps-init
steps-steps-init t c =
    row_begun is_step (step_within c.args.depth) (step_value {A = Raw}) c.in-Some.rest.now c.in-Some.first.expr c.new-found.result.items c.new-found.ensures.items

pub steps-steps-smaller : goal.steps-steps-smaller
steps-steps-smaller t c =
    step_shorter c.args.depth c.steps.rest.now (step_value c.step.result, c.in-Some-2.behind.now) (step_read c.args.depth c.steps.rest.now c.in-Some-split_step.operator c.in-Some-split_step.next.now (term c.in-Some-2.operand.expr) c.in-Some-2.behind.now (step_value c.step.result) (search rules) (search rules) c.step.ensures)

pub steps-steps-preserved : goal.steps-steps-preserved
steps-steps-preserved t c =
    let item : step_within c.args.depth c.steps.rest.now ≡ Some (step_value c.step.result, c.in-Some-2.behind.now) = step_read c.args.depth c.steps.rest.now c.in-Some-split_step.operator c.in-Some-split_step.next.now (term c.in-Some-2.operand.expr) c.in-Some-2.behind.now (step_value c.step.result) (search rules) (search rules) c.step.ensures in
    let here : begins is_step c.steps.rest.now ≡ true = step_here c.steps.rest.now c.in-Some-split_step.operator c.in-Some-split_step.next.now (search rules) in
    record {
      kept = c.steps.invariant.kept;
      so_far = item_pushed is_step (step_within c.args.depth) (step_value {A = Raw}) (step_shorter c.args.depth) c.in-Some.rest.now c.steps.found.items c.push.new.self.items c.steps.rest.now c.step.result c.in-Some-2.behind.now c.steps.invariant.so_far here item c.in_ok-push.ensures.items;
    }

pub steps-returns : goal.steps-returns
steps-returns t c =
    steps_read c.args.depth c.args.tokens.now c.in-Some.first.expr c.in-Some.first.expr c.in-Some.rest.now c.steps.found.items c.steps.rest.now (term c.in_ok-add_steps.field-0.expr) (search rules) c.steps.invariant (search rules) c.in_ok-add_steps.ensures

pub steps-returns-in_default-2 : goal.steps-returns-in_default-2
steps-returns-in_default-2 t c =
    steps_fails c.args.depth c.args.tokens.now c.in-Some.first.expr c.in-Some.first.expr c.in-Some.rest.now c.steps.found.items c.steps.rest.now c.in-Some-split_step.operator c.in-Some-split_step.next.now (search rules) c.steps.invariant (search rules) (search rules)

pub steps-returns-in_default : goal.steps-returns-in_default
steps-returns-in_default t c =
    steps_none c.args.depth c.args.tokens.now (search rules)

pub contexts-contexts-init : goal.contexts-contexts-init
contexts-contexts-init t c =
    more_begin is_comma (next_context_within c.args.depth) c.in-Some.rest.now (map (context_value {A = Raw}) c.push.new.self.items)

pub contexts-contexts-smaller : goal.contexts-contexts-smaller
contexts-contexts-smaller t c =
    next_context_shorter c.args.depth c.contexts.rest.now (context_value c.in-Some-2.context, c.in-Some-2.behind.now) (next_context_read c.args.depth c.contexts.rest.now c.in-Some-after.next.now (context_value c.in-Some-2.context) c.in-Some-2.behind.now (search rules) (search rules))

pub contexts-contexts-preserved : goal.contexts-contexts-preserved
contexts-contexts-preserved t c =
    let item : next_context_within c.args.depth c.contexts.rest.now ≡ Some (context_value c.in-Some-2.context, c.in-Some-2.behind.now) = next_context_read c.args.depth c.contexts.rest.now c.in-Some-after.next.now (context_value c.in-Some-2.context) c.in-Some-2.behind.now (search rules) (search rules) in
    let here : begins is_comma c.contexts.rest.now ≡ true = comma_begins c.contexts.rest.now c.in-Some-after.next.now (search rules) in
    more_pushed is_comma (next_context_within c.args.depth) (context_value {A = Raw}) (next_context_shorter c.args.depth) c.in-Some.rest.now (map (context_value {A = Raw}) c.push.new.self.items) c.contexts.found.items c.push-in-Some-after.new.self.items c.contexts.rest.now c.in-Some-2.context c.in-Some-2.behind.now c.contexts.invariant here item c.in_ok-push-2.ensures.items

pub mappings-mappings-init : goal.mappings-mappings-init
mappings-mappings-init t c =
    more_begin is_comma (next_mapping_within c.args.depth c.args.arrow) c.in-Some.rest.now (map (mapping_value {A = Raw}) c.push.new.self.items)

pub mappings-mappings-smaller : goal.mappings-mappings-smaller
mappings-mappings-smaller t c =
    next_mapping_shorter c.args.depth c.args.arrow c.mappings.rest.now (mapping_value c.in-Some-2.map, c.in-Some-2.behind.now) (next_mapping_read c.args.depth c.args.arrow c.mappings.rest.now c.in-Some-after.next.now (mapping_value c.in-Some-2.map) c.in-Some-2.behind.now (search rules) (search rules))

pub mappings-mappings-preserved : goal.mappings-mappings-preserved
mappings-mappings-preserved t c =
    let item : next_mapping_within c.args.depth c.args.arrow c.mappings.rest.now ≡ Some (mapping_value c.in-Some-2.map, c.in-Some-2.behind.now) = next_mapping_read c.args.depth c.args.arrow c.mappings.rest.now c.in-Some-after.next.now (mapping_value c.in-Some-2.map) c.in-Some-2.behind.now (search rules) (search rules) in
    let here : begins is_comma c.mappings.rest.now ≡ true = comma_begins c.mappings.rest.now c.in-Some-after.next.now (search rules) in
    more_pushed is_comma (next_mapping_within c.args.depth c.args.arrow) (mapping_value {A = Raw}) (next_mapping_shorter c.args.depth c.args.arrow) c.in-Some.rest.now (map (mapping_value {A = Raw}) c.push.new.self.items) c.mappings.maps.items c.push-in-Some-after.new.self.items c.mappings.rest.now c.in-Some-2.map c.in-Some-2.behind.now c.mappings.invariant here item c.in_ok-push-2.ensures.items

pub replacement-groups-init : goal.replacement-groups-init
replacement-groups-init t c =
    more_begin is_group_comma (next_group_within c.args.depth c.args.optional) c.in-Some.rest.now (map (group_value {A = Raw}) c.push.new.self.items)

pub replacement-groups-smaller : goal.replacement-groups-smaller
replacement-groups-smaller t c =
    next_group_shorter c.args.depth c.args.optional c.groups.rest.now (group_value c.in-Some-2.group, c.in-Some-2.behind.now) (next_group_read c.args.depth c.args.optional c.groups.rest.now c.in-Some-after.next.now (group_value c.in-Some-2.group) c.in-Some-2.behind.now (search rules) (search rules))

pub replacement-groups-preserved : goal.replacement-groups-preserved
replacement-groups-preserved t c =
    let item : next_group_within c.args.depth c.args.optional c.groups.rest.now ≡ Some (group_value c.in-Some-2.group, c.in-Some-2.behind.now) = next_group_read c.args.depth c.args.optional c.groups.rest.now c.in-Some-after.next.now (group_value c.in-Some-2.group) c.in-Some-2.behind.now (search rules) (search rules) in
    let here : begins is_group_comma c.groups.rest.now ≡ true = group_comma_begins c.groups.rest.now c.in-Some-after.next.now (search rules) in
    more_pushed is_group_comma (next_group_within c.args.depth c.args.optional) (group_value {A = Raw}) (next_group_shorter c.args.depth c.args.optional) c.in-Some.rest.now (map (group_value {A = Raw}) c.push.new.self.items) c.groups.groups.items c.push-in-Some-after.new.self.items c.groups.rest.now c.in-Some-2.group c.in-Some-2.behind.now c.groups.invariant here item c.in_ok-push-2.ensures.items

pub contexts-returns : goal.contexts-returns
contexts-returns t c =
    contexts_read c.args.depth c.args.tokens.now c.in-Some.first c.in-Some.rest.now c.new-found.result.items c.push.new.self.items c.contexts.found.items c.contexts.rest.now (search rules) c.new-found.ensures.items c.in_ok-push.ensures.items c.contexts.invariant (search rules)

pub contexts-returns-in_default-2 : goal.contexts-returns-in_default-2
contexts-returns-in_default-2 t c =
    contexts_fail c.args.depth c.args.tokens.now c.in-Some.first c.in-Some.rest.now c.push.new.self.items c.contexts.found.items c.contexts.rest.now c.in-Some-after.next.now (search rules) c.contexts.invariant (search rules) (search rules)

pub contexts-returns-in_default : goal.contexts-returns-in_default
contexts-returns-in_default t c =
    contexts_none c.args.depth c.args.tokens.now (search rules)

pub mappings-returns : goal.mappings-returns
mappings-returns t c =
    mappings_read c.args.depth c.args.arrow (term c.args.centre.expr) c.args.tokens.now c.in-Some.first c.in-Some.rest.now c.new-maps.result.items c.push.new.self.items c.mappings.maps.items c.mappings.rest.now (search rules) c.new-maps.ensures.items c.in_ok-push.ensures.items c.mappings.invariant (search rules)

pub mappings-returns-in_default-2 : goal.mappings-returns-in_default-2
mappings-returns-in_default-2 t c =
    mappings_fail c.args.depth c.args.arrow (term c.args.centre.expr) c.args.tokens.now c.in-Some.first c.in-Some.rest.now c.push.new.self.items c.mappings.maps.items c.mappings.rest.now c.in-Some-after.next.now (search rules) c.mappings.invariant (search rules) (search rules)

pub mappings-returns-in_default : goal.mappings-returns-in_default
mappings-returns-in_default t c =
    mappings_none c.args.depth c.args.arrow (term c.args.centre.expr) c.args.tokens.now (search rules)

pub group_tail-returns : goal.group_tail-returns
group_tail-returns t c =
    group_tail_found c.args.depth c.args.optional (term c.args.centre.expr) c.args.tokens.now c.arrow.result (map mapping_value c.in-Some.maps.items) c.in-Some.rest.now (sided_value c.in-Some-2.side c.in-Some-2.contexts.items) c.in-Some-2.rest.now (group_value c.group.result) c.arrow.ensures (search rules) (search rules) c.group.ensures

pub group_tail-returns-in_default-2 : goal.group_tail-returns-in_default-2
group_tail-returns-in_default-2 t c =
    group_tail_sides c.args.depth c.args.optional (term c.args.centre.expr) c.args.tokens.now c.arrow.result (map mapping_value c.in-Some.maps.items) c.in-Some.rest.now c.arrow.ensures (search rules) (search rules)

pub group_tail-returns-in_default : goal.group_tail-returns-in_default
group_tail-returns-in_default t c =
    group_tail_none c.args.depth c.args.optional (term c.args.centre.expr) c.args.tokens.now c.arrow.result c.arrow.ensures (search rules)

pub upper-returns-in_default : goal.upper-returns-in_default
upper-returns-in_default t c =
    upper_blank c.args.depth c.args.tokens.now c.new.result.items (search rules) c.new.ensures.items

pub upper-returns : goal.upper-returns
upper-returns t c =
    let e = upper_is c.args.depth c.args.tokens.now c.in-Some.rest.now (search rules) in rw (← e) c.contexts.ensures

pub directed-returns : goal.directed-returns
directed-returns t c =
    directed_found c.args.depth c.args.way (term c.args.centre.expr) c.args.tokens.now c.directed_arrow.result (map mapping_value c.in-Some.maps.items) c.in-Some.rest.now (map context_value c.in-Some-2.contexts.items) c.in-Some-2.rest.now (term c.directed.result.expr) c.directed_arrow.ensures (search rules) (search rules) c.directed.ensures

pub directed-returns-in_default-2 : goal.directed-returns-in_default-2
directed-returns-in_default-2 t c =
    directed_unplaced c.args.depth c.args.way (term c.args.centre.expr) c.args.tokens.now c.directed_arrow.result (map mapping_value c.in-Some.maps.items) c.in-Some.rest.now c.directed_arrow.ensures (search rules) (search rules)

pub directed-returns-in_default : goal.directed-returns-in_default
directed-returns-in_default t c =
    directed_none c.args.depth c.args.way (term c.args.centre.expr) c.args.tokens.now c.directed_arrow.result c.directed_arrow.ensures (search rules)

pub replacement-returns : goal.replacement-returns
replacement-returns t c =
    replacement_read c.args.depth c.args.optional (term c.args.centre.expr) c.args.tokens.now c.in-Some.first c.in-Some.rest.now c.new-groups.result.items c.push.new.self.items c.groups.groups.items c.groups.rest.now (term c.rules.result.expr) (search rules) c.new-groups.ensures.items c.in_ok-push.ensures.items c.groups.invariant (search rules) c.rules.ensures

pub replacement-returns-in_default-2 : goal.replacement-returns-in_default-2
replacement-returns-in_default-2 t c =
    replacement_fails c.args.depth c.args.optional (term c.args.centre.expr) c.args.tokens.now c.in-Some.first c.in-Some.rest.now c.push.new.self.items c.groups.groups.items c.groups.rest.now c.in-Some-after.next.now (search rules) c.groups.invariant (search rules) (search rules)

pub replacement-returns-in_default : goal.replacement-returns-in_default
replacement-returns-in_default t c =
    replacement_none c.args.depth c.args.optional (term c.args.centre.expr) c.args.tokens.now (search rules)

pub context-returns : goal.context-returns
context-returns t c =
    ap (λ (v : ContextTerm Raw). Some (v, c.in-Some-2.rest.now)) c.context_of.ensures ∙ context_found c.args.depth c.args.tokens.now (term c.in-Some.left.expr) c.in-Some.rest.now c.in-Some-after.behind.now (term c.in-Some-2.right.expr) c.in-Some-2.rest.now (search rules) (search rules) (search rules)

pub context-returns-in_default : goal.context-returns-in_default
context-returns-in_default t c =
    context_unbegun c.args.depth c.args.tokens.now (search rules)

pub context-returns-in_default-after : goal.context-returns-in_default-after
context-returns-in_default-after t c =
    context_unplaced c.args.depth c.args.tokens.now (term c.in-Some.left.expr) c.in-Some.rest.now (search rules) (search rules)

pub context-returns-in_default-2 : goal.context-returns-in_default-2
context-returns-in_default-2 t c =
    context_unended c.args.depth c.args.tokens.now (term c.in-Some.left.expr) c.in-Some.rest.now c.in-Some-after.behind.now (search rules) (search rules) (search rules)

pub marks-returns : goal.marks-returns
marks-returns t c =
    ap (λ (v : MappingTerm Raw). Some (v, c.in-Some.rest.now)) c.markup.ensures ∙ marks_found c.args.depth (term c.args.centre.expr) (term c.args.before.expr) (term c.in-Some.after.expr) c.args.tokens.now c.in-Some.rest.now (search rules)

pub marks-returns-in_default : goal.marks-returns-in_default
marks-returns-in_default t c =
    marks_none c.args.depth (term c.args.centre.expr) (term c.args.before.expr) c.args.tokens.now (search rules)

pub insertion-returns : goal.insertion-returns
insertion-returns t c =
    insertion_read c.args.depth c.args.tokens.now c.in-Some.optional c.in-Some.rest.now (term c.in-Some-2.inserted.expr) c.in-Some-2.rest.now (sided_value c.in-Some-3.side c.in-Some-3.contexts.items) c.in-Some-3.rest.now (term c.in_ok-rules.rules.expr) (search rules) (search rules) (search rules) c.in_ok-rules.ensures

pub insertion-returns-in_default : goal.insertion-returns-in_default
insertion-returns-in_default t c =
    insertion_none c.args.depth c.args.tokens.now (search rules)

pub insertion-returns-in_default-2 : goal.insertion-returns-in_default-2
insertion-returns-in_default-2 t c =
    insertion_fails c.args.depth c.args.tokens.now c.in-Some.optional c.in-Some.rest.now (search rules) (search rules)

pub insertion-returns-in_default-3 : goal.insertion-returns-in_default-3
insertion-returns-in_default-3 t c =
    insertion_unsided c.args.depth c.args.tokens.now c.in-Some.optional c.in-Some.rest.now (term c.in-Some-2.inserted.expr) c.in-Some-2.rest.now (search rules) (search rules) (search rules)

pub ruling-returns-in-Some : goal.ruling-returns-in-Some
ruling-returns-in-Some t c =
    let e = ruling_only c.args.depth (term c.args.centre.expr) c.args.tokens.now c.in-Some.rest.now (search rules) in rw (← e) c.restriction.ensures

pub ruling-returns-in-Some-split_arrow : goal.ruling-returns-in-Some-split_arrow
ruling-returns-in-Some-split_arrow t c =
    let e = ruling_arrow c.args.depth (term c.args.centre.expr) c.args.tokens.now c.in-Some-split_arrow.optional c.in-Some-split_arrow.rest.now (search rules) in rw (← e) c.replacement.ensures

pub ruling-returns-in-Some-split_way : goal.ruling-returns-in-Some-split_way
ruling-returns-in-Some-split_way t c =
    let e = ruling_way c.args.depth (term c.args.centre.expr) c.args.tokens.now c.in-Some-split_way.way c.in-Some-split_way.rest.now (search rules) in rw (← e) c.directed.ensures

pub ruling-returns : goal.ruling-returns
ruling-returns t c =
    ruling_none c.args.depth (term c.args.centre.expr) c.args.tokens.now (search rules) (search rules) (search rules)

pub negated-returns : goal.negated-returns
negated-returns t c =
    negated_read c.args.depth c.args.tokens.now c.backslashes-marks.result.0 c.backslashes-marks.result.1.now (term c.in-Some.operand.expr) c.in-Some.rest.now (term c.in_ok-add_backslashes.field-0.expr) c.backslashes-marks.ensures (search rules) c.in_ok-add_backslashes.ensures

pub negated-returns-in_default : goal.negated-returns-in_default
negated-returns-in_default t c =
    negated_none c.args.depth c.args.tokens.now c.backslashes-marks.result.0 c.backslashes-marks.result.1.now c.backslashes-marks.ensures (search rules)

pub crossed-returns-in_default : goal.crossed-returns-in_default
crossed-returns-in_default t c =
    crossed_none c.args.depth c.args.tokens.now (search rules)

pub crossed-returns-in_default-after : goal.crossed-returns-in_default-after
crossed-returns-in_default-after t c =
    crossed_alone c.args.depth c.args.tokens.now (term c.in-Some.upper.expr) c.in-Some.rest.now (search rules) (search rules)

pub crossed-returns-in_default-2 : goal.crossed-returns-in_default-2
crossed-returns-in_default-2 t c =
    crossed_open c.args.depth c.args.tokens.now (term c.in-Some.upper.expr) c.in-Some.rest.now c.in-Some-after.behind.now (search rules) (search rules) (search rules)

pub crossed-returns : goal.crossed-returns
crossed-returns t c =
    crossed_read c.args.depth c.args.tokens.now (term c.in-Some.upper.expr) c.in-Some.rest.now c.in-Some-after.behind.now (term c.in-Some-2.lower.expr) c.in-Some-2.rest.now (term c.in_ok-cross.field-0.expr) (search rules) (search rules) (search rules) c.in_ok-cross.ensures

pub suffixed-returns : goal.suffixed-returns
suffixed-returns t c =
    suffixed_read c.args.depth c.args.tokens.now (term c.in-Some.operand.expr) c.in-Some.rest.now c.in-Some-2.marks.items c.in-Some-2.rest.now (term c.in_ok-add_suffixes.field-0.expr) (search rules) (search rules) c.in_ok-add_suffixes.ensures

pub suffixed-returns-in_default : goal.suffixed-returns-in_default
suffixed-returns-in_default t c =
    suffixed_none c.args.depth c.args.tokens.now (search rules)

pub suffixed-returns-in_default-2 : goal.suffixed-returns-in_default-2
suffixed-returns-in_default-2 t c =
    suffixed_fails c.args.depth c.args.tokens.now (term c.in-Some.operand.expr) c.in-Some.rest.now (search rules) (search rules)

pub prefixed-returns : goal.prefixed-returns
prefixed-returns t c =
    prefixed_read c.args.depth c.args.tokens.now c.in_ok-marks.marks.items c.in_ok-marks.rest.now (term c.in-Some.operand.expr) c.in-Some.rest.now (term c.in_ok-add_prefixes.field-0.expr) (search rules) (search rules) c.in_ok-add_prefixes.ensures

pub prefixed-returns-in_default : goal.prefixed-returns-in_default
prefixed-returns-in_default t c =
    prefixed_none c.args.depth c.args.tokens.now c.in_ok-marks.marks.items c.in_ok-marks.rest.now (search rules) (search rules)

pub primary-returns-in-Some : goal.primary-returns-in-Some
primary-returns-in-Some t c =
    let e = primary_square c.args.depth c.args.tokens.now c.in-Some.rest.now (search rules) in rw (← e) c.square.ensures

pub primary-returns-in-Some-after : goal.primary-returns-in-Some-after
primary-returns-in-Some-after t c =
    let e = primary_round c.args.depth c.args.tokens.now c.in-Some-after.rest.now (search rules) in rw (← e) c.round.ensures

pub primary-returns : goal.primary-returns
primary-returns t c =
    let e = primary_leaf c.args.depth c.args.tokens.now (search rules) (search rules) in rw (← e) c.leaf.ensures

pub square-returns-in-Some : goal.square-returns-in-Some
square-returns-in-Some t c =
    square_blank c.args.depth c.args.tokens.now c.in-Some.rest.now (search rules)

pub square-returns-in_default-2 : goal.square-returns-in_default-2
square-returns-in_default-2 t c =
    square_none c.args.depth c.args.tokens.now (search rules) (search rules)

pub square-returns-in_default-after : goal.square-returns-in_default-after
square-returns-in_default-after t c =
    square_open c.args.depth c.args.tokens.now (term c.in-Some-2.inner.expr) c.in-Some-2.rest.now (search rules) (search rules) (search rules)

pub square-returns : goal.square-returns
square-returns t c =
    square_read c.args.depth c.args.tokens.now (term c.in-Some-2.inner.expr) c.in-Some-2.rest.now c.in-Some-after.rest.now (term c.in_ok-grouped.field-0.expr) (search rules) (search rules) (search rules) c.in_ok-grouped.ensures

pub round-returns-in_default : goal.round-returns-in_default
round-returns-in_default t c =
    round_none c.args.depth c.args.tokens.now (search rules)

pub round-returns-in_default-after : goal.round-returns-in_default-after
round-returns-in_default-after t c =
    round_open c.args.depth c.args.tokens.now (term c.in-Some.inner.expr) c.in-Some.rest.now (search rules) (search rules)

pub round-returns : goal.round-returns
round-returns t c =
    round_read c.args.depth c.args.tokens.now (term c.in-Some.inner.expr) c.in-Some.rest.now c.in-Some-after.rest.now (term c.in_ok-maybe.field-0.expr) (search rules) (search rules) c.in_ok-maybe.ensures

pub chain_or_empty-returns-then-not-begins_operand : goal.chain_or_empty-returns-then-not-begins_operand
chain_or_empty-returns-then-not-begins_operand t c =
    part_blank c.args.depth c.args.tokens.now (search rules)

pub chain_or_empty-returns : goal.chain_or_empty-returns
chain_or_empty-returns t c =
    let e = part_is c.args.depth c.args.tokens.now (search rules) in rw (← e) c.chain.ensures

pub sided-returns-in_default : goal.sided-returns-in_default
sided-returns-in_default t c =
    sided_blank c.args.depth c.args.tokens.now c.new.result.items (search rules) c.new.ensures.items

pub sided-returns-in_default-2 : goal.sided-returns-in_default-2
sided-returns-in_default-2 t c =
    sided_fails c.args.depth c.args.tokens.now c.in-Some.side c.in-Some.rest.now (search rules) (search rules)

pub sided-returns : goal.sided-returns
sided-returns t c =
    sided_read c.args.depth c.args.tokens.now c.in-Some.side c.in-Some.rest.now c.in-Some-2.contexts.items c.in-Some-2.rest.now (search rules) (search rules)

pub right_side-returns-in-Some : goal.right_side-returns-in-Some
right_side-returns-in-Some t c =
    let e = right_marks c.args.depth (term c.args.centre.expr) c.args.tokens.now c.in-Some.behind.now (search rules) in rw (← e) c.marks.ensures

pub right_side-returns-in_default-2 : goal.right_side-returns-in_default-2
right_side-returns-in_default-2 t c =
    right_none c.args.depth (term c.args.centre.expr) c.args.tokens.now (search rules) (search rules)

pub right_side-returns-in-Some-after : goal.right_side-returns-in-Some-after
right_side-returns-in-Some-after t c =
    let e = right_marked c.args.depth (term c.args.centre.expr) c.args.tokens.now (term c.in-Some-2.result.expr) c.in-Some-2.rest.now c.in-Some-after.behind.now (search rules) (search rules) (search rules) in rw (← e) c.marks-in-Some-after.ensures

pub right_side-returns : goal.right_side-returns
right_side-returns t c =
    ap (λ (v : MappingTerm Raw). Some (v, c.in-Some-2.rest.now)) c.plain.ensures ∙ right_plain c.args.depth (term c.args.centre.expr) c.args.tokens.now (term c.in-Some-2.result.expr) c.in-Some-2.rest.now (search rules) (search rules) (search rules)

pub mapping-returns-in_default : goal.mapping-returns-in_default
mapping-returns-in_default t c =
    mapping_none c.args.depth c.args.arrow c.args.tokens.now (search rules)

pub mapping-returns-in_default-after : goal.mapping-returns-in_default-after
mapping-returns-in_default-after t c =
    mapping_unarrowed c.args.depth c.args.arrow c.args.tokens.now (term c.in-Some.centre.expr) c.in-Some.rest.now (search rules) (search rules)

pub mapping-returns : goal.mapping-returns
mapping-returns t c =
    let e = mapping_is c.args.depth c.args.arrow c.args.tokens.now (term c.in-Some.centre.expr) c.in-Some.rest.now c.in-Some-after.behind.now (search rules) (search rules) in rw (← e) c.right_side.ensures

pub group-returns-in_default : goal.group-returns-in_default
group-returns-in_default t c =
    group_none c.args.depth c.args.optional c.args.tokens.now (search rules)

pub group-returns-in_default-after : goal.group-returns-in_default-after
group-returns-in_default-after t c =
    group_unarrowed c.args.depth c.args.optional c.args.tokens.now (term c.in-Some.centre.expr) c.in-Some.rest.now c.arrow.result (search rules) c.arrow.ensures (search rules)

pub group-returns : goal.group-returns
group-returns t c =
    let e = group_is c.args.depth c.args.optional c.args.tokens.now (term c.in-Some.centre.expr) c.in-Some.rest.now c.arrow.result c.in-Some-after.behind.now (search rules) c.arrow.ensures (search rules) in rw (← e) c.group_tail.ensures

pub restriction-returns : goal.restriction-returns
restriction-returns t c =
    restriction_read c.args.depth (term c.args.centre.expr) c.args.tokens.now c.in-Some.allowed.items c.in-Some.rest.now (term c.in_ok-restriction.field-0.expr) (search rules) c.in_ok-restriction.ensures

pub restriction-returns-in_default : goal.restriction-returns-in_default
restriction-returns-in_default t c =
    restriction_none c.args.depth (term c.args.centre.expr) c.args.tokens.now (search rules)

pub nine-returns-in-Some : goal.nine-returns-in-Some
nine-returns-in-Some t c =
    let e = nine_inserted c.args.depth c.args.tokens.now c.in-Some.behind.now (search rules) in rw (← e) c.insertion.ensures

pub nine-returns-in_default-2 : goal.nine-returns-in_default-2
nine-returns-in_default-2 t c =
    nine_none c.args.depth c.args.tokens.now (search rules) (search rules)

pub nine-returns : goal.nine-returns
nine-returns t c =
    let e = nine_ruled c.args.depth c.args.tokens.now (term c.in-Some-2.centre.expr) c.in-Some-2.rest.now (search rules) (search rules) in rw (← e) c.ruling.ensures
