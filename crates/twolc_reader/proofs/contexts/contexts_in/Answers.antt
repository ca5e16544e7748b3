use Rattle.std.proofs.Common.{sym, ◌∙◌, arith}
use Rattle.twolc_grammar.specs.Sections.{tokens_of}
use Rattle.twolc_reader.proofs.Rest.{begun, part_said, part_missing, no_underscore, no_semicolon, no_left, no_right, go_on, failed, ended, shorter}
use Rattle.twolc_reader.proofs.contexts.contexts_in.Goals as goal

pub contexts-init : goal.contexts-init
contexts-init c = begun c.args.names.now (tokens_of c.args.tokens.now) c.new-found.result.items c.new-found.ensures.items

pub returns-in_default : goal.returns-in_default
returns-in_default c =
    failed c.args.names.now (tokens_of c.args.tokens.now) (tokens_of c.contexts.rest.now) c.contexts.found.items
    (no_underscore c.args.names.now c.contexts.rest.now (sym c.contexts-test.true ∙ c.is_empty.ensures) c.in_default.ensures) c.contexts.invariant

pub returns-in_default-split_at_separator : goal.returns-in_default-split_at_separator
returns-in_default-split_at_separator c =
    failed c.args.names.now (tokens_of c.args.tokens.now) (tokens_of c.contexts.rest.now) c.contexts.found.items
    (no_semicolon c.args.names.now (tokens_of c.contexts.rest.now) (tokens_of c.in-Some.left.now) (tokens_of c.in-Some.behind.now) c.in-Some.ensures c.in_default-split_at_separator.ensures) c.contexts.invariant

pub returns-in_default-2 : goal.returns-in_default-2
returns-in_default-2 c =
    failed c.args.names.now (tokens_of c.args.tokens.now) (tokens_of c.contexts.rest.now) c.contexts.found.items
    (no_left c.args.names.now (tokens_of c.contexts.rest.now) (tokens_of c.in-Some.left.now) (tokens_of c.in-Some.behind.now) c.in-Some.ensures
    (part_missing c.args.names.now (tokens_of c.in-Some.left.now) c.in_ok-left.field-0 c.in_default-2.is c.in_ok-left.ensures)) c.contexts.invariant

pub returns-in_default-3 : goal.returns-in_default-3
returns-in_default-3 c =
    failed c.args.names.now (tokens_of c.args.tokens.now) (tokens_of c.contexts.rest.now) c.contexts.found.items
    (no_right c.args.names.now (tokens_of c.contexts.rest.now) (tokens_of c.in-Some.left.now) (tokens_of c.in-Some.behind.now) c.in-Some.ensures (tokens_of c.in-Some-split_at_separator.right.now) (tokens_of c.in-Some-split_at_separator.more.now) c.in-Some-split_at_separator.ensures
    (part_missing c.args.names.now (tokens_of c.in-Some-split_at_separator.right.now) c.in_ok-right.field-0 c.in_default-3.is c.in_ok-right.ensures)) c.contexts.invariant

pub contexts-preserved : goal.contexts-preserved
contexts-preserved c =
    go_on c.args.names.now (tokens_of c.contexts.rest.now) (tokens_of c.in-Some.left.now) (tokens_of c.in-Some.behind.now) c.in-Some.ensures (tokens_of c.in-Some-split_at_separator.right.now) (tokens_of c.in-Some-split_at_separator.more.now) c.in-Some-split_at_separator.ensures
    (tokens_of c.args.tokens.now) c.contexts.found.items c.push.new.self.items (record { left = c.in-Some-2.left; right = c.in-Some-3.right })
    (part_said c.args.names.now (tokens_of c.in-Some.left.now) c.in_ok-left.field-0 c.in-Some-2.left c.in-Some-2.is c.in_ok-left.ensures)
    (part_said c.args.names.now (tokens_of c.in-Some-split_at_separator.right.now) c.in_ok-right.field-0 c.in-Some-3.right c.in-Some-3.is c.in_ok-right.ensures) c.in_ok-push.ensures.items c.contexts.invariant

pub contexts-smaller : goal.contexts-smaller
contexts-smaller c =
    omega (arith, shorter c.contexts.rest.now c.in-Some.behind.now (tokens_of c.in-Some.left.now) _ c.in-Some.ensures.1, shorter c.in-Some.behind.now c.in-Some-split_at_separator.more.now (tokens_of c.in-Some-split_at_separator.right.now) _ c.in-Some-split_at_separator.ensures.1)

pub returns : goal.returns
returns c = ended c.args.names.now (tokens_of c.args.tokens.now) c.contexts.rest.now c.contexts.found.items (sym c.contexts-test.false ∙ c.is_empty.ensures) c.contexts.invariant
