use Rattle.std.proofs.Common.{◌≡◌, ◌+◌, [], ◌∷◌, ◌++◌, length, drop, sym, ap, ◌∙◌, arith, rules}
use Rattle.regex_tokens.specs.Cuts.{newlines}
use Rattle.regex_tokens.proofs.Lists.{some_of, none_of}
use Rattle.twolc_tokens.specs.declared.token.Placed.{Placed}
use Rattle.twolc_tokens.proofs.Whole.{behind_of, gap_of, gap_room, go_on, whole, no_token, first_shorter, first_is, none_first, same_so_far}
use Rattle.twolc_tokens.proofs.lexer.tokens.Goals as goal

pub line_behind-here-requires : goal.line_behind-here-requires
line_behind-here-requires c = omega (arith, gap_room c.args.text.now _ c.tokens.here c.tokens.rest.now c.tokens.invariant.0, ap newlines c.split_gap.ensures.front, c.requires)

pub returns-then-is_empty : goal.returns-then-is_empty
returns-then-is_empty c = whole c.args.text.now _ c.tokens.here c.tokens.rest.now c.tokens.invariant.0 (sym (ap length c.split_gap.ensures.behind) ∙ none_of (length c.split_gap.result.1.now) (sym c.if-is_empty.ensures))

pub returns-in_default : goal.returns-in_default
returns-in_default c =
    no_token c.args.text.now _ c.tokens.here c.tokens.rest.now c.line_behind-here.result c.tokens.invariant.0
    (λ e. omega (arith, some_of (length c.split_gap.result.1.now) (sym c.if-is_empty.ensures), ap length c.split_gap.ensures.behind, e))
    (none_first c.tokens.rest.now c.split_gap.result.1.now c.in_ok-token.field-0 c.split_gap.ensures.behind c.in_ok-token.ensures c.in_default.is)
    (c.line_behind-here.ensures ∙ ap (λ bs. c.tokens.here + newlines bs) c.split_gap.ensures.front)

pub tokens-smaller : goal.tokens-smaller
tokens-smaller c =
    let first = first_is c.tokens.rest.now c.split_gap.result.1.now c.in_ok-token.field-0 c.in-Some.token c.in-Some.len c.split_gap.ensures.behind c.in_ok-token.ensures c.in-Some.is in
    omega (arith, first_shorter c.tokens.rest.now c.in-Some.token c.in-Some.len first.0, ap length (c.split_at.ensures.back ∙ ap (drop c.in-Some.len) c.split_gap.ensures.behind))

pub tokens-preserved : goal.tokens-preserved
tokens-preserved c =
    let first = first_is c.tokens.rest.now c.split_gap.result.1.now c.in_ok-token.field-0 c.in-Some.token c.in-Some.len c.split_gap.ensures.behind c.in_ok-token.ensures c.in-Some.is in
    let place : Placed = record { token = c.in-Some.token; line = c.line_behind-here.result } in
    let at : place.line ≡ c.tokens.here + newlines (gap_of c.tokens.rest.now) = c.line_behind-here.ensures ∙ ap (λ bs. c.tokens.here + newlines bs) c.split_gap.ensures.front in
    let behind = c.split_at.ensures.back ∙ ap (drop c.in-Some.len) c.split_gap.ensures.behind in (
      same_so_far c.args.text.now c.push.new.self.items (c.tokens.tokens.items ++ place ∷ []) c.split_at.result.1.now (drop c.in-Some.len (behind_of c.tokens.rest.now)) c.line_behind-here.result
          c.in_ok-push.ensures.items behind (go_on c.args.text.now c.tokens.tokens.items c.tokens.here c.tokens.rest.now place c.in-Some.len c.tokens.invariant.0 first.0 at),
      search rules,
    )
