use Rattle.std.proofs.Common.{◌≡◌, ◌==◌, ◌+◌, not, [], ◌∷◌, ◌++◌, length, take, drop, sym, ap, ◌∙◌, arith, rules}
use Rattle.regex_tokens.specs.Cuts.{behind_gap, gap, newlines}
use Rattle.regex_tokens.specs.declared.token.Place.{Place}
use Rattle.regex_tokens.proofs.Lists.{some_of, none_of}
use Rattle.regex_tokens.proofs.Whole.{gap_room, first_room, go_on, whole, no_token, first_shorter, first_is, none_first, same_so_far}
use Rattle.regex_tokens.proofs.lexer.tokens.Goals.{After-split_at}
use Rattle.regex_tokens.proofs.lexer.tokens.Goals as goal

pub line_behind-here-requires : goal.line_behind-here-requires
line_behind-here-requires c = omega (arith, gap_room c.args.comments c.args.line c.args.text.now _ _ c.tokens.here c.tokens.rest.now c.tokens.invariant.0, ap newlines c.split_gap.ensures.front, c.requires)

pub returns-then-is_empty : goal.returns-then-is_empty
returns-then-is_empty c = whole c.args.comments c.args.line c.args.text.now _ _ c.tokens.here c.tokens.rest.now c.tokens.invariant.0 (sym (ap length c.split_gap.ensures.behind) ∙ none_of (length c.split_gap.result.1.now) (sym c.if-is_empty.ensures))

pub returns-in_default : goal.returns-in_default
returns-in_default c =
    no_token c.args.comments c.args.line c.args.text.now _ _ c.tokens.here c.tokens.rest.now c.line_behind-here.result c.tokens.invariant.0
    (λ e. omega (arith, some_of (length c.split_gap.result.1.now) (sym c.if-is_empty.ensures), ap length c.split_gap.ensures.behind, e))
    (none_first c.args.comments c.tokens.rest.now c.split_gap.result.1.now c.in_ok-token.field-0 c.split_gap.ensures.behind c.in_ok-token.ensures c.in_default.is)
    (c.line_behind-here.ensures ∙ ap (λ bs. c.tokens.here + newlines bs) c.split_gap.ensures.front)

pub line_behind-here-requires-in-tokens : goal.line_behind-here-requires-in-tokens
line_behind-here-requires-in-tokens c =
    omega (
      arith,
      first_room c.args.comments c.args.line c.args.text.now _ _ c.tokens.here c.tokens.rest.now c.in-Some.len c.tokens.invariant.0,
      ap newlines c.split_gap.ensures.front,
      c.line_behind-here.ensures,
      ap newlines (c.as_bytes.ensures.value ∙ c.split_at.ensures.front ∙ ap (take c.in-Some.len) c.split_gap.ensures.behind),
      c.requires,
    )

pub tokens-smaller : goal.tokens-smaller
tokens-smaller c =
    let first = first_is c.args.comments c.tokens.rest.now c.split_gap.result.1.now c.in_ok-token.field-0 c.in-Some.token c.in-Some.len c.split_gap.ensures.behind c.in_ok-token.ensures c.in-Some.is in
    omega (arith, first_shorter c.args.comments c.tokens.rest.now c.in-Some.token c.in-Some.len first.0, ap length (c.split_at.ensures.back ∙ ap (drop c.in-Some.len) c.split_gap.ensures.behind))

pub tokens-preserved : goal.tokens-preserved
tokens-preserved c =
    let first = first_is c.args.comments c.tokens.rest.now c.split_gap.result.1.now c.in_ok-token.field-0 c.in-Some.token c.in-Some.len c.split_gap.ensures.behind c.in_ok-token.ensures c.in-Some.is in
    let place : Place = record { line = c.line_behind-here.result; apart = not c.is_empty-in-tokens.result } in
    let at : place.line ≡ c.tokens.here + newlines (gap c.args.comments c.tokens.rest.now) = c.line_behind-here.ensures ∙ ap (λ bs. c.tokens.here + newlines bs) c.split_gap.ensures.front in
    let apart : place.apart ≡ not (length (gap c.args.comments c.tokens.rest.now) == 0) = ap not (c.is_empty-in-tokens.ensures ∙ ap (λ bs. length bs == 0) c.split_gap.ensures.front) in
    let front = c.as_bytes.ensures.value ∙ c.split_at.ensures.front ∙ ap (take c.in-Some.len) c.split_gap.ensures.behind in
    let behind = c.split_at.ensures.back ∙ ap (drop c.in-Some.len) c.split_gap.ensures.behind in (
      same_so_far c.args.comments c.args.line c.args.text.now c.push.new.self.items (c.tokens.tokens.items ++ c.in-Some.token ∷ []) c.push-in-tokens.new.self.items (c.tokens.places.items ++ place ∷ [])
          c.line_behind-here-in-tokens.result (place.line + newlines (take c.in-Some.len (behind_gap c.args.comments c.tokens.rest.now))) c.split_at.result.1.now (drop c.in-Some.len (behind_gap c.args.comments c.tokens.rest.now))
          c.in_ok-push.ensures.items c.in_ok-push-2.ensures.items (c.line_behind-here-in-tokens.ensures ∙ ap (λ bs. place.line + newlines bs) front) behind
          (go_on c.args.comments c.args.line c.args.text.now c.tokens.tokens.items c.tokens.places.items c.tokens.here c.tokens.rest.now c.in-Some.token place c.in-Some.len c.tokens.invariant.0 first.0 at apart),
      search rules,
    )
