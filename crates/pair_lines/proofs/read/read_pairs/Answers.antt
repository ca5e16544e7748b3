use Rattle.std.proofs.Common.{[], ◌∷◌, ◌++◌, List, ap, map, refl, subst, sym, ◌∙◌, ℕ, length, arith}
use Rattle.std.proofs.lemmas.List.{map-append}
use Rattle.regex_ast.specs.declared.expr.Raw.{Raw}
use Rattle.regex_tokens.proofs.Lists.{none_of, some_of}
use Rattle.project_meaning.specs.Trees.{Pair}
use Rattle.twolc_expressions.specs.Views.{pair_view}
use Rattle.pair_lines.specs.Reading.{behind_blanks}
use Rattle.pair_lines.proofs.Strings.{ReadSoFar, none_there, one_there, read_begin, read_more, read_not, read_smaller, read_whole}
use Rattle.pair_lines.proofs.read.read_pairs.Goals as goal

pub pairs-init : goal.pairs-init
pairs-init c = (
  subst (λ (z : List ℕ). ReadSoFar c.args.line.now z (map pair_view c.new-pairs.result.items)) (sym c.behind_blanks-rest.ensures)
      (subst (λ (ps : List (Pair Raw)). ReadSoFar c.args.line.now (behind_blanks c.args.line.now) ps) (ap (map pair_view) (sym c.new-pairs.ensures.items)) (read_begin c.args.line.now)),
  c.behind_blanks-rest.utf8,
)

pub returns-in_default-clause-error : goal.returns-in_default-clause-error
returns-in_default-clause-error c =
    let rest = c.pairs.rest.now in
    let some = some_of (length rest) (sym c.is_empty.ensures ∙ c.pairs-test.true) in
    (refl, refl, read_not c.args.line.now rest (map pair_view c.pairs.pairs.items) c.pairs.invariant.0 some (none_there rest c.split_word.result.0.now c.in_ok-pair.field-0 c.split_word.ensures.word c.in_ok-pair.ensures c.in_default.is))

pub pairs-smaller : goal.pairs-smaller
pairs-smaller c =
    let rest = c.pairs.rest.now in
    let some = some_of (length rest) (sym c.is_empty.ensures ∙ c.pairs-test.true) in
    let less = read_smaller rest c.pairs.invariant.0.clear some in
    let is = ap length (c.behind_blanks-rest-in-pairs.ensures ∙ ap behind_blanks c.split_word.ensures.behind) in
    omega (arith, less, is)

pub pairs-preserved : goal.pairs-preserved
pairs-preserved c =
    let rest = c.pairs.rest.now in
    let line = c.args.line.now in
    let pairs = map pair_view c.pairs.pairs.items in
    let p = pair_view c.in-Some.pair in
    let some = some_of (length rest) (sym c.is_empty.ensures ∙ c.pairs-test.true) in
    let one = one_there rest c.split_word.result.0.now c.in_ok-pair.field-0 c.in-Some.pair c.split_word.ensures.word c.in_ok-pair.ensures c.in-Some.is in
    let more = read_more line rest pairs p c.pairs.invariant.0 some one in (
      subst (λ (ps : List (Pair Raw)). ReadSoFar line c.behind_blanks-rest-in-pairs.result.now ps) (sym (ap (map pair_view) c.in_ok-push.ensures.items ∙ map-append pair_view c.pairs.pairs.items (c.in-Some.pair ∷ [])))
          (subst (λ (z : List ℕ). ReadSoFar line z (pairs ++ p ∷ [])) (sym (c.behind_blanks-rest-in-pairs.ensures ∙ ap behind_blanks c.split_word.ensures.behind)) more),
      c.behind_blanks-rest-in-pairs.utf8,
    )

pub returns-clause-pairs : goal.returns-clause-pairs
returns-clause-pairs c =
    let rest = c.pairs.rest.now in
    read_whole c.args.line.now rest (map pair_view c.pairs.pairs.items) c.pairs.invariant.0 (none_of (length rest) (sym c.is_empty.ensures ∙ c.pairs-test.false))
