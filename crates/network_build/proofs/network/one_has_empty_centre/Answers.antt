use Rattle.std.proofs.Common.{false, refl}
use Rattle.std.proofs.lemmas.List.Elements.{All-contains}
use Rattle.regex_ast.specs.Terms.{term}
use Rattle.expr_kinds.specs.Atoms.{is_symbol_of}
use Rattle.expr_kinds.specs.Built.{IsBuiltBy}
use Rattle.expr_kinds.specs.Kinds.{Fits}
use Rattle.network_centres.specs.Centres.{terms_seen}
use Rattle.network_expr.specs.Parts.{is_leaf_of, kinds}
use Rattle.network_build.proofs.Ones.{next_among, none_at_all, none_more, not_true}
use Rattle.network_build.proofs.network.one_has_empty_centre.Goals as goal

pub has_empty_centre-requires-clause-built : goal.has_empty_centre-requires-clause-built
has_empty_centre-requires-clause-built c =
    All-contains (IsBuiltBy (is_leaf_of c.args.parts.now c.args.alphabet.now) (is_symbol_of c.args.alphabet.now)) (terms_seen c.args.expressions.now) (term c.expr-item.result.now) c.requires.built
    (next_among c.args.expressions.now c.expressions.expr-index c.expr-item.result c.expressions-test.true c.expr-item.is)

pub has_empty_centre-requires-clause-fits : goal.has_empty_centre-requires-clause-fits
has_empty_centre-requires-clause-fits c =
    All-contains (Fits (kinds c.args.parts.now)) (terms_seen c.args.expressions.now) (term c.expr-item.result.now) c.requires.fits
    (next_among c.args.expressions.now c.expressions.expr-index c.expr-item.result c.expressions-test.true c.expr-item.is)

pub returns-then-branch : goal.returns-then-branch
returns-then-branch c =
    let among = next_among c.args.expressions.now c.expressions.expr-index c.expr-item.result c.expressions-test.true c.expr-item.is in
    (λ t. (term c.expr-item.result.now, among, c.in_ok-has_empty_centre.ensures.empty.0 c.if-branch.true), λ h. refl)

pub expressions-preserved : goal.expressions-preserved
expressions-preserved c =
    none_more c.args.expressions.now c.expressions.expr-index c.expr-item.result c.expressions-test.true c.expr-item.is c.args.parts.now c.args.alphabet.now c.expressions.invariant
    (λ empty. not_true c.in_ok-has_empty_centre.field-0 c.if-branch.false (c.in_ok-has_empty_centre.ensures.empty.1 empty))

pub returns : goal.returns
returns c = (
  λ t. absurd (not_true false refl t),
  λ h. absurd (none_at_all c.args.parts.now c.args.alphabet.now c.args.expressions.now c.expressions.expr-index c.expressions-test.false c.expressions.invariant h),
)
