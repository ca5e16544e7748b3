use Rattle.std.proofs.Common.{refl}
use Rattle.fsa.specs.Language.{Accepts}
use Rattle.expr_meaning.specs.Operators.{inner}
use Rattle.expr_kinds.specs.declared.form.Kind.TheVariants.{Relation}
use Rattle.network_algebra.proofs.Meanings.{crossed_pairs, crossed_symbols, pairs_for}
use Rattle.network_algebra.proofs.sides.cross.Goals as goal

pub returns-clause-letters : goal.returns-clause-letters
returns-clause-letters c =
    crossed_symbols c.args.a.now c.args.b.now c.in_ok-inside.field-0 c.in_ok-inside-2.field-0 c.in_ok-pairs.pairs c.in_ok-pairs.ensures.upper c.in_ok-pairs.ensures.lower c.in_ok-inside.ensures.letters c.in_ok-inside-2.ensures.letters

pub returns-clause-meaning : goal.returns-clause-meaning
returns-clause-meaning c =
    let a = c.args.a.now in
    let b = c.args.b.now in
    pairs_for Relation c.in_ok-pairs.pairs (λ w. Accepts a w × Accepts b w) (λ u w. Accepts a (inner u) × Accepts b (inner w)) refl
    (crossed_pairs a b c.in_ok-inside.field-0 c.in_ok-inside-2.field-0 c.in_ok-pairs.pairs c.in_ok-pairs.ensures.relation c.in_ok-inside.ensures.words c.in_ok-inside-2.ensures.words)
