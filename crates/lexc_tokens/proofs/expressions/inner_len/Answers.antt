use Rattle.std.proofs.Common.{length, refl, sym, ◌∙◌, arith}
use Rattle.lexc_tokens.specs.Tokens.{inner_len}
use Rattle.lexc_tokens.specs.declared.expressions.Inside.TheVariants.{Nothing}
use Rattle.lexc_tokens.proofs.Insides.{inner_ends, inner_more, inner_is_all}
use Rattle.lexc_tokens.proofs.expressions.inner_len.Goals as goal

pub returns-then-is_end-clause-count : goal.returns-then-is_end-clause-count
returns-then-is_end-clause-count c = inner_ends c.args.text.now c.characters.index (inner_len Nothing c.args.text.now) c.characters.inside c.characters.invariant c.index-text-index.result (omega arith) c.index-text-index.is (sym c.is_end.ensures ∙ c.if-is_end.true)

pub characters-preserved : goal.characters-preserved
characters-preserved c = inner_more c.args.text.now c.characters.index (inner_len Nothing c.args.text.now) c.characters.inside c.characters.invariant c.index-text-index.result (omega arith) c.index-text-index.is c.behind-inside.result (sym c.is_end.ensures ∙ c.if-is_end.false) c.behind-inside.ensures

pub returns-clause-count : goal.returns-clause-count
returns-clause-count c = inner_is_all c.args.text.now c.characters.index (inner_len Nothing c.args.text.now) c.characters.inside c.characters.invariant (length c.args.text.now) refl (omega arith) (omega arith)
