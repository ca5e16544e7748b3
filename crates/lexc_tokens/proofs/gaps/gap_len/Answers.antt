use Rattle.std.proofs.Common.{length, refl, sym, ◌∙◌, arith}
use Rattle.lexc_tokens.proofs.Blanks.{gap_ends, gap_more, gap_is_all}
use Rattle.lexc_tokens.proofs.gaps.gap_len.Goals as goal

pub returns-then-not-is_in_gap : goal.returns-then-not-is_in_gap
returns-then-not-is_in_gap c = gap_ends c.args.text.now c.gap.index c.gap.inside c.gap.invariant c.index-text-index.result (omega arith) c.index-text-index.is (sym c.is_in_gap.ensures ∙ c.if-not-is_in_gap.true)

pub gap-preserved : goal.gap-preserved
gap-preserved c = gap_more c.args.text.now c.gap.index c.gap.inside c.gap.invariant c.index-text-index.result (omega arith) c.index-text-index.is c.is_in_comment-inside.result (sym c.is_in_gap.ensures ∙ c.if-not-is_in_gap.false) c.is_in_comment-inside.ensures

pub returns : goal.returns
returns c = gap_is_all c.args.text.now c.gap.index c.gap.inside c.gap.invariant (length c.args.text.now) refl (omega arith)
