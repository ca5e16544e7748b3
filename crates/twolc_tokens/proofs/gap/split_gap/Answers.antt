use Rattle.std.proofs.Common.{◌-◌, take, refl, length, ap, ◌∙◌, arith}
use Rattle.regex_tokens.specs.declared.comments.Comments.TheVariants.{OfEntries}
use Rattle.regex_tokens.proofs.Gaps.{gap_is, behind_within}
use Rattle.twolc_tokens.proofs.gap.split_gap.Goals as goal

pub overflow_sub-text : goal.overflow_sub-text
overflow_sub-text c = omega (arith, ap length c.behind_gap-behind.ensures, behind_within OfEntries c.args.text.now)

pub returns-clause-front : goal.returns-clause-front
returns-clause-front c = c.split_at.ensures.front ∙ ap (take (length c.args.text.now - length c.behind_gap-behind.result.now)) c.as_bytes.ensures.value ∙ gap_is OfEntries c.args.text.now c.behind_gap-behind.result.now _ c.behind_gap-behind.ensures refl
