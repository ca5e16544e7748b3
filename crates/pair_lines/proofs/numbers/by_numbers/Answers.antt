use Rattle.std.proofs.Common.{ap, ◌+◌, ◌∙◌}
use Rattle.twolc_expressions.specs.Views.{pair_view}
use Rattle.pair_lines.specs.Strings.{letter_of}
use Rattle.pair_lines.proofs.Numbering.{numbered_step, numbered_stop}
use Rattle.pair_lines.proofs.numbers.by_numbers.Goals as goal

pub returns-in_default : goal.returns-in_default
returns-in_default c =
    numbered_stop c.args.numbers.now c.args.pairs.now (λ p. letter_of (pair_view p)) c.args.string.now c.pairs.pair-index c.pair-item.result c.pairs-test.true c.pair-item.is c.pairs.word.items (c.len.result + 1)
    c.pairs.invariant c.in_default.ensures (ap (λ n. n + 1) (c.len.ensures ∙ c.pairs.word.ok.0))

pub pairs-preserved : goal.pairs-preserved
pairs-preserved c =
    numbered_step c.args.numbers.now c.args.pairs.now (λ p. letter_of (pair_view p)) c.args.string.now c.pairs.pair-index c.pair-item.result c.pairs-test.true c.pair-item.is c.pairs.word.items c.push.new.self.items
    c.in-Some.pair c.pairs.invariant c.in-Some.ensures.0 c.in-Some.ensures.1 c.in_ok-push.ensures.items
