use Rattle.std.proofs.Common.{◌/◌, ◌-◌, arith}
use Rattle.std.proofs.lemmas.Result.{IfOk-weaker}
use Rattle.fsa.specs.Language.{Accepts}
use Rattle.network_algebra.proofs.Counted.{at_most_none, at_most_sum}
use Rattle.network_algebra.proofs.Meanings.{none_used, joined_used}
use Rattle.network_algebra.proofs.repeating.+at_most.Goals as goal

pub returns-then-count-eq0-clause-letters : goal.returns-then-count-eq0-clause-letters
returns-then-count-eq0-clause-letters g t c = IfOk-weaker _ _ _ (none_used c.args.m.now) c.word.ensures.letters

pub returns-then-count-eq0-clause-language : goal.returns-then-count-eq0-clause-language
returns-then-count-eq0-clause-language g t c = IfOk-weaker _ _ _ (λ p language. at_most_none p (Accepts c.args.m.now) c.args.count (omega arith) language) c.word.ensures.language

pub returns-clause-letters : goal.returns-clause-letters
returns-clause-letters g t c =
    let m = c.args.m.now in
    let fewer = c.in_ok-fewer.fewer in
    let more = c.in_ok-more.more in
    IfOk-weaker _ _ _ (λ p. joined_used m fewer more p c.in_ok-fewer.ensures.letters (joined_used m c.in_ok-half.half fewer more c.in_ok-half.ensures.letters c.in_ok-fewer.ensures.letters c.in_ok-more.ensures.letters)) c.union.ensures.letters

pub returns-clause-language : goal.returns-clause-language
returns-clause-language g t c =
    let count = c.args.count in
    let fewer = count / 2 in
    IfOk-weaker _ _ _ (λ p language. at_most_sum p (Accepts c.args.m.now) c.in_ok-fewer.fewer c.in_ok-half.half c.in_ok-more.more fewer (count - fewer) count (omega arith) (omega arith) language c.in_ok-more.ensures.language c.in_ok-half.ensures.language c.in_ok-fewer.ensures.language) c.union.ensures.language
