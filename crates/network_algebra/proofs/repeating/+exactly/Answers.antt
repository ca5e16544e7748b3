use Rattle.std.proofs.Common.{◌/◌, ◌+◌, arith}
use Rattle.std.proofs.lemmas.Result.{IfOk-weaker}
use Rattle.fsa.specs.Language.{Accepts}
use Rattle.network_algebra.proofs.Counted.{power_none, power_sum, one_time}
use Rattle.network_algebra.proofs.Meanings.{none_used, joined_used}
use Rattle.network_algebra.proofs.repeating.+exactly.Goals as goal

pub returns-then-count-eq0-clause-letters : goal.returns-then-count-eq0-clause-letters
returns-then-count-eq0-clause-letters g t c = IfOk-weaker _ _ _ (none_used c.args.m.now) c.word.ensures.letters

pub returns-then-count-eq0-clause-language : goal.returns-then-count-eq0-clause-language
returns-then-count-eq0-clause-language g t c = IfOk-weaker _ _ _ (λ p language. power_none p (Accepts c.args.m.now) c.args.count (omega arith) language) c.word.ensures.language

pub returns-then-count-eq0-2-clause-letters : goal.returns-then-count-eq0-2-clause-letters
returns-then-count-eq0-2-clause-letters g t c =
    joined_used c.args.m.now c.in_ok-half.half c.in_ok-half.half c.in_ok-twice.twice c.in_ok-half.ensures.letters c.in_ok-half.ensures.letters c.in_ok-twice.ensures.letters

pub returns-then-count-eq0-2-clause-language : goal.returns-then-count-eq0-2-clause-language
returns-then-count-eq0-2-clause-language g t c =
    power_sum c.in_ok-twice.twice (Accepts c.args.m.now) c.in_ok-half.half c.in_ok-half.half (c.args.count / 2) (c.args.count / 2) c.args.count (omega arith) c.in_ok-twice.ensures.language c.in_ok-half.ensures.language c.in_ok-half.ensures.language

pub returns-clause-letters : goal.returns-clause-letters
returns-clause-letters g t c =
    let m = c.args.m.now in
    let half = c.in_ok-half.half in
    let twice = c.in_ok-twice.twice in
    IfOk-weaker _ _ _ (λ p. joined_used m twice m p (joined_used m half half twice c.in_ok-half.ensures.letters c.in_ok-half.ensures.letters c.in_ok-twice.ensures.letters) (λ x h. h)) c.concat-2.ensures.letters

pub returns-clause-language : goal.returns-clause-language
returns-clause-language g t c =
    let P = Accepts c.args.m.now in
    let half = c.args.count / 2 in
    let twice = power_sum c.in_ok-twice.twice P c.in_ok-half.half c.in_ok-half.half half half (half + half) (omega arith) c.in_ok-twice.ensures.language c.in_ok-half.ensures.language c.in_ok-half.ensures.language in
    IfOk-weaker _ _ _ (λ p language. power_sum p P c.in_ok-twice.twice c.args.m.now (half + half) 1 c.args.count (omega arith) language twice (one_time P)) c.concat-2.ensures.language
