use Rattle.std.proofs.Common.{◌≡◌, true, arith, rules}
use Rattle.fsm_io.proofs.Taking.{line_taken, line_refused, none_taken}
use Rattle.fsm_io.proofs.lines.Lines.take_line.Goals as goal

pub returns-then-not-tells_line-clause-taken : goal.returns-then-not-tells_line-clause-taken
returns-then-not-tells_line-clause-taken g c =
    none_taken _ _ _ _ _ _ _ _ _ (λ is. let told : c.tells_line.result ≡ true = c.tells_line.ensures.1 is in first_of (cc, grind arith)) c.advance_into-event.ensures.next

pub returns-then-lacks-clause-taken : goal.returns-then-lacks-clause-taken
returns-then-lacks-clause-taken g c =
    let told : c.tells_line.result ≡ true = first_of (cc, search rules, grind arith) in
    line_refused _ _ _ _ _ _ _ _ _ _ _ _ (c.tells_line.ensures.0 told) c.advance_into-event.ensures.next c.put.ensures

pub returns-clause-taken : goal.returns-clause-taken
returns-clause-taken g c =
    let told : c.tells_line.result ≡ true = first_of (cc, search rules, grind arith) in
    line_taken _ _ _ _ _ _ _ _ _ _ _ (c.tells_line.ensures.0 told) c.advance_into-event.ensures.next c.put.ensures c.if-lacks.false
