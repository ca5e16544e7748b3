use Rattle.std.proofs.Common.{arith, ap, rules}
use Rattle.fsm_io.specs.Buffers.{BufferView}
use Rattle.fsm_io.specs.Gather.{most_kept}
use Rattle.fsm_io.proofs.Streams.{told_start}
use Rattle.fsm_io.proofs.lines.Lines.open.Goals as goal

pub invariant_of-result : goal.invariant_of-result
unfolding most_kept
invariant_of-result c = (
  ap (λ (b : BufferView). b.room) c.in_ok-new-2.ensures,
  rw c.in_ok-new-2.ensures (omega arith),
  λ is. cc,
  rw c.in_ok-new.ensures (omega arith),
)

pub returns-clause-told : goal.returns-clause-told
returns-clause-told c = λ left. told_start left _ _ (search rules)
