use Rattle.fsa_explore.proofs.Numbered.{numbered_at}
use Rattle.fsa_explore.proofs.table.ListTable.insert.Goals as goal

pub returns-clause-number : goal.returns-clause-number
returns-clause-number c =
    let stored = c.in_ok-number.ensures.stored in
    numbered_at (λ k. k.list.items) c.args.list.items _ c.in_ok-number.number stored.0 stored.1 stored.2
