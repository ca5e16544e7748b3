use Rattle.std.proofs.Common.{length, subst, sym, List, Bool}
use Rattle.lookup.specs.Reached.{IsExplored}
use Rattle.lookup.specs.Steps.{Steps}
use Rattle.lookup.proofs.Paths.{part_words, part_within, part_symbols, part_start}
use Rattle.lookup.proofs.part.reached.Goals as goal

pub returns-clause-within : goal.returns-clause-within
returns-clause-within c =
    rw (c.into_edges.ensures, c.len-count.ensures.count) (part_within c.args.table.now c.args.finals.now c.args.word.now c.in_ok-explored.explored c.in_ok-explored.ensures)

pub returns-clause-start : goal.returns-clause-start
returns-clause-start c = rw c.len-count.ensures.count (part_start c.args.table.now c.args.finals.now c.args.word.now c.in_ok-explored.explored c.in_ok-explored.ensures)

pub returns-clause-symbols : goal.returns-clause-symbols
returns-clause-symbols c = rw c.into_edges.ensures (part_symbols c.args.table.now c.args.finals.now c.args.word.now c.in_ok-explored.explored c.in_ok-explored.ensures)

pub returns-clause-words : goal.returns-clause-words
returns-clause-words c = λ direction m written are ends.
    let explored = subst (λ (fs : List Bool). IsExplored (Steps c.args.table.now fs c.args.word.now) (length c.in_ok-explored.explored.configs) c.in_ok-explored.explored) (sym ends) c.in_ok-explored.ensures in
    rw c.into_edges.ensures (part_words direction m c.args.table.now are c.args.word.now c.in_ok-explored.explored explored written)
