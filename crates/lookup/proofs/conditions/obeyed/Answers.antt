use Rattle.lookup.proofs.Obeying.{obeyed_letters, obeyed_words}
use Rattle.lookup.proofs.conditions.obeyed.Goals as goal

pub tapes_of-requires-clause-within : goal.tapes_of-requires-clause-within
tapes_of-requires-clause-within c = rw c.as_slice.ensures.value c.requires.within

pub returns-clause-symbols : goal.returns-clause-symbols
returns-clause-symbols c = λ s held.
    obeyed_letters c.args.rules.now.conditions c.args.part.now.edges.items c.in_ok-tapes.tapes c.in_ok-resolved.resolved c.in_ok-words.words
    (rw c.as_slice.ensures.value at c.in_ok-tapes.ensures.letters) c.in_ok-resolved.ensures.pairs c.in_ok-words.ensures.letters s (c.in_ok-graph.ensures.symbols s held)

pub returns-clause-words : goal.returns-clause-words
returns-clause-words c = λ w.
    let same = obeyed_words c.args.rules.now.conditions c.args.part.now.edges.items c.in_ok-tapes.tapes c.in_ok-resolved.resolved c.in_ok-words.words c.flags.result.now c.flags.ensures
    (rw c.as_slice.ensures.value at c.in_ok-tapes.ensures.language) c.in_ok-resolved.ensures.relation c.in_ok-words.ensures.language w in
    (λ h. same.0 ((c.in_ok-graph.ensures.words w).0 h), λ h. (c.in_ok-graph.ensures.words w).1 (same.1 h))
