use Rattle.body_equality.proofs.LexiconTogether.{entries_differ, entries_same}
use Rattle.body_equality.proofs.lexicons.same_lexicon.Goals as goal

pub returns-then-same : goal.returns-then-same
returns-then-same c =
    let entries = rw (c.deref.ensures.value, c.deref-2.ensures.value) at c.in_ok-same.ensures in
    entries_same c.args.numbers.now c.args.other.now c.args.lexicon.now (entries.0 c.if-same.true) c.same_text.result c.same_text.ensures

pub returns-else-same : goal.returns-else-same
returns-else-same c =
    let entries = rw (c.deref.ensures.value, c.deref-2.ensures.value) at c.in_ok-same.ensures in
    entries_differ c.args.numbers.now c.args.other.now c.args.lexicon.now c.in_ok-same.same c.if-same.false entries
