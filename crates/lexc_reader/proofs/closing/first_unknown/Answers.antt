use Rattle.std.proofs.Common.{sym, ◌∙◌}
use Rattle.lexc_reader.proofs.Closings.{known_in, is_none, unknown_in}
use Rattle.lexc_reader.proofs.closing.first_unknown.Goals as goal

pub returns-in-Some : goal.returns-in-Some
returns-in-Some c =
    let first = rw c.deref.ensures.value at c.first_unknown_entry.ensures in
    sym (unknown_in c.args.names.now c.args.lexicons.now c.lexicons.lexicon-index c.lexicon-item.result c.lexicons-test.true c.lexicon-item.is c.in-Some.line (sym first ∙ c.in-Some.is)) ∙ c.lexicons.invariant

pub lexicons-preserved : goal.lexicons-preserved
lexicons-preserved c =
    let first = rw c.deref.ensures.value at c.first_unknown_entry.ensures in
    known_in c.args.names.now c.args.lexicons.now c.lexicons.lexicon-index c.lexicon-item.result c.lexicons-test.true c.lexicon-item.is (sym first ∙ is_none c.first_unknown_entry.result c.in_default.not-Some) ∙ c.lexicons.invariant
