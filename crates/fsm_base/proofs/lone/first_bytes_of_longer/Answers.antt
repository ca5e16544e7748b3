use Rattle.std.proofs.Common.{◌≡◌, ◌+◌, Bool, List, length, take, ap, sym, subst, ◌∙◌, arith}
use Rattle.std.proofs.lemmas.List.{take_all}
use Rattle.fsm_base.specs.Lone.{MarksLonger}
use Rattle.fsm_base.specs.Sorted.{texts_in}
use Rattle.fsm_base.specs.declared.longest.Entry.{Entry}
use Rattle.fsm_base.proofs.LoneLemmas.{lent_back, marks_more}
use Rattle.fsm_base.proofs.lone.first_bytes_of_longer.Goals as goal

pub loop-entry-preserved : goal.loop-entry-preserved
loop-entry-preserved c =
    let entries = c.args.entries.now in
    let i = c.loop-entry.entry-index in
    let old = c.loop-entry.longer in
    let new = c.mark_longer.new.longer in
    let back = lent_back new old.items old.len (omega (arith, old.ok, c.loop-entry.invariant.count, c.mark_longer.ensures.count)) in
    let text : c.as_bytes.result.now ≡ c.entry-item.result.text = c.as_bytes.ensures.value ∙ c.as_str.ensures in
    record {
      count = ap length back ∙ c.mark_longer.ensures.count;
      marked = subst (λ (longer : List Bool). MarksLonger (texts_in (take (i + 1) entries)) longer) (sym back)
          (marks_more entries i c.entry-item.result old.items new c.loop-entry-test.true c.entry-item.is
          (rw c.deref_mut.ensures.value at c.mark_longer.ensures.kept) (λ byte next rest is. c.mark_longer.ensures.marked byte next rest (text ∙ is)) c.loop-entry.invariant.marked);
    }

pub returns-clause-marked : goal.returns-clause-marked
returns-clause-marked c =
    subst (λ (es : List Entry). MarksLonger (texts_in es) c.loop-entry.longer.items) (take_all c.loop-entry.entry-index c.args.entries.now c.loop-entry-test.false) c.loop-entry.invariant.marked
