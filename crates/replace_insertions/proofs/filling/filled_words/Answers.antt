use Rattle.std.proofs.Common.{Some, arith, ap, sym, ◌∙◌}
use Rattle.std.proofs.lemmas.Option.{slice_get-get_or}
use Rattle.replace_insertions.proofs.FilledWords.{asked_none, asked_more, asked_all}
use Rattle.replace_insertions.proofs.filling.filled_words.Goals as goal

pub both-requires : goal.both-requires
both-requires c = c.in_ok-once.ensures.over ∙ sym c.in_ok-well.ensures.over

pub loop-number-init : goal.loop-number-init
loop-number-init c =
    asked_none c.args.side c.args.optional c.args.contexts.now c.args.marks.now c.args.words.now c.in_ok-well.well c.in_ok-once.once c.in_ok-kept.kept c.in_ok-well.ensures c.in_ok-once.ensures c.in_ok-kept.ensures

pub loop-number-preserved : goal.loop-number-preserved
loop-number-preserved c =
    let contexts = c.args.contexts.now in
    let k = c.loop-number.number in
    let p = c.index-contexts-number.result in
    asked_more c.args.side c.args.optional contexts c.args.marks.now c.args.words.now k p c.loop-number.kept _
    (slice_get-get_or contexts k p (omega arith) ∙ ap (λ x. Some x) (sym c.index-contexts-number.is)) c.loop-number.invariant c.in_ok-kept-2.ensures

pub returns : goal.returns
returns c = asked_all c.args.side c.args.optional c.args.contexts.now c.args.marks.now c.args.words.now c.loop-number.number c.loop-number.kept (omega arith) c.loop-number.invariant
