use Rattle.std.proofs.Common.{Some, arith, ap, sym, ◌∙◌}
use Rattle.std.proofs.lemmas.Option.{slice_get-get_or}
use Rattle.word_relations.specs.Words.{IsOver}
use Rattle.fsa.specs.Complete as complete
use Rattle.fsa.specs.Language.{Accepts}
use Rattle.replace_directed.proofs.Kept.{kept_none, kept_more, kept_all}
use Rattle.replace_directed.proofs.keeping.kept_at_each.Goals as goal

pub kept_at-requires-clause-copies : goal.kept_at-requires-clause-copies
kept_at-requires-clause-copies c = c.requires.copies ∙ sym c.loop-number.invariant.over

pub kept_at-requires-clause-others : goal.kept_at-requires-clause-others
kept_at-requires-clause-others c = c.requires.others ∙ sym c.loop-number.invariant.over

pub loop-number-init : goal.loop-number-init
loop-number-init c =
    let marks = c.args.marks.now in
    kept_none (complete.Accepts c.args.copies.now) (complete.Accepts c.args.others.now) c.args.size c.args.contexts.now marks (λ w. IsOver marks w × Accepts c.args.words.now w) c.in_ok-kept.kept c.in_ok-kept.ensures

pub loop-number-preserved : goal.loop-number-preserved
loop-number-preserved c =
    let marks = c.args.marks.now in
    let contexts = c.args.contexts.now in
    let k = c.loop-number.number in
    let p = c.index-contexts-number.result in
    kept_more (complete.Accepts c.args.copies.now) (complete.Accepts c.args.others.now) c.args.size contexts marks (λ w. IsOver marks w × Accepts c.args.words.now w) k p c.loop-number.kept _
    (slice_get-get_or contexts k p (omega arith) ∙ ap (λ x. Some x) (sym c.index-contexts-number.is)) c.loop-number.invariant c.in_ok-kept-2.ensures

pub returns : goal.returns
returns c =
    let marks = c.args.marks.now in
    kept_all (complete.Accepts c.args.copies.now) (complete.Accepts c.args.others.now) c.args.size c.args.contexts.now marks (λ w. IsOver marks w × Accepts c.args.words.now w) c.loop-number.number c.loop-number.kept (omega arith) c.loop-number.invariant
