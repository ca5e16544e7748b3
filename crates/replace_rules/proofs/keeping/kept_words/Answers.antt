use Rattle.std.proofs.Common.{Some, arith, ap, sym, ◌∙◌}
use Rattle.std.proofs.lemmas.Option.{slice_get-get_or}
use Rattle.word_relations.specs.Words.{IsOver}
use Rattle.fsa.specs.Language.{Accepts}
use Rattle.replace_rules.proofs.KeptWords.{kept_none, kept_more, kept_all}
use Rattle.replace_rules.proofs.keeping.kept_words.Goals as goal

pub loop-number-init : goal.loop-number-init
loop-number-init c =
    let marks = c.args.marks.now in
    kept_none c.args.optional c.args.places.now marks (λ w. IsOver marks w × Accepts c.args.words.now w) c.in_ok-kept.kept c.in_ok-kept.ensures

pub loop-number-preserved : goal.loop-number-preserved
loop-number-preserved c =
    let marks = c.args.marks.now in
    let places = c.args.places.now in
    let k = c.loop-number.number in
    let p = c.index-places-number.result in
    kept_more c.args.optional places marks (λ w. IsOver marks w × Accepts c.args.words.now w) k p c.loop-number.kept _
    (slice_get-get_or places k p (omega arith) ∙ ap (λ x. Some x) (sym c.index-places-number.is)) c.loop-number.invariant c.in_ok-kept-2.ensures

pub returns : goal.returns
returns c =
    let marks = c.args.marks.now in
    kept_all c.args.optional c.args.places.now marks (λ w. IsOver marks w × Accepts c.args.words.now w) c.loop-number.number c.loop-number.kept (omega arith) c.loop-number.invariant
