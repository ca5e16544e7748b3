use Rattle.std.proofs.Common.{Some, arith, ap, sym, ◌∙◌}
use Rattle.std.proofs.lemmas.Option.{slice_get-get_or}
use Rattle.replace_words.specs.Marked.{IsReplacement}
use Rattle.replace_rules.specs.Places.{rules_by}
use Rattle.replace_rules.proofs.Unions.{numbered_none, numbered_more, numbered_all}
use Rattle.replace_rules.proofs.BlockWords.{replacement_words}
use Rattle.replace_rules.proofs.blocks.replacements.Goals as goal

pub loop-number-init : goal.loop-number-init
loop-number-init c = numbered_none (λ k p. IsReplacement rules_by k p) c.args.places.now c.in_ok-all.all c.in_ok-all.ensures

pub loop-number-preserved : goal.loop-number-preserved
loop-number-preserved c =
    let places = c.args.places.now in
    let k = c.loop-number.number in
    let p = c.index-places-number.result in
    numbered_more (λ k p. IsReplacement rules_by k p) places k p c.loop-number.all c.in_ok-more.more _
    (slice_get-get_or places k p (omega arith) ∙ ap (λ x. Some x) (sym c.index-places-number.is)) c.loop-number.invariant (replacement_words k p c.in_ok-more.more (rw c.maps.ensures at c.in_ok-more.ensures)) c.in_ok-all-2.ensures.language

pub returns : goal.returns
returns c = numbered_all (λ k p. IsReplacement rules_by k p) c.args.places.now c.loop-number.number c.loop-number.all (omega arith) c.loop-number.invariant
