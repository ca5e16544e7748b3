use Rattle.std.proofs.Common.{List, arith, ap, sym, ◌∙◌, length}
use Rattle.std.proofs.lemmas.Option.{slice_get-get_or}
use Rattle.std.specs.List.{slice_get}
use Rattle.fsm_base.specs.declared.letters.Pair.{Pair}
use Rattle.grammar_pairs.specs.Fitting.{Fits}
use Rattle.grammar_pairs.specs.Plain.{pair_of}
use Rattle.grammar_pairs.proofs.Fits.{tried_all, tried_more}
use Rattle.grammar_pairs.proofs.fitting.numbers_tried.Goals as goal

pub overflow_cast-place : goal.overflow_cast-place
overflow_cast-place c = omega (arith, c.as_slice-pair-items.ensures.few, ap length c.as_slice-pair-items.ensures.pairs)

pub pairs-preserved : goal.pairs-preserved
pairs-preserved c =
    let i = c.pairs.place in
    tried_more c.args.pairs.now (Fits c.args.sets.now (pair_of c.args.atom.now)) c.pairs.numbers.items c.add_found.new.numbers.items i _ c.number_where.result c.fits-fitting.result
    (ap (λ (z : List Pair). slice_get z i) (sym c.as_slice-pair-items.ensures.pairs) ∙ slice_get-get_or c.as_slice-pair-items.result.now i _ (omega arith))
    c.in_ok-add_found.ensures c.number_where.ensures c.fits-fitting.ensures c.pairs.invariant

pub returns : goal.returns
returns c = tried_all c.args.pairs.now (Fits c.args.sets.now (pair_of c.args.atom.now)) c.pairs.numbers.items c.pairs.place (omega (arith, ap length c.as_slice-pair-items.ensures.pairs)) c.pairs.invariant
