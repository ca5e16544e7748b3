use Rattle.std.proofs.Common.{◌≡◌, ◌<◌, ◌≤◌, Some, length, get_or, ◌∙◌, sym, ap, arith}
use Rattle.std.specs.List.{slice_get}
use Rattle.std.proofs.lemmas.List.{length-set}
use Rattle.std.proofs.lemmas.Option.{slice_get-get_or, slice_get_within}
use Rattle.word_relations.proofs.Places.{slice_get-set_same}
use Rattle.fsa_reduce.proofs.Trims.{only_more, all_more, numbering_all}
use Rattle.fsa_reduce.proofs.trimming.numbers_of.Goals as goal

pub loop-number-preserved : goal.loop-number-preserved
loop-number-preserved c =
    let order = c.args.kept.now.found in
    let numbers = c.loop-number.numbers.items in
    let i = c.loop-number.number in
    let k = get_or c.found-state-items.result.now i 0 in
    let within : i < length order = rw c.found-state-items.ensures.found at c.loop-number-test.true in
    let same : get_or order i 0 ≡ k = ap (λ ks. get_or ks i 0) (sym c.found-state-items.ensures.found) in
    let at : slice_get order i ≡ Some k = slice_get-get_or order i 0 within ∙ ap Some same in
    let inside = c.found-state-items.ensures.bounded.within i 0 within in
    let below : k < length numbers = let bound = c.requires.states in let count = c.loop-number.invariant.count in omega arith in
    record {
      count = length-set numbers k (Some i) ∙ c.loop-number.invariant.count;
      only = only_more order i k within at numbers below c.loop-number.invariant.only;
      all = all_more order i k within at numbers below c.loop-number.invariant.all;
    }

pub returns : goal.returns
returns c =
    let order = c.args.kept.now.found in
    let numbers = c.loop-number.numbers.items in
    let some : 0 < length order = slice_get_within order 0 0 c.requires.start in
    let inside = c.found-state-items.ensures.bounded.within 0 0 some in
    let there : 0 < length numbers = let bound = c.requires.states in let count = c.loop-number.invariant.count in omega arith in
    let past : length order ≤ c.loop-number.number = rw c.found-state-items.ensures.found at c.loop-number-test.false in
    record {
      start = slice_get-set_same numbers 0 (Some 0) there;
      count = length-set numbers 0 (Some 0) ∙ c.loop-number.invariant.count;
      numbering = numbering_all order c.requires.start numbers there c.loop-number.invariant.only c.loop-number.number past c.loop-number.invariant.all;
    }
