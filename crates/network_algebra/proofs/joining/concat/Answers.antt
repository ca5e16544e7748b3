use Rattle.network_algebra.proofs.Meanings.{concat_of_words, concat_of_pairs, letters_of_words, symbols_of_pairs}
use Rattle.std.proofs.Common.{refl}
use Rattle.network_algebra.specs.declared.operands.Operands.TheVariants.{Pairs as BothPairs}
use Rattle.network_algebra.proofs.Conditions.{both_resolved, resolved_symbols}
use Rattle.network_algebra.proofs.joining.concat.Goals as goal

pub returns-in_ok-concat-in-Words-clause-letters : goal.returns-in_ok-concat-in-Words-clause-letters
returns-in_ok-concat-in-Words-clause-letters c =
    letters_of_words c.args.a c.args.b c.in_ok-x.field-0 c.in_ok-x.ensures c.in-Words.x c.in-Words.y c.in_ok-concat-in-Words.field-0 c.in-Words.is c.in_ok-concat-in-Words.ensures.letters

pub returns-in_ok-concat-in-Words-clause-meaning : goal.returns-in_ok-concat-in-Words-clause-meaning
returns-in_ok-concat-in-Words-clause-meaning c =
    concat_of_words c.args.a c.args.b c.in_ok-x.field-0 c.in_ok-x.ensures c.in-Words.x c.in-Words.y c.in_ok-concat-in-Words.field-0 c.in-Words.is c.in_ok-concat-in-Words.ensures.language

pub returns-in_ok-concat-in-Pairs-clause-letters : goal.returns-in_ok-concat-in-Pairs-clause-letters
returns-in_ok-concat-in-Pairs-clause-letters c =
    symbols_of_pairs c.args.a c.args.b c.in_ok-x.field-0 c.in_ok-x.ensures c.in-Pairs.x c.in-Pairs.y c.in_ok-concat-in-Pairs.field-0 c.in-Pairs.is c.in_ok-concat-in-Pairs.ensures.letters

pub returns-in_ok-concat-in-Pairs-clause-meaning : goal.returns-in_ok-concat-in-Pairs-clause-meaning
returns-in_ok-concat-in-Pairs-clause-meaning c =
    concat_of_pairs c.args.a c.args.b c.in_ok-x.field-0 c.in_ok-x.ensures c.in-Pairs.x c.in-Pairs.y c.in_ok-concat-in-Pairs.field-0 c.in-Pairs.is c.in_ok-concat-in-Pairs.ensures.language

pub returns-in_ok-concat-in-Flagged-clause-letters : goal.returns-in_ok-concat-in-Flagged-clause-letters
returns-in_ok-concat-in-Flagged-clause-letters c =
    let f = c.in-Flagged.x in
    let g = c.in-Flagged.y in
    let front = c.in_ok-front-in-Flagged in
    let back = c.in_ok-back-in-Flagged in
    let plain =
    both_resolved c.args.a c.args.b c.in_ok-x.field-0 c.in_ok-x.ensures f g c.in-Flagged.is front.front back.back front.ensures.relation back.ensures.relation (resolved_symbols f front.front front.ensures.upper front.ensures.lower)
    (resolved_symbols g back.back back.ensures.upper back.ensures.lower) in
    symbols_of_pairs c.args.a c.args.b (BothPairs front.front back.back) plain front.front back.back c.in_ok-concat-in-Flagged.field-0 refl c.in_ok-concat-in-Flagged.ensures.letters

pub returns-in_ok-concat-in-Flagged-clause-meaning : goal.returns-in_ok-concat-in-Flagged-clause-meaning
returns-in_ok-concat-in-Flagged-clause-meaning c =
    let f = c.in-Flagged.x in
    let g = c.in-Flagged.y in
    let front = c.in_ok-front-in-Flagged in
    let back = c.in_ok-back-in-Flagged in
    let plain =
    both_resolved c.args.a c.args.b c.in_ok-x.field-0 c.in_ok-x.ensures f g c.in-Flagged.is front.front back.back front.ensures.relation back.ensures.relation (resolved_symbols f front.front front.ensures.upper front.ensures.lower)
    (resolved_symbols g back.back back.ensures.upper back.ensures.lower) in
    concat_of_pairs c.args.a c.args.b (BothPairs front.front back.back) plain front.front back.back c.in_ok-concat-in-Flagged.field-0 refl c.in_ok-concat-in-Flagged.ensures.language
