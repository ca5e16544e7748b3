use Rattle.network_algebra.proofs.Meanings.{union_of_words, union_of_pairs, letters_of_words, symbols_of_pairs}
use Rattle.std.proofs.lemmas.Result.{IfOk-weaker}
use Rattle.network_algebra.proofs.Conditions.{union_of_either, letters_of_either}
use Rattle.network_algebra.proofs.joining.union.Goals as goal

pub returns-in_ok-union-in-Words-clause-letters : goal.returns-in_ok-union-in-Words-clause-letters
returns-in_ok-union-in-Words-clause-letters c =
    letters_of_words c.args.a c.args.b c.in_ok-x.field-0 c.in_ok-x.ensures c.in-Words.x c.in-Words.y c.in_ok-union-in-Words.field-0 c.in-Words.is c.in_ok-union-in-Words.ensures.letters

pub returns-in_ok-union-in-Words-clause-meaning : goal.returns-in_ok-union-in-Words-clause-meaning
returns-in_ok-union-in-Words-clause-meaning c =
    union_of_words c.args.a c.args.b c.in_ok-x.field-0 c.in_ok-x.ensures c.in-Words.x c.in-Words.y c.in_ok-union-in-Words.field-0 c.in-Words.is c.in_ok-union-in-Words.ensures.language

pub returns-in_ok-union-in-Pairs-clause-letters : goal.returns-in_ok-union-in-Pairs-clause-letters
returns-in_ok-union-in-Pairs-clause-letters c =
    symbols_of_pairs c.args.a c.args.b c.in_ok-x.field-0 c.in_ok-x.ensures c.in-Pairs.x c.in-Pairs.y c.in_ok-union-in-Pairs.field-0 c.in-Pairs.is c.in_ok-union-in-Pairs.ensures.letters

pub returns-in_ok-union-in-Pairs-clause-meaning : goal.returns-in_ok-union-in-Pairs-clause-meaning
returns-in_ok-union-in-Pairs-clause-meaning c =
    union_of_pairs c.args.a c.args.b c.in_ok-x.field-0 c.in_ok-x.ensures c.in-Pairs.x c.in-Pairs.y c.in_ok-union-in-Pairs.field-0 c.in-Pairs.is c.in_ok-union-in-Pairs.ensures.language

pub returns-in-Flagged-clause-letters : goal.returns-in-Flagged-clause-letters
returns-in-Flagged-clause-letters c =
    IfOk-weaker _ _ _ (letters_of_either c.args.a c.args.b c.in_ok-x.field-0 c.in_ok-x.ensures c.in-Flagged.x c.in-Flagged.y c.in-Flagged.is) c.union_of_flagged.ensures.letters

pub returns-in-Flagged-clause-meaning : goal.returns-in-Flagged-clause-meaning
returns-in-Flagged-clause-meaning c =
    IfOk-weaker _ _ _ (union_of_either c.args.a c.args.b c.in_ok-x.field-0 c.in_ok-x.ensures c.in-Flagged.x c.in-Flagged.y c.in-Flagged.is) c.union_of_flagged.ensures.meaning
