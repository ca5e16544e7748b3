use Rattle.std.proofs.lemmas.Result.{IfOk-weaker}
use Rattle.network_sets.proofs.Compositions.{first_only, second_only, composed_words, composed_pairs, composed_symbols, composed_flagged, composed_letters}
use Rattle.network_sets.proofs.composing.compose.Goals as goal

pub both-requires-clause-first : goal.both-requires-clause-first
both-requires-clause-first c = first_only c.args.a c.args.b c.in_ok-x.field-0 c.in_ok-x.ensures c.in-Words.x c.in-Words.y c.in-Words.is c.args.symbols.now c.requires.first

pub both-requires-clause-second : goal.both-requires-clause-second
both-requires-clause-second c = second_only c.args.a c.args.b c.in_ok-x.field-0 c.in_ok-x.ensures c.in-Words.x c.in-Words.y c.in-Words.is c.args.symbols.now c.requires.second

pub returns-in_ok-both-in-Words-clause-meaning : goal.returns-in_ok-both-in-Words-clause-meaning
returns-in_ok-both-in-Words-clause-meaning c =
    composed_words c.args.a c.args.b c.in_ok-x.field-0 c.in_ok-x.ensures c.in-Words.x c.in-Words.y c.in-Words.is c.in_ok-both-in-Words.field-0 c.in_ok-both-in-Words.ensures.words

pub returns-in_ok-compose_reduced-in-Pairs-clause-letters : goal.returns-in_ok-compose_reduced-in-Pairs-clause-letters
returns-in_ok-compose_reduced-in-Pairs-clause-letters c =
    composed_symbols c.args.a c.args.b c.in_ok-x.field-0 c.in_ok-x.ensures c.in-Pairs.x c.in-Pairs.y c.in_ok-compose_reduced-in-Pairs.field-0 c.in-Pairs.is c.in_ok-compose_reduced-in-Pairs.ensures.upper c.in_ok-compose_reduced-in-Pairs.ensures.lower
    c.args.symbols.now c.requires.first c.requires.second

pub returns-in_ok-compose_reduced-in-Pairs-clause-meaning : goal.returns-in_ok-compose_reduced-in-Pairs-clause-meaning
returns-in_ok-compose_reduced-in-Pairs-clause-meaning c =
    composed_pairs c.args.a c.args.b c.in_ok-x.field-0 c.in_ok-x.ensures c.in-Pairs.x c.in-Pairs.y c.in_ok-compose_reduced-in-Pairs.field-0 c.in-Pairs.is c.in_ok-compose_reduced-in-Pairs.ensures.relation

pub returns-in-Flagged-clause-letters : goal.returns-in-Flagged-clause-letters
returns-in-Flagged-clause-letters c =
    IfOk-weaker _ _ _ (λ n letters. composed_letters c.args.a c.args.b c.in_ok-x.field-0 c.in_ok-x.ensures c.in-Flagged.x c.in-Flagged.y n c.in-Flagged.is letters c.args.symbols.now c.requires.first c.requires.second)
    c.compose_flagged.ensures.letters

pub returns-in-Flagged-clause-meaning : goal.returns-in-Flagged-clause-meaning
returns-in-Flagged-clause-meaning c =
    IfOk-weaker _ _ _ (λ n. composed_flagged c.args.a c.args.b c.in_ok-x.field-0 c.in_ok-x.ensures c.in-Flagged.x c.in-Flagged.y n c.in-Flagged.is) c.compose_flagged.ensures.meaning
