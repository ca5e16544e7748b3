use Rattle.fst_algebra.specs.Relation.{IsRelated}
use Rattle.word_relations.specs.Relations.{IsLower}
use Rattle.network_algebra.specs.Networks.{PairsOf}
use Rattle.network_algebra.proofs.Meanings.{side_words, side_letters, lower_same}
use Rattle.network_algebra.proofs.sides.lower.Goals as goal

pub returns-clause-letters : goal.returns-clause-letters
returns-clause-letters c symbols ok =
    side_letters symbols c.in_ok-with_edge.field-0 c.in_ok-side.side c.in_ok-with_edge.ensures.letters (λ s used. (c.in_ok-into_pairs.ensures.symbols symbols ok).lower s (c.in_ok-side.ensures.letters s used))

pub returns-clause-meaning : goal.returns-clause-meaning
returns-clause-meaning c =
    side_words c.in_ok-with_edge.field-0 c.in_ok-side.side (IsLower (IsRelated c.in_ok-into_pairs.field-0)) (IsLower (PairsOf c.args.network)) c.in_ok-with_edge.ensures.words c.in_ok-side.ensures.language
    (lower_same (IsRelated c.in_ok-into_pairs.field-0) (PairsOf c.args.network) c.in_ok-into_pairs.ensures.pairs)
