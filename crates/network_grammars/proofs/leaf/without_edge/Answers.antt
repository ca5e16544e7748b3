use Rattle.std.proofs.lemmas.Result.{IfOk-weaker}
use Rattle.network_grammars.proofs.LeafWords.{edge_only, edge_words}
use Rattle.network_grammars.proofs.leaf.without_edge.Goals as goal

pub returns-clause-letters : goal.returns-clause-letters
returns-clause-letters c = IfOk-weaker _ _ _ (λ m. edge_only c.args.words.now m c.in_ok-inside.field-0 c.in_ok-inside.ensures.letters) c.with_edge-2.ensures.letters

pub returns-clause-words : goal.returns-clause-words
returns-clause-words c = IfOk-weaker _ _ _ (λ m. edge_words c.args.words.now m c.in_ok-inside.field-0 c.in_ok-inside.ensures.words) c.with_edge-2.ensures.words
