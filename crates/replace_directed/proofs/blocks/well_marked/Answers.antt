use Rattle.std.proofs.lemmas.Result.{IfOk-weaker}
use Rattle.replace_directed.proofs.BlockWords.{well_words}
use Rattle.replace_directed.proofs.blocks.well_marked.Goals as goal

pub returns : goal.returns
returns c =
    IfOk-weaker _ _ _ (λ m. well_words c.args.symbols.now c.args.maps.now c.args.places c.in_ok-symbol.symbol c.in_ok-copied.copied c.in_ok-replaced.replaced c.in_ok-block.block c.in_ok-blocks.blocks c.in_ok-edge.edge c.in_ok-rest.rest m
    c.in_ok-symbol.ensures.language c.in_ok-copied.ensures c.in_ok-replaced.ensures c.in_ok-block.ensures.language c.in_ok-blocks.ensures.language c.in_ok-edge.ensures.language c.in_ok-rest.ensures.language) c.concat-2.ensures.language
