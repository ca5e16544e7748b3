use Rattle.std.proofs.Common.{arith}
use Rattle.std.proofs.lemmas.Option.{IfSome_then}
use Rattle.lookup_walk.proofs.Single.{only_of_row}
use Rattle.lookup_walk.proofs.table.only_in.Goals as goal

pub returns : goal.returns
returns c =
    let row = c.requires.rows c.args.state _ (omega arith) in
    IfSome_then c.only_at.result c.only_at.ensures (λ only alone. only_of_row c.args.moves.now c.args.state c.args.symbol _ only c.part.result.now row (omega arith) c.part.ensures alone)
