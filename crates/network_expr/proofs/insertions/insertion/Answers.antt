use Rattle.std.proofs.lemmas.Result.{IfOk-weaker}
use Rattle.network_expr.proofs.Inserting.{first_over, first_inserts}
use Rattle.network_expr.proofs.insertions.insertion.Goals as goal

pub insert-requires-clause-over : goal.insert-requires-clause-over
insert-requires-clause-over c = first_over c.args.alphabet.now c.args.groups.now c.index-groups-0.result c.index.result.now c.index-groups-0.is c.index.ensures c.requires.one

pub returns-clause-relation : goal.returns-clause-relation
returns-clause-relation c =
    IfOk-weaker _ _ _ (λ n. first_inserts c.args.alphabet.now c.args.groups.now c.index-groups-0.result c.index.result.now c.index-groups-0.is c.index.ensures c.args.optional c.deref.result.now n c.deref.ensures.value) c.insert.ensures.relation
