use Rattle.std.proofs.Common.{◌≡◌, [], subst, sym}
use Rattle.fst_flagged.proofs.Stands.{plain_stands, plain_relation}
use Rattle.fst_flagged.proofs.flagged.Flagged.plain.Goals as goal

pub invariant_of-result : goal.invariant_of-result
invariant_of-result c = plain_stands c.args.net c.requires c.new.result.items

pub returns-clause-relation : goal.returns-clause-relation
returns-clause-relation c = rw c.new.ensures.items (plain_relation c.args.net c.requires)
