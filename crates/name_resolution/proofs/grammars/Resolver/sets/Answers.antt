use Rattle.std.proofs.Common.{arith}
use Rattle.name_resolution.proofs.grammars.Resolver.sets.Goals as goal
use Rattle.grammar_pairs.specs.Mapped.{mapped_set}
use Rattle.grammar_pairs.specs.Plain.{set_of}
use Rattle.name_resolution.proofs.Rows.{row_more, twice_ended}
use Rattle.name_resolution.specs.Resolved.{letter_of}

pub sets-preserved : goal.sets-preserved
sets-preserved c =
    row_more set_of (λ x. mapped_set (letter_of c.args.self.now.names.now c.args.self.now.table.now) (set_of x)) c.args.sets.now c.sets.set-index c.sets.found.items c.set-item.result c.push.new.self.items c.in_ok-set.field-0
    (omega arith) c.set-item.is c.in_ok-push.ensures.items c.in_ok-set.ensures c.sets.invariant

pub returns : goal.returns
returns c = twice_ended set_of set_of (mapped_set (letter_of c.args.self.now.names.now c.args.self.now.table.now)) c.args.sets.now c.sets.set-index c.sets.found.items (omega arith) c.sets.invariant
