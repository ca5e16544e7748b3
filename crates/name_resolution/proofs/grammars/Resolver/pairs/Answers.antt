use Rattle.std.proofs.Common.{arith}
use Rattle.name_resolution.proofs.Parts.{pair_made}
use Rattle.name_resolution.proofs.grammars.Resolver.pairs.Goals as goal
use Rattle.grammar_pairs.specs.Mapped.{mapped_pair}
use Rattle.grammar_pairs.specs.Plain.{pair_of}
use Rattle.name_resolution.proofs.Rows.{row_more, twice_ended}
use Rattle.name_resolution.specs.Resolved.{letter_of}

pub pairs-preserved : goal.pairs-preserved
pairs-preserved c =
    row_more pair_of (λ x. mapped_pair (letter_of c.args.self.now.names.now c.args.self.now.table.now) (pair_of x)) c.args.pairs.now c.pairs.pair-index c.pairs.found.items c.pair-item.result c.push.new.self.items c.in_ok-pair.field-0
    (omega arith) c.pair-item.is c.in_ok-push.ensures.items (pair_made (letter_of c.args.self.now.names.now c.args.self.now.table.now) c.pair-item.result c.in_ok-pair.field-0 c.in_ok-pair.ensures.up c.in_ok-pair.ensures.low) c.pairs.invariant

pub returns : goal.returns
returns c = twice_ended pair_of pair_of (mapped_pair (letter_of c.args.self.now.names.now c.args.self.now.table.now)) c.args.pairs.now c.pairs.pair-index c.pairs.found.items (omega arith) c.pairs.invariant
