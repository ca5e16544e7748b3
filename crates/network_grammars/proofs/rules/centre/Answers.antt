use Rattle.grammar_pairs.specs.Plain.{pair_of}
use Rattle.network_grammars.proofs.Rows.{named_written}
use Rattle.network_grammars.proofs.rules.centre.Goals as goal

pub unreachable-requires : goal.unreachable-requires
unreachable-requires c = named_written (pair_of c.args.atom.now) c.requires.up c.requires.low c.in-None.ensures
