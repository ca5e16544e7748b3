use Rattle.att_text.proofs.Relating.{drawn_within}
use Rattle.att_text.proofs.drawing.Drawing.into_network.Goals as goal

pub of-requires-clause-within : goal.of-requires-clause-within
of-requires-clause-within c = drawn_within c.requires.0 c.requires.1 c.args.self.states c.args.self.edges.items c.args.self.finals.items c.requires.2
