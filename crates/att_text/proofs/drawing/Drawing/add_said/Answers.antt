use Rattle.std.proofs.Common.{◌++◌, ◌∷◌, []}
use Rattle.att_text.specs.Lines.{final}
use Rattle.att_text.specs.Drawing.{IsDrawn}
use Rattle.att_text.proofs.Relating.{at_table}
use Rattle.att_text.proofs.drawing.Drawing.add_said.Goals as goal

pub returns-in-Arc-clause-drawn : goal.returns-in-Arc-clause-drawn
returns-in-Arc-clause-drawn c = rw c.in-Arc.is c.add_arc.ensures.drawn

pub returns-in-Final-clause-drawn : goal.returns-in-Final-clause-drawn
returns-in-Final-clause-drawn c = rw c.in-Final.is
    (at_table (λ t s. IsDrawn t s c.args.self.now.states c.args.self.now.edges.items c.args.self.now.finals.items → IsDrawn t (s ++ final c.in-Final.state ∷ []) c.add_final.new.self.states c.add_final.new.self.edges.items c.add_final.new.self.finals.items)
    c.args.table.now c.add_final.result c.add_final.ensures.drawn)
