use Rattle.std.proofs.Common.{arith}
use Rattle.std.proofs.lemmas.Option.{slice_get_within}
use Rattle.att_text.proofs.Drawn.{drawn_final}
use Rattle.att_text.proofs.drawing.Drawing.add_final.Goals as goal

pub returns-then-place-len-clause-drawn : goal.returns-then-place-len-clause-drawn
returns-then-place-len-clause-drawn c = λ table said d.
    let new = c.in_ok-place.ensures.drawn table said d in
    let each = new.each in
    let within = slice_get_within c.place_of.new.self.states c.in_ok-place.place c.args.state c.in_ok-place.ensures.place in
    absurd (omega arith)

pub returns-clause-drawn : goal.returns-clause-drawn
returns-clause-drawn c = λ table said d.
    drawn_final table said c.place_of.new.self.states c.place_of.new.self.edges.items c.place_of.new.self.finals.items c.in_ok-place.place c.args.state
    c.in_ok-place.ensures.place (c.in_ok-place.ensures.drawn table said d)
