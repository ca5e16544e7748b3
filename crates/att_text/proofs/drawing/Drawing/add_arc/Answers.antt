use Rattle.att_text.proofs.Drawn.{arc_drawn}
use Rattle.std.specs.Option.{option_map}
use Rattle.att_text.proofs.drawing.Drawing.add_arc.Goals as goal

pub returns-clause-drawn : goal.returns-clause-drawn
returns-clause-drawn c = λ said d.
    arc_drawn c.args.table.now c.side_symbol.new.table c.side_symbol-2.new.table said c.args.self.now.states c.place_of.new.self.states c.place_of-2.new.self.states
    c.args.self.now.edges.items c.place_of.new.self.edges.items c.place_of-2.new.self.edges.items c.push.new.self.items
    c.args.self.now.finals.items c.place_of.new.self.finals.items c.place_of-2.new.self.finals.items
    c.in_ok-from.from c.in_ok-to.to c.args.arc.from c.args.arc.to c.in_ok-up.up c.in_ok-low.low c.letter_of-letter.result
    (option_map (λ symbol. symbol.now) c.args.arc.up) (option_map (λ symbol. symbol.now) c.args.arc.low)
    c.in_ok-up.ensures.grows c.in_ok-low.ensures.grows c.in_ok-up.ensures.symbol c.in_ok-low.ensures.symbol c.letter_of-letter.ensures.upper c.letter_of-letter.ensures.lower
    c.in_ok-from.ensures.place c.in_ok-to.ensures.keeps c.in_ok-to.ensures.place c.in_ok-from.ensures.drawn c.in_ok-to.ensures.drawn c.in_ok-push.ensures.items d
