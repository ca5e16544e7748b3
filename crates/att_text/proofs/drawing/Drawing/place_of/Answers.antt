use Rattle.std.proofs.Common.{◌<◌, length, arith}
use Rattle.att_text.proofs.Drawn.{drawn_state, state_keeps}
use Rattle.att_text.proofs.drawing.Drawing.place_of.Goals as goal

pub returns-in_ok-push-clause-drawn : goal.returns-in_ok-push-clause-drawn
returns-in_ok-push-clause-drawn c = λ table said d.
    let fewer : length c.args.self.now.finals.items < length c.place_of.new.self = (let one = c.len.ensures in let two = c.len-2.ensures in let less = c.if-len.true in omega arith) in
    drawn_state table said c.args.self.now.states c.place_of.new.self c.args.self.now.edges.items c.args.self.now.finals.items c.push.new.self.items c.args.state
    c.in_ok-place.ensures.kept c.in_ok-place.ensures.once (λ _. c.in_ok-push.ensures.items) (λ more. absurd (omega arith)) d

pub returns-else-len-clause-keeps : goal.returns-else-len-clause-keeps
returns-else-len-clause-keeps c = state_keeps c.args.self.now.states c.place_of.new.self c.args.state c.in_ok-place.ensures.kept
