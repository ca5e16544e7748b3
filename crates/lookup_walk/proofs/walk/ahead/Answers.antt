use Rattle.std.proofs.Common.{Option, IfSome, subst}
use Rattle.std.specs.Prelude.{option_copied}
use Rattle.lookup_walk.specs.declared.walk.Place.{Place}
use Rattle.lookup_walk.specs.Walks.{GoesOn}
use Rattle.lookup_walk.proofs.Onward.{on_none, on_then}
use Rattle.lookup_walk.proofs.walk.ahead.Goals as goal

pub moves-init : goal.moves-init
moves-init c = on_none (option_copied c.args.ground.now.rules) c.args.ground.now.alphabet.now c.args.ground.now.table.now c.args.ground.now.finals.now c.args.state c.args.word.now c.args.trail.now c.requires.written

pub moves-preserved : goal.moves-preserved
moves-preserved c =
    let on = subst
    (λ (next : Option Place). IfSome next (λ place. GoesOn (option_copied c.args.ground.now.rules) c.args.ground.now.alphabet.now c.args.ground.now.table.now c.args.ground.now.finals.now c.moves.at c.moves.rest.now place.state place.rest.now c.moves.trail c.step.new.trail))
    c.in-Some.is c.in_ok-next.ensures.on in
    on_then (option_copied c.args.ground.now.rules) c.args.ground.now.alphabet.now c.args.ground.now.table.now c.args.ground.now.finals.now c.args.state c.moves.at c.in-Some.next.state c.args.word.now c.moves.rest.now c.in-Some.next.rest.now
    c.args.trail.now c.moves.trail c.step.new.trail c.moves.invariant on
