use Rattle.std.proofs.Common.{◌+◌, ◌-◌, ◌≤◌, length, drop, ap, ◌∙◌, arith, length-take}
use Rattle.fsm_io.proofs.Pieces.{drop-range}
use Rattle.fsm_io.proofs.held.Held.skip.Goals as goal

pub returns : goal.returns
returns c =
    let h = c.self.inside in
    let inside : h.start + c.args.count ≤ h.end = omega (arith, c.requires, ap length c.self.view_is, length-take (h.end - h.start) (drop h.start h.bytes.items), c.self.invariant.0) in
    drop-range h.start h.end c.args.count h.bytes.items inside ∙ ap (drop c.args.count) c.self.view_is
