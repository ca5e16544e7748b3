use Rattle.std.proofs.Common.{◌≡◌, map, take}
use Rattle.network_algebra.specs.Crossing.{only_step}
use Rattle.network_algebra.proofs.crossing.letters_of_steps.Given as goal

abbrev pub invariant-loop-edge : goal.invariant-loop-edge
invariant-loop-edge l = take l.edge-index l.edges ≡ map only_step l.letters.items
