use Rattle.std.proofs.Common.{take}
use Rattle.std.specs.List.{Contains}
use Rattle.name_order.specs.Found.{Adds}
use Rattle.name_order.proofs.reach.Found.add_all.Given as goal

abbrev pub invariant-places : goal.invariant-places
invariant-places l = Adds l.initial.self l.self (Contains (take l.place-index l.places))
