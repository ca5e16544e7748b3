use Rattle.std.proofs.Common.{◌≡◌, map, take}
use Rattle.network_sets.specs.declared.parts.Split.TheVariants.{Letter}
use Rattle.network_sets.proofs.parts.part_letters.Given as goal

abbrev pub invariant-loop-letter : goal.invariant-loop-letter
invariant-loop-letter l = l.parts.items ≡ map Letter (take l.letter-index l.letters)
