use Rattle.std.proofs.Common.{◌≡◌, map, take}
use Rattle.two_level.specs.declared.marks.MarkedLetter.TheVariants.{Letter}
use Rattle.two_level.proofs.marks.part_letters.Given as goal

abbrev pub invariant-loop-letter : goal.invariant-loop-letter
invariant-loop-letter l = l.parts.items ≡ map Letter (take l.letter-index l.letters)
