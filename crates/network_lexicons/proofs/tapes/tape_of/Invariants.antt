use Rattle.std.proofs.Common.{◌+◌, length}
use Rattle.flag_diacritics.specs.Numbers.{Keeps}
use Rattle.network_lexicons.proofs.Sided.{HasFronts}
use Rattle.network_lexicons.proofs.tapes.tape_of.Given as goal

-- the tape so far stands in front of what is left
abbrev pub invariant-letters : goal.invariant-letters
invariant-letters l = record {
  kept : Keeps l.fn.flags l.flags;
  fronts : HasFronts l.flags l.upper l.lower l.above l.below l.tape.items;
}

abbrev pub decreases-letters : goal.decreases-letters
decreases-letters l = length l.above + length l.below
