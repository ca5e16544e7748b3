use Rattle.std.proofs.Common.{◌≡◌, length}
use Rattle.lexc_forms.specs.Letters.{characters_of}
use Rattle.lexc_forms.proofs.Pieces.{SoFar}
use Rattle.lexc_forms.proofs.cutting.cut.Given as goal

-- the pieces so far, and those of the other letters
abbrev pub invariant-rest : goal.invariant-rest
invariant-rest l = record {
  characters_are : l.text ≡ characters_of l.rest;
  so_far : SoFar l.declared l.fn.letters l.rest l.pieces.items;
}

abbrev pub decreases-rest : goal.decreases-rest
decreases-rest l = length l.rest
