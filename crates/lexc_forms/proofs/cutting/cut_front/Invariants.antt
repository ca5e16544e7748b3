use Rattle.std.proofs.Common.{drop}
use Rattle.lexc_forms.proofs.Pieces.{SoFar}
use Rattle.lexc_forms.proofs.cutting.cut_front.Given as goal

-- the pieces so far, and those of the other letters
abbrev pub invariant-letters : goal.invariant-letters
invariant-letters l = SoFar l.declared l.letters (drop l.index l.letters) l.pieces.items
