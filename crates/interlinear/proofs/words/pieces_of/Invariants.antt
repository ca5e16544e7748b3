use Rattle.std.proofs.Common.{◌≡◌, ◌++◌, ℕ, List, []}
use Rattle.std.specs.String.{string_bytes}
use Rattle.interlinear.specs.Words.{pieces_from}
use Rattle.interlinear.proofs.words.pieces_of.Given as goal

-- the pieces so far, and those of the other characters
abbrev pub invariant-loop-character : goal.invariant-loop-character
invariant-loop-character l = (rest : List ℕ) → l.pieces.items ++ pieces_from l.fn.ends (string_bytes l.piece) rest ≡ pieces_from l.fn.ends [] (l.yielded ++ rest)
