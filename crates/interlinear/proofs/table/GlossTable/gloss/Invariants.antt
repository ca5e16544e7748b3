use Rattle.std.proofs.Common.{◌≡◌, ◌++◌, length}
use Rattle.std.specs.String.{string_bytes}
use Rattle.interlinear.specs.Glosses.{glossed, glossed_behind}
use Rattle.interlinear.proofs.table.GlossTable.gloss.Given as goal

-- the gloss so far, and that of the other characters
abbrev pub invariant-rest : goal.invariant-rest
invariant-rest l = string_bytes l.gloss ++ glossed_behind l.self 0 l.rest ≡ glossed l.self l.fn.text

abbrev pub decreases-rest : goal.decreases-rest
decreases-rest l = length l.rest
