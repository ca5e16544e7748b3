use Rattle.std.proofs.Common.{All, take}
use Rattle.project_definitions.specs.Demands.{DoesMeet}
use Rattle.project_definitions.proofs.demands.first_failing.Given as goal

-- the definitions so far meet it
abbrev pub invariant-definitions : goal.invariant-definitions
invariant-definitions l = All (DoesMeet l.forms l.demand) (take l.definition-index l.definitions)
