use Rattle.std.proofs.Common.{map, take}
use Rattle.std.specs.Prelude.{reverse}
use Rattle.grammar_pairs.specs.Plain.{definition_of}
use Rattle.grammar_weights.specs.Weighed.{IsWeighed}
use Rattle.grammar_weights.proofs.definitions.weigh.Given as goal

-- those so far
abbrev pub invariant-definitions : goal.invariant-definitions
invariant-definitions l = IsWeighed l.weighed (reverse (map definition_of (take l.definition-index l.definitions)))
