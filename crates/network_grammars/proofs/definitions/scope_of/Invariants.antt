use Rattle.std.proofs.Common.{map, reverse, take}
use Rattle.grammar_pairs.specs.Plain.{definition_of}
use Rattle.network_grammars.specs.Built.{IsBuilt}
use Rattle.network_grammars.specs.PairMeaning.{IsScope}
use Rattle.network_grammars.proofs.definitions.scope_of.Given as goal

-- the definitions so far
abbrev pub invariant-definitions : goal.invariant-definitions
invariant-definitions l = record {
  scope : IsScope l.scope;
  built : IsBuilt l.fn.grammar (reverse (map definition_of (take l.definition-index l.definition-items))) l.scope;
}
