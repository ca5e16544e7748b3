use Rattle.std.specs.List.{Contains}
use Rattle.fsm_base.specs.Alphabet.{symbols_of}
use Rattle.replace_rules.specs.Rules.{IsMapOver}
use Rattle.replace_rules.specs.declared.rules.LangMap.{LangMap}
use Rattle.network_trials.proofs.replace_texts.maps_of.Given as goal

abbrev pub invariant-maps : goal.invariant-maps
invariant-maps l = (m : LangMap) → Contains l.maps.items m → IsMapOver (symbols_of l.symbols.alphabet) m
