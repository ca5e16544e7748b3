use Rattle.fsm_base.specs.Alphabet.{symbols_of}
use Rattle.replace_rules.specs.Rules.{AreMapsOver}
use Rattle.network_trials.proofs.replace_texts.groups_of.Given as goal

abbrev pub invariant-groups : goal.invariant-groups
invariant-groups l = AreMapsOver (symbols_of l.symbols.alphabet) l.groups.items
