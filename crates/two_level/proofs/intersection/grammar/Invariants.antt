use Rattle.std.proofs.Common.{take}
use Rattle.lang_algebra.specs.Languages.{IsLang}
use Rattle.two_level.specs.Rules.{KeepsAll}
use Rattle.two_level.proofs.intersection.grammar.Given as goal

abbrev pub invariant-loop-rule : goal.invariant-loop-rule
invariant-loop-rule l = IsLang l.pairs (KeepsAll l.pairs (take l.rule-index l.rules)) l.strings
