use Rattle.std.proofs.Common.{◌↔◌, List}
use Rattle.fsm_base.specs.declared.letters.Bound.{Bound}
use Rattle.fsa.specs.Language.{Accepts}
use Rattle.replace_words.specs.declared.marks.Mark.{Mark}
use Rattle.replace_words.specs.Marked.{IsReplacement}
use Rattle.replace_rules.specs.Places.{rules_by}
use Rattle.replace_rules.proofs.Unions.{Numbered}
use Rattle.replace_rules.proofs.blocks.replacements.Given as goal

abbrev pub invariant-loop-number : goal.invariant-loop-number
invariant-loop-number l = (v : List (Bound Mark)) → Accepts l.all v ↔ Numbered (λ k p. IsReplacement rules_by k p) l.places l.number v
