use Rattle.std.proofs.Common.{◌↔◌, List}
use Rattle.fsm_base.specs.declared.letters.Bound.{Bound}
use Rattle.fsa.specs.Language.{Accepts}
use Rattle.replace_words.specs.declared.marks.Mark.{Mark}
use Rattle.replace_directed.proofs.Unions.{Below}
use Rattle.replace_directed.proofs.BlockWords.{IsBracketed}
use Rattle.replace_directed.proofs.blocks.replacements.Given as goal

abbrev pub invariant-loop-number : goal.invariant-loop-number
invariant-loop-number l = (v : List (Bound Mark)) → Accepts l.all v ↔ Below (IsBracketed l.maps) l.number v
