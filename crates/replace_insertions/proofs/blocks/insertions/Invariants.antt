use Rattle.std.proofs.Common.{◌↔◌, List}
use Rattle.fsm_base.specs.declared.letters.Bound.{Bound}
use Rattle.fsa.specs.Language.{Accepts}
use Rattle.replace_words.specs.declared.marks.Mark.{Mark}
use Rattle.replace_insertions.specs.Marked.{IsInsertion}
use Rattle.replace_insertions.proofs.BlockWords.{Below}
use Rattle.replace_insertions.proofs.blocks.insertions.Given as goal

abbrev pub invariant-loop-number : goal.invariant-loop-number
invariant-loop-number l = (v : List (Bound Mark)) → Accepts l.all v ↔ Below (IsInsertion l.put) l.number v
