use Rattle.std.proofs.Common.{◌↔◌, List, take}
use Rattle.fsm_base.specs.declared.letters.Bound.{Bound}
use Rattle.fsa.specs.Language.{Accepts}
use Rattle.replace_words.specs.declared.marks.Mark.{Mark}
use Rattle.replace_rules.specs.Places.{IsBody}
use Rattle.replace_directed.proofs.blocks.bodies.Given as goal

abbrev pub invariant-loop-map : goal.invariant-loop-map
invariant-loop-map l = (v : List (Bound Mark)) → Accepts l.all v ↔ IsBody (take l.map-index l.maps) v
