use Rattle.std.proofs.Common.{◌↔◌, List, take}
use Rattle.fsm_base.specs.declared.letters.Sym.{Sym}
use Rattle.fsa.specs.Language.{Accepts}
use Rattle.replace_rules.specs.Rules.{HasCentre}
use Rattle.replace_directed.proofs.middles.centres.Given as goal

abbrev pub invariant-loop-map : goal.invariant-loop-map
invariant-loop-map l = (c : List Sym) → Accepts l.all c ↔ HasCentre (take l.map-index l.maps) c
