use Rattle.std.proofs.Common.{take}
use Rattle.replace_rules.specs.Alike.{IsFirstIn}
use Rattle.replace_rules.proofs.Told.{IsBuilt}
use Rattle.replace_rules.proofs.alike.firsts_in.Given as goal

abbrev pub invariant-loop-class : goal.invariant-loop-class
invariant-loop-class l = IsBuilt (IsFirstIn l.syms l.firsts) (take l.class-index l.of_places) l.found.items
