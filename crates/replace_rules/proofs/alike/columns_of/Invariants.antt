use Rattle.std.proofs.Common.{take}
use Rattle.replace_rules.specs.Alike.{IsColumn}
use Rattle.replace_rules.proofs.Told.{IsBuilt}
use Rattle.replace_rules.proofs.alike.columns_of.Given as goal

abbrev pub invariant-loop-letter : goal.invariant-loop-letter
invariant-loop-letter g l = IsBuilt (IsColumn l.own l.of_places l.none) (take l.letter-index l.letters) l.columns.items
