use Rattle.std.proofs.Common.{take}
use Rattle.replace_rules.specs.Alike.{GroupIsLike, IsDivided}
use Rattle.replace_rules.proofs.Told.{EachOf}
use Rattle.replace_rules.proofs.alike.numbered.Given as goal

abbrev pub invariant-loop-group : goal.invariant-loop-group
invariant-loop-group l = IsDivided l.syms l.numbers.items (EachOf GroupIsLike (take l.group-index l.groups))
