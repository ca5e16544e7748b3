use Rattle.std.proofs.Common.{take}
use Rattle.replace_rules.specs.Alike.{ContextIsLike, IsDivided, IsFiner}
use Rattle.replace_rules.proofs.Told.{EachOf}
use Rattle.replace_rules.proofs.alike.told_by_contexts.Given as goal

abbrev pub invariant-loop-context : goal.invariant-loop-context
invariant-loop-context l = IsFiner l.fn.numbers.items l.told.items × IsDivided l.bounds l.told.items (EachOf ContextIsLike (take l.context-index l.contexts))
