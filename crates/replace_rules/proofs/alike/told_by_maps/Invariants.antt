use Rattle.std.proofs.Common.{take}
use Rattle.replace_rules.specs.Alike.{MapIsLike, IsDivided, IsFiner}
use Rattle.replace_rules.proofs.Told.{EachOf}
use Rattle.replace_rules.proofs.alike.told_by_maps.Given as goal

abbrev pub invariant-loop-map : goal.invariant-loop-map
invariant-loop-map l = IsFiner l.fn.numbers.items l.told.items × IsDivided l.syms l.told.items (EachOf MapIsLike (take l.map-index l.maps))
