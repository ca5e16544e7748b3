use Rattle.std.proofs.Common.{refl}
use Rattle.network_algebra.proofs.Conditions.{resolved_symbols}
use Rattle.network_algebra.proofs.Meanings.{symbols_of_two, union_pairs}
use Rattle.fst_flagged.specs.Flagged.{FlaggedRelates}
use Rattle.network_algebra.proofs.joining.union_of_flagged.Goals as goal

pub returns-in_ok-union-in-None-clause-letters : goal.returns-in_ok-union-in-None-clause-letters
returns-in_ok-union-in-None-clause-letters c symbols first second =
    let one = c.in_ok-first-in-None.first in
    let other = c.in_ok-second-in-None.second in
    symbols_of_two symbols one other c.in_ok-union-in-None.field-0 c.in_ok-union-in-None.ensures.letters
    (resolved_symbols c.args.x.now one c.in_ok-first-in-None.ensures.upper c.in_ok-first-in-None.ensures.lower symbols first)
    (resolved_symbols c.args.y.now other c.in_ok-second-in-None.ensures.upper c.in_ok-second-in-None.ensures.lower symbols second)

pub returns-in_ok-union-in-None-clause-meaning : goal.returns-in_ok-union-in-None-clause-meaning
returns-in_ok-union-in-None-clause-meaning c = record {
  kind_is = refl;
  pairs =
      union_pairs c.in_ok-first-in-None.first c.in_ok-second-in-None.second c.in_ok-union-in-None.field-0 (FlaggedRelates c.args.x.now) (FlaggedRelates c.args.y.now) c.in_ok-first-in-None.ensures.relation c.in_ok-second-in-None.ensures.relation
      c.in_ok-union-in-None.ensures.language;
}
