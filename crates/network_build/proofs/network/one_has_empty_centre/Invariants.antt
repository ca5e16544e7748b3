use Rattle.std.proofs.Common.{take}
use Rattle.network_centres.specs.Centres.{terms_seen}
use Rattle.network_build.specs.Made.{OneHasEmptyCentre}
use Rattle.network_build.proofs.network.one_has_empty_centre.Given as goal

-- no centre so far
abbrev pub invariant-expressions : goal.invariant-expressions
invariant-expressions l = OneHasEmptyCentre l.parts l.alphabet (terms_seen (take l.expr-index l.expressions)) → ⊥
