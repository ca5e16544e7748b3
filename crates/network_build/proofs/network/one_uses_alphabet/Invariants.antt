use Rattle.std.proofs.Common.{◌≡◌, false, take}
use Rattle.std.specs.List.{list_any}
use Rattle.expr_leaves.specs.Alphabet.{uses_alphabet}
use Rattle.network_centres.specs.Centres.{terms_seen}
use Rattle.network_build.proofs.network.one_uses_alphabet.Given as goal

-- none so far
abbrev pub invariant-expressions : goal.invariant-expressions
invariant-expressions l = list_any (λ e. uses_alphabet e) (terms_seen (take l.expr-index l.expressions)) ≡ false
