use Rattle.std.proofs.Common.{◌≡◌, drop}
use Rattle.std.specs.List.{list_any}
use Rattle.expr_leaves.specs.Alphabet.{uses_alphabet}
use Rattle.name_resolution.specs.Symbols.{terms_behind}
use Rattle.touched_names.proofs.bodies.one_uses.Given as goal

-- none so far does, so it turns on the others
abbrev pub invariant-exprs : goal.invariant-exprs
invariant-exprs l = list_any (λ e. uses_alphabet e) (terms_behind (drop l.expr-index l.exprs)) ≡ list_any (λ e. uses_alphabet e) (terms_behind l.exprs)
