use Rattle.std.proofs.Common.{◌≡◌, drop}
use Rattle.expr_kinds.specs.Forms.{with_each}
use Rattle.expr_kinds.proofs.walk.with_suffixes.Given as goal

-- the other suffixes are left
abbrev pub invariant-suffixes : goal.invariant-suffixes
invariant-suffixes l = with_each l.form (drop l.suffix-index l.suffixes) ≡ with_each l.fn.form l.suffixes
