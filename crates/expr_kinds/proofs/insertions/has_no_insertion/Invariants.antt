use Rattle.std.proofs.Common.{◌≡◌, drop}
use Rattle.regex_ast.specs.Terms.{groups_of}
use Rattle.expr_kinds.specs.Built.{has_no_insertion}
use Rattle.expr_kinds.proofs.insertions.has_no_insertion.Given as goal

-- the other groups are left
abbrev pub invariant-groups : goal.invariant-groups
invariant-groups l = has_no_insertion (groups_of (drop l.group-index l.groups)) ≡ has_no_insertion (groups_of l.groups)
