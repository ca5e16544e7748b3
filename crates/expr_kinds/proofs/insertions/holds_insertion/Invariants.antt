use Rattle.std.proofs.Common.{◌≡◌, drop}
use Rattle.regex_ast.specs.Terms.{mappings_of}
use Rattle.expr_kinds.specs.Built.{holds_insertion}
use Rattle.expr_kinds.proofs.insertions.holds_insertion.Given as goal

-- the other mappings are left
abbrev pub invariant-maps : goal.invariant-maps
invariant-maps l = holds_insertion (mappings_of (drop l.map-index l.maps)) ≡ holds_insertion (mappings_of l.maps)
