-- Expressions without what their leaves are.
use Rattle.regex_ast.specs.Terms.{Term}
use Rattle.regex_ast.specs.declared.expr.Atom.{Atom}
use Rattle.regex_ast.specs.declared.expr.Atom.TheVariants.{Sym}
use Rattle.expr_leaves.specs.Mapped.{mapped}

-- one leaf for all
abbrev pub no_leaf : Atom
no_leaf = Sym (record { 0 = 0 })

abbrev pub shape_of : {A : Type 0} → Term A → Term Atom
shape_of e = mapped (λ leaf. no_leaf) e
