-- Rows that are added part by part.
use Rattle.std.proofs.Common.{◌≡◌, List, [], ◌∷◌, ◌++◌, Result, OnOk, sym, ap, subst, ◌∙◌}
use Rattle.regex_ast.specs.declared.expr.Atom.{Atom}
use Rattle.regex_ast.specs.Terms.{Term}
use Rattle.expr_leaves.proofs.Behind.{add_both_ok}
use Rattle.body_equality.specs.Rows.{node_of, parts, row_of}
use Rattle.body_equality.specs.declared.token.Token.{Token}
use Rattle.body_equality.specs.declared.token.Token.TheVariants.{Node, Item, End}
use Rattle.body_equality.specs.declared.token.Node.{Node as NodeOf}

-- a head, and the parts of its node
pub whole : {E : Type 0} (old mid new : List Token) (result : Result (Unit {0}) E) (h : NodeOf) (t u : Term Atom)
    → mid ≡ old ++ Node h ∷ [] → h ≡ node_of t → t ≡ u → OnOk result (new ≡ mid ++ parts u) → OnOk result (new ≡ old ++ row_of t)
whole old mid new result h t u pushed h_is is done =
    subst (λ e. OnOk result (new ≡ old ++ row_of e)) (sym is)
    (add_both_ok old mid new result (Node (node_of u) ∷ []) (parts u) (pushed ∙ ap (λ x. old ++ Node x ∷ []) (h_is ∙ ap node_of is)) done)
