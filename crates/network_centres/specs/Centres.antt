-- Centres of rules of replacement, and which of them have the empty word.
use Rattle.std.specs.Prelude.{List, [], Contains, map}
use Rattle.std.specs.Borrow.{Bor}
use Rattle.fsm_base.specs.declared.letters.Sym.{Sym as Symbol}
use Rattle.regex_ast.specs.declared.expr.Atom.{Atom}
use Rattle.regex_ast.specs.declared.expr.Expr.{Expr}
use Rattle.regex_ast.specs.Terms.{Term, term}
use Rattle.expr_meaning.specs.Meaning.{In}
use Rattle.project_meaning.specs.Centres.{centres_in}
use Rattle.network_expr.specs.Parts.{stands}
use Rattle.network_expr.specs.declared.parts.Part.{Part}

-- the expressions behind references
abbrev pub terms_seen : List (Bor (Expr Atom)) → List (Term Atom)
terms_seen found = map (λ expr. term expr.now) found

-- one of the centres in the expression has the empty word
abbrev pub HasEmptyCentre : List Part → List Symbol → Term Atom → Type 0
HasEmptyCentre parts alphabet e = (centre : Term Atom) × Contains (centres_in e) centre × In (stands parts) alphabet centre []
