-- Definitions that can be built over an alphabet.
use Rattle.std.specs.Prelude.{List}
use Rattle.fsm_base.specs.declared.letters.Sym.{Sym}
use Rattle.regex_ast.specs.declared.expr.Atom.{Atom}
use Rattle.expr_kinds.specs.Atoms.{is_leaf_at, is_symbol_of, leaves_at}
use Rattle.expr_kinds.specs.declared.form.Form.{Form}
use Rattle.project_meaning.specs.Trees.{Body}
use Rattle.project_sources.specs.Built.{BodyIsBuiltBy}
use Rattle.project_definitions.specs.Bodies.{BodyFitsBy, IsFormed}

-- each operand that must be a language is one, where names have the kinds of these forms; each insertion stands alone in its rules,
-- and each leaf is a symbol of the alphabet or, in an expression, a name with a form; and lexicons have names of their own, of which one is
-- `Root`, and grammars the forms that stand in a text
pub record IsSound (forms : List Form) (alphabet : List Sym) (body : Body Atom) : Type 0 where
  pub fits : BodyFitsBy (leaves_at forms) body
  pub built : BodyIsBuiltBy (is_leaf_at forms alphabet) (is_symbol_of alphabet) body
  pub formed : IsFormed body
