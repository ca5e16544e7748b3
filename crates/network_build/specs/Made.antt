-- What is built over one alphabet, be it the project's or the body's own symbols, and what comes of it.
use Rattle.std.specs.Prelude.{◌≡◌, List, Contains}
use Rattle.fsm_base.specs.declared.letters.Sym.{Sym as Symbol}
use Rattle.regex_ast.specs.declared.expr.Atom.{Atom}
use Rattle.regex_ast.specs.Terms.{Term}
use Rattle.expr_kinds.specs.Atoms.{is_symbol_of}
use Rattle.expr_kinds.specs.Kinds.{Fits}
use Rattle.grammar_pairs.specs.Laws.{HasLeaves}
use Rattle.grammar_pairs.specs.Plain.{IsFormed}
use Rattle.project_meaning.specs.Trees.{Body, xfst, lexc, twolc}
use Rattle.network_algebra.specs.Networks.{IsNetwork, PairsOf, kind_of_network}
use Rattle.network_algebra.specs.declared.network.Network.{Network}
use Rattle.network_centres.specs.Centres.{HasEmptyCentre}
use Rattle.network_expr.specs.Built.{IsBuiltOver}
use Rattle.network_expr.specs.Parts.{kinds}
use Rattle.network_expr.specs.declared.parts.Part.{Part}
use Rattle.network_lexicons.specs.Built.{AreBuilt}
use Rattle.project_definitions.specs.Bodies.{AreRooted, kind_of_body}
use Rattle.network_build.specs.Networks.{IsRelationOf}

-- one of these expressions has a centre with the empty word
abbrev pub OneHasEmptyCentre : List Part → List Symbol → List (Term Atom) → Type 0
OneHasEmptyCentre parts alphabet es = (e : Term Atom) × Contains es e × HasEmptyCentre parts alphabet e

-- the body's expressions are built over the alphabet, with no centre that has the empty word, and fit; a grammar has the form of one
-- that is read, and its symbols are of the alphabet
abbrev pub IsReady : List Part → List Symbol → Body Atom → Type 0
IsReady parts alphabet (xfst e) = IsBuiltOver parts alphabet e × Fits (kinds parts) e
IsReady parts alphabet (lexc lexicons) = AreBuilt parts alphabet lexicons × AreRooted lexicons
IsReady parts alphabet (twolc grammar) = HasLeaves (is_symbol_of alphabet) grammar × IsFormed grammar

-- the network is over the alphabet, of the kind of the body, and relates what this relates over the alphabet
pub record IsMade (parts : List Part) (alphabet : List Symbol) (body : Body Atom) (n : Network) : Type 0 where
  pub over : IsNetwork alphabet n
  pub kind : kind_of_network n ≡ kind_of_body (kinds parts) body
  pub relation : IsRelationOf parts alphabet body (PairsOf n)
