-- Which expressions are built, and what their networks are.
use Rattle.std.specs.Prelude.{List}
use Rattle.fsm_base.specs.declared.letters.Sym.{Sym as Symbol}
use Rattle.regex_ast.specs.declared.expr.Atom.{Atom}
use Rattle.regex_ast.specs.declared.expr.Link.{Link, Or, And, Less}
use Rattle.regex_ast.specs.Terms.{Term, Terms, Links, Contexts, Steps, Mappings, Groups}
use Rattle.expr_kinds.specs.Atoms.{is_symbol_of}
use Rattle.expr_kinds.specs.Built.{IsBuiltWith, AreBuiltWith, LinksAreBuiltWith, ContextsAreBuiltWith, StepsAreBuiltWith, MappingsAreBuiltWith, GroupsAreBuiltWith}
use Rattle.expr_kinds.specs.Kinds.{kind_of}
use Rattle.expr_meaning.specs.Meaning.{In, Relates}
use Rattle.network_algebra.specs.Networks.{IsFor}
use Rattle.network_algebra.specs.declared.network.Network.{Network}
use Rattle.network_expr.specs.Rules.{IsFilled}
use Rattle.network_expr.specs.Parts.{is_leaf_of, kinds, stands}
use Rattle.network_expr.specs.declared.parts.Part.{Part}

-- each leaf is a symbol of the alphabet or a name with a part, each symbol in braces one of the alphabet, and no centre of a
-- replacement has the empty word
abbrev pub IsBuiltOver : List Part → List Symbol → Term Atom → Type 0
IsBuiltOver parts alphabet = IsBuiltWith (is_leaf_of parts alphabet) (is_symbol_of alphabet) (IsFilled (stands parts) alphabet)

abbrev pub AreBuiltOver : List Part → List Symbol → Terms Atom → Type 0
AreBuiltOver parts alphabet = AreBuiltWith (is_leaf_of parts alphabet) (is_symbol_of alphabet) (IsFilled (stands parts) alphabet)

abbrev pub LinksAreBuiltOver : List Part → List Symbol → Links Atom → Type 0
LinksAreBuiltOver parts alphabet = LinksAreBuiltWith (is_leaf_of parts alphabet) (is_symbol_of alphabet) (IsFilled (stands parts) alphabet)

abbrev pub ContextsAreBuiltOver : List Part → List Symbol → Contexts Atom → Type 0
ContextsAreBuiltOver parts alphabet = ContextsAreBuiltWith (is_leaf_of parts alphabet) (is_symbol_of alphabet) (IsFilled (stands parts) alphabet)

abbrev pub StepsAreBuiltOver : List Part → List Symbol → Steps Atom → Type 0
StepsAreBuiltOver parts alphabet = StepsAreBuiltWith (is_leaf_of parts alphabet) (is_symbol_of alphabet) (IsFilled (stands parts) alphabet)

abbrev pub MappingsAreBuiltOver : List Part → List Symbol → Mappings Atom → Type 0
MappingsAreBuiltOver parts alphabet = MappingsAreBuiltWith (is_leaf_of parts alphabet) (is_symbol_of alphabet) (IsFilled (stands parts) alphabet)

abbrev pub GroupsAreBuiltOver : List Part → List Symbol → Groups Atom → Type 0
GroupsAreBuiltOver parts alphabet = GroupsAreBuiltWith (is_leaf_of parts alphabet) (is_symbol_of alphabet) (IsFilled (stands parts) alphabet)

-- the network is of the expression's kind, has its words where it is a language, and relates what it relates
abbrev pub IsMeant : List Part → List Symbol → Term Atom → Network → Type 0
IsMeant parts alphabet e n = IsFor (kind_of (kinds parts) e) (In (stands parts) alphabet e) (Relates (stands parts) alphabet e) n

-- a row of `|` alone
abbrev pub IsChoice : Link Atom → Type 0
IsChoice (Or e) = Unit {0}
IsChoice (And e) = ⊥
IsChoice (Less e) = ⊥

-- an operand that makes a language smaller: one of a row of `&` and `-`
abbrev pub IsNarrowing : Link Atom → Type 0
IsNarrowing (Or e) = ⊥
IsNarrowing (And e) = Unit {0}
IsNarrowing (Less e) = Unit {0}
