-- The network of a definition, and which symbols stand in it.
use Rattle.std.specs.Prelude.{◌≡◌, ◌<◌, ◌⊎◌, ◌++◌, ℕ, Bool, IsTrue, List, Some, Contains}
use Rattle.std.specs.List.{flat_map, list_any}
use Rattle.fsm_base.specs.Alphabet.{IsAlphabet, symbols_of, text_of}
use Rattle.fsm_base.specs.declared.letters.Bound.TheVariants.{Inner}
use Rattle.fsm_base.specs.declared.letters.Sym.{Sym as Symbol}
use Rattle.fsm_base.specs.declared.letters.Pair.{Pair}
use Rattle.word_relations.specs.Relations.{AreSame}
use Rattle.fsa.specs.Automaton.{UsesLetter}
use Rattle.fst_flagged.specs.Conditions.{first}
use Rattle.lookup.specs.Nets.{NetView}
use Rattle.regex_ast.specs.declared.expr.Atom.{Atom}
use Rattle.regex_ast.specs.declared.expr.Atom.TheVariants.{Sym}
use Rattle.regex_ast.specs.Terms.{Term}
use Rattle.expr_kinds.specs.Atoms.{is_symbol_of}
use Rattle.expr_meaning.specs.Meaning.{Relates}
use Rattle.expr_leaves.specs.Alphabet.{uses_alphabet}
use Rattle.expr_leaves.specs.Leaves.{leaves_in}
use Rattle.expr_spelling.specs.Laws.{IsSpelled}
use Rattle.grammar_pairs.specs.Laws.{HasLeaves}
use Rattle.grammar_pairs.specs.Texts.{in_texts}
use Rattle.name_resolution.specs.Leaves.{leaves_in as leaves_in_grammar}
use Rattle.project_meaning.specs.Trees.{Form, sides, pairs, Grammar, Body, xfst, lexc, twolc}
use Rattle.project_meaning.specs.Grammars.{GrammarRelates}
use Rattle.project_meaning.specs.Leaves.{expressions_of, forms_in}
use Rattle.project_meaning.specs.Lexicons.{LexiconsRelate, letters_of}
use Rattle.network_algebra.specs.Networks.{IsNetwork, PairsOf, kind_of_network}
use Rattle.network_algebra.specs.declared.network.Network.{Network}
use Rattle.network_algebra.specs.declared.network.Network.TheVariants.{Words, Pairs, Flagged}
use Rattle.network_centres.specs.Centres.{HasEmptyCentre}
use Rattle.network_expr.specs.Parts.{kinds, stands}
use Rattle.network_expr.specs.declared.parts.Part.{Part}
use Rattle.network_lexicons.specs.Plain.{symbol_in}
use Rattle.project_definitions.specs.Bodies.{kind_of_body}
use Rattle.project_definitions.specs.Plain.{body_of}
use Rattle.project_definitions.specs.declared.definition.Definition.{Definition}
use Rattle.network_build.specs.declared.compiled.BuildError.{BuildError}
use Rattle.network_build.specs.declared.compiled.BuildError.TheVariants.{Memory, EmptyCentre}

-- a network that is ready for look-ups as contracts see it: its transducer, plain or with conditions
pub record CompiledView : Type 0 where
  pub net : NetView

-- the symbol is on a side of the pair
abbrev pub IsOn : Pair → Symbol → Type 0
IsOn pair s = (pair.up ≡ Some s) ⊎ (pair.low ≡ Some s)

-- the symbol is on a side of the pair, and no condition, which only the upper side may have
abbrev pub IsLetterOn : Pair → Symbol → Type 0
IsLetterOn pair s = ((pair.up ≡ Some s) × (s.0 < first)) ⊎ (pair.low ≡ Some s)

-- the symbol stands in the network; conditions are no symbols
abbrev pub UsesSymbol : Network → Symbol → Type 0
UsesSymbol (Words m) s = UsesLetter m (Inner s)
UsesSymbol (Pairs m) s = (pair : Pair) × UsesLetter m pair × IsOn pair s
UsesSymbol (Flagged f) s = (pair : Pair) × UsesLetter f.net pair × IsLetterOn pair s

-- the symbol stands in the network of one of these parts
abbrev pub PartsUse : List Part → Symbol → Type 0
PartsUse parts s = (part : Part) × Contains parts part × UsesSymbol part.network.now s

-- the leaves that stand in a form, those of the upper side first, and in a body
abbrev pub form_leaves : Form Atom → List Atom
form_leaves (sides upper lower) = flat_map letters_of upper ++ flat_map letters_of lower
form_leaves (pairs e) = leaves_in e

abbrev pub body_leaves : Body Atom → List Atom
body_leaves (xfst e) = leaves_in e
body_leaves (lexc lexicons) = flat_map form_leaves (forms_in lexicons)
body_leaves (twolc grammar) = leaves_in_grammar grammar

-- an expression of the body uses the alphabet
abbrev pub body_uses_alphabet : Body Atom → Bool
body_uses_alphabet body = list_any (λ e. uses_alphabet e) (expressions_of body)

-- the symbol stands in the body, in a part, or, where an expression of the body uses the alphabet, in the alphabet
abbrev pub MayUse : List Part → List Symbol → Body Atom → Symbol → Type 0
MayUse parts alphabet body s = (Contains (body_leaves body) (Sym s) ⊎ PartsUse parts s) ⊎ (IsTrue (body_uses_alphabet body) × Contains alphabet s)

-- the relation is what the grammar relates, by the texts of each alphabet that has its symbols
abbrev pub IsRelationOfGrammar : Grammar Atom → (List Symbol → List Symbol → Type 0) → Type 0
IsRelationOfGrammar grammar R =
    (named : List (Symbol × List ℕ)) → IsAlphabet named → HasLeaves (is_symbol_of (symbols_of named)) grammar
    → IsSpelled named R (GrammarRelates (in_texts (text_of named) grammar))

-- the relation is what the body relates over the alphabet, where each name relates what its part does
abbrev pub IsRelationOf : List Part → List Symbol → Body Atom → (List Symbol → List Symbol → Type 0) → Type 0
IsRelationOf parts alphabet (xfst e) R = AreSame R (Relates (stands parts) alphabet e)
IsRelationOf parts alphabet (lexc lexicons) R = AreSame R (LexiconsRelate symbol_in (stands parts) alphabet lexicons)
IsRelationOf parts alphabet (twolc grammar) R = IsRelationOfGrammar grammar R

-- the network is of the kind of the body, relates what this relates over the alphabet, and has such symbols alone, which are of the
-- alphabet
pub record IsNetworkOf (parts : List Part) (alphabet : List Symbol) (body : Body Atom) (n : Network) : Type 0 where
  pub kind : kind_of_network n ≡ kind_of_body (kinds parts) body
  pub relation : IsRelationOf parts alphabet body (PairsOf n)
  pub symbols : (s : Symbol) → UsesSymbol n s → MayUse parts alphabet body s
  pub over : IsNetwork alphabet n

-- one of the centres in an expression of the body has the empty word
abbrev pub BodyHasEmptyCentre : List Part → List Symbol → Body Atom → Type 0
BodyHasEmptyCentre parts alphabet body = (e : Term Atom) × Contains (expressions_of body) e × HasEmptyCentre parts alphabet e

-- one of the definition's own centres has the empty word, or there is no memory
abbrev pub IsWhyNotBuilt : List Part → List Symbol → Definition → BuildError → Type 0
IsWhyNotBuilt parts alphabet d (Memory refused) = Unit {0}
IsWhyNotBuilt parts alphabet d (EmptyCentre line) = (line ≡ d.line) × BodyHasEmptyCentre parts alphabet (body_of d.body)
