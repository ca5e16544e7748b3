-- Which lexicons are built: each symbol on a side is one of the alphabet, and each expression is built over it and fits.
use Rattle.std.specs.Prelude.{List, All, IsTrue}
use Rattle.fsm_base.specs.declared.letters.Sym.{Sym}
use Rattle.regex_ast.specs.declared.expr.Atom.{Atom}
use Rattle.expr_kinds.specs.Atoms.{is_symbol_of}
use Rattle.expr_kinds.specs.Kinds.{Fits}
use Rattle.project_meaning.specs.Trees.{Piece, letter, flag, Form, sides, pairs, Entry, Lexicon}
use Rattle.network_expr.specs.Built.{IsBuiltOver}
use Rattle.network_expr.specs.Parts.{kinds}
use Rattle.network_expr.specs.declared.parts.Part.{Part}

abbrev pub PieceIsBuilt : List Sym → Piece Atom → Type 0
PieceIsBuilt alphabet (letter leaf) = IsTrue (is_symbol_of alphabet leaf)
PieceIsBuilt alphabet (flag f) = Unit {0}

abbrev pub FormIsBuilt : List Part → List Sym → Form Atom → Type 0
FormIsBuilt parts alphabet (sides upper lower) = All (PieceIsBuilt alphabet) upper × All (PieceIsBuilt alphabet) lower
FormIsBuilt parts alphabet (pairs e) = IsBuiltOver parts alphabet e × Fits (kinds parts) e

abbrev pub EntriesAreBuilt : List Part → List Sym → List (Entry Atom) → Type 0
EntriesAreBuilt parts alphabet entries = All (λ entry. FormIsBuilt parts alphabet entry.form) entries

abbrev pub AreBuilt : List Part → List Sym → List (Lexicon Atom) → Type 0
AreBuilt parts alphabet lexicons = All (λ lexicon. EntriesAreBuilt parts alphabet lexicon.entries) lexicons
