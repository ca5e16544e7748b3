-- The network of a grammar: it relates what the grammar relates, however its symbols are written.
use Rattle.std.specs.Prelude.{ℕ, List, All}
use Rattle.fsm_base.specs.Alphabet.{IsAlphabet, symbols_of, text_of}
use Rattle.fsm_base.specs.declared.letters.Sym.{Sym}
use Rattle.regex_ast.specs.declared.expr.Atom.{Atom}
use Rattle.regex_ast.specs.declared.twolc.Grammar.{Grammar as GrammarOf}
use Rattle.expr_spelling.specs.Laws.{IsSpelled}
use Rattle.network_algebra.specs.Networks.{PairsOf}
use Rattle.network_algebra.specs.declared.network.Network.{Network}
use Rattle.project_meaning.specs.Grammars.{GrammarRelates}
use Rattle.grammar_pairs.specs.Feasible.{feasible}
use Rattle.grammar_pairs.specs.Plain.{grammar_of}
use Rattle.grammar_pairs.specs.Texts.{IsPairOver, in_texts}

-- each symbol of a feasible pair is one of these
abbrev pub IsOverSymbols : List Sym → GrammarOf Atom → Type 0
IsOverSymbols symbols g = All (IsPairOver symbols) (feasible g)

-- by the texts of each alphabet that has its symbols
abbrev pub IsNetworkOf : GrammarOf Atom → Network → Type 0
IsNetworkOf g n =
    (alphabet : List (Sym × List ℕ)) → IsAlphabet alphabet → IsOverSymbols (symbols_of alphabet) g
    → IsSpelled alphabet (PairsOf n) (GrammarRelates (in_texts (text_of alphabet) (grammar_of g)))
